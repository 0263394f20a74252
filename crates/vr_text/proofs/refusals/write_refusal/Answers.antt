use Rattle.std.proofs.Common.{append_assoc}
use Rattle.vr_text.proofs.refusals.write_refusal.Goals as goal

pub returns-in-PinMissing : goal.returns-in-PinMissing
returns-in-PinMissing c = rw c.in-PinMissing.is c.about-in-PinMissing.ensures

pub returns-in-OutOfFuel : goal.returns-in-OutOfFuel
returns-in-OutOfFuel c = rw c.in-OutOfFuel.is c.about-in-OutOfFuel.ensures

pub returns-in-Unavailable : goal.returns-in-Unavailable
returns-in-Unavailable c = rw c.in-Unavailable.is c.bytes-in-Unavailable.ensures

pub returns-in_ok-about-in-Denied : goal.returns-in_ok-about-in-Denied
returns-in_ok-about-in-Denied c = rw (c.in-Denied.is, c.name.ensures) (rw (c.as_bytes.ensures.value, c.in_ok-about-in-Denied.ensures, append_assoc) at c.word.ensures)

pub returns-in_ok-about-in-PinMismatch : goal.returns-in_ok-about-in-PinMismatch
returns-in_ok-about-in-PinMismatch c = rw c.in-PinMismatch.is (rw (c.in_ok-about-in-PinMismatch.ensures, append_assoc) at c.word-in-PinMismatch.ensures)

pub returns-in_ok-about-in-BadProgram : goal.returns-in_ok-about-in-BadProgram
returns-in_ok-about-in-BadProgram c = rw c.in-BadProgram.is (rw (c.in_ok-about-in-BadProgram.ensures, append_assoc) at c.write_why.ensures)
