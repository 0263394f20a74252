-- What a refusal says, wherever it is told: a line of a report has it, and a response's body.
use Rattle.std.specs.Prelude.{ℕ, List, [], ◌++◌, codes, unwrap_or}
use Rattle.vr_base.specs.Rights.{right_name}
use Rattle.vr_base.specs.declared.names.PathFault.{PathFault}
use Rattle.vr_base.specs.declared.names.PathFault.TheVariants as faults
use Rattle.vr_base.specs.declared.calls.Reply.{Reply}
use Rattle.vr_base.specs.declared.calls.Reply.TheVariants.{Stored, Read, Ended, PolicyHash, NoSuchFile, Denied, NoSuchPipeline, PinMissing, PinMismatch, TooLarge, BadProgram, Trapped, OutOfFuel, BadPath, Unavailable, OutOfMemory, Unkeyed, QuotaReached}
use Rattle.vr_base.specs.declared.calls.Why.{Why}
use Rattle.vr_base.specs.declared.calls.Why.TheVariants.{Decode, Invalid, Link}
use Rattle.vr_text.specs.Words.{word, number}

-- why a program is none
abbrev pub why_text : Why → List ℕ
why_text (Decode kind at) = codes " decode" ++ number kind ++ codes " at" ++ number at
why_text (Invalid part index) = codes " invalid" ++ number part ++ number index
why_text (Link kind index) = codes " link" ++ number kind ++ number index

-- the number of a name's fault, and the place of a bad byte
abbrev pub fault_text : PathFault → List ℕ
fault_text faults.EmptySegment = codes "1"
fault_text (faults.BadByte at) = codes "2 at" ++ number at
fault_text faults.DotSegment = codes "3"
fault_text faults.TooLong = codes "4"
fault_text faults.OutOfMemory = codes "5"

-- what a refusal says, and nothing where the call was done
abbrev pub refusal_text : Reply → List ℕ
refusal_text Stored = []
refusal_text (Read body) = []
refusal_text (Ended code out) = []
refusal_text (PolicyHash digits) = []
refusal_text (NoSuchFile path) = codes "no such file" ++ word path
refusal_text (Denied path right) =
    codes "denied" ++ word path ++ word (unwrap_or (right_name right) [])
refusal_text (NoSuchPipeline id) = codes "no such pipeline" ++ number id
refusal_text (PinMissing path) = codes "pin missing" ++ word path
refusal_text (PinMismatch path found) = codes "pin mismatch" ++ word path ++ word found
refusal_text (TooLarge size) = codes "too large" ++ number size
refusal_text (BadProgram path why) = codes "bad program" ++ word path ++ why_text why
refusal_text (Trapped path kind) = codes "trapped" ++ word path ++ number kind
refusal_text (OutOfFuel path) = codes "out of fuel" ++ word path
refusal_text (BadPath fault) = codes "bad path" ++ word (fault_text fault)
refusal_text Unavailable = codes "unavailable"
refusal_text OutOfMemory = codes "out of memory"
refusal_text Unkeyed = codes "unkeyed"
refusal_text (QuotaReached name size) = codes "quota" ++ word name ++ number size
