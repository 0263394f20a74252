-- The numbers of the replies, and which calls were made.
use Rattle.std.specs.Prelude.{ℕ, Bool, true, false}
use Rattle.vr_base.specs.declared.calls.Reply.{Reply}
use Rattle.vr_base.specs.declared.calls.Reply.TheVariants.{Stored, Read, Ended, PolicyHash, NoSuchFile, Denied, NoSuchPipeline, PinMissing, PinMismatch, TooLarge, BadProgram, Trapped, OutOfFuel, BadPath, Unavailable, OutOfMemory, Unkeyed, QuotaReached}

-- a call that was done has 0, and each refusal its own number
abbrev pub reply_number : Reply → ℕ
reply_number Stored = 0
reply_number (Read body) = 0
reply_number (Ended code out) = 0
reply_number (PolicyHash digits) = 0
reply_number (NoSuchFile path) = 1
reply_number (Denied path right) = 2
reply_number (NoSuchPipeline id) = 3
reply_number (PinMissing path) = 4
reply_number (PinMismatch path found) = 5
reply_number (TooLarge size) = 6
reply_number (BadProgram path why) = 7
reply_number (Trapped path kind) = 8
reply_number (OutOfFuel path) = 9
reply_number (BadPath fault) = 10
reply_number Unavailable = 11
reply_number OutOfMemory = 12
reply_number Unkeyed = 13
reply_number (QuotaReached name size) = 14

-- Whether a call that is answered so was made, and has its entry in the history: without the
-- keeper, or without memory, it was not.
abbrev pub is_made : Reply → Bool
is_made Unavailable = false
is_made OutOfMemory = false
is_made reply = true
