-- What a book is going to do for a call that its checks let pass.
use Rattle.std.specs.Prelude.{IsTrue, List}
use Rattle.vr_base.specs.declared.calls.Reply.{Reply}
use Rattle.vr_files.specs.Changes.{AreDifferences, Change, applied}
use Rattle.vr_files.specs.FileMaps.{FileMap}
use Rattle.vr_core.specs.Machine.{Effect, effect}
use Rattle.vr_base.specs.Calls.{is_made}
use Rattle.vr_core.specs.Replies.{IsKept}
use Rattle.vr_core.specs.declared.book.Plan.{Plan}
use Rattle.vr_core.specs.declared.book.Plan.TheVariants.{Answer, Keep}

-- what the plan comes to over these files
abbrev pub plan_effect : FileMap → Plan → Effect
plan_effect files (Answer reply) = effect reply files
plan_effect files (Keep reply changes) = effect reply (applied files changes)

-- A reply without changes: its call was made, and the keeper need not be asked for it.
pub record IsAnswer (files : FileMap) (reply : Reply) : Type 0 where
  pub made : IsTrue (is_made reply)
  pub unasked : IsKept files (effect reply files) → ⊥

-- the keeper is asked for a plan exactly where the machine keeps changes
abbrev pub AsksRightly : FileMap → Plan → Type 0
AsksRightly files (Answer reply) = IsAnswer files reply
AsksRightly files (Keep reply changes) = IsKept files (effect reply (applied files changes))

-- the changes are those that make some files of these
abbrev pub HasDifferences : FileMap → List Change → Type 0
HasDifferences files changes = (after : FileMap) × AreDifferences files after changes
