-- Changes that are the differences of files: where there are some, the files become others.
use Rattle.std.proofs.Common.{◌≡◌, ℕ, List, [], ◌∷◌, Ok, refl, sym, ap, ◌∙◌, subst}
use Rattle.std.specs.FinMap.{get}
use Rattle.vr_base.specs.Checks.{◌>>◌}
use Rattle.vr_exec.proofs.DifferLemmas.{listed_differs}
use Rattle.vr_files.specs.Changes.{Change, applied}
use Rattle.vr_files.specs.FileMaps.{FileMap}
use Rattle.vr_policy_check.specs.Rules.{CheckedData}
use Rattle.vr_rights.proofs.LongestLemmas.{Contains-head}
use Rattle.vr_base.specs.declared.calls.Reply.TheVariants.{Ended}
use Rattle.vr_core.specs.Machine.{Checked, effect, ended_effect}
use Rattle.vr_core.specs.Plans.{HasDifferences}
use Rattle.vr_core.proofs.FaultLemmas.{unchanged_fine}

-- changes that leave the files as they are, and are their differences, are none
pub changes_something : (files : FileMap) (changes : List Change) → HasDifferences files changes → (changes ≡ [] → ⊥) → applied files changes ≡ files → ⊥
changes_something files [] h some same = some refl
changes_something files (change ∷ changes) (after, differ) some same =
    listed_differs files after (change ∷ changes) change differ (Contains-head change changes)
    (ap (λ (m : FileMap). get m change.0) (sym differ.applied ∙ same))

-- a run without changes ends as it is
pub ended_unchanged : (policy : CheckedData) (files : FileMap) (code : ℕ) (out : List ℕ) (changes : List Change) → changes ≡ [] → ended_effect policy files code out changes ≡ Ok (effect (Ended code out) files)
ended_unchanged policy files code out changes none =
    subst (λ (cs : List Change). ended_effect policy files code out cs ≡ Ok (effect (Ended code out) files)) (sym none)
    (ap (λ (fine : Checked (Unit {0})). fine >> Ok (effect (Ended code out) files)) (unchanged_fine policy files))
