-- The first region whose quota files would reach, as their totals are gone through.
use Rattle.std.proofs.Common.{◌≡◌, ℕ, zero, suc, ◌<◌, false, List, [], ◌∷◌, length, get_or, Option, None, Some, Ok, refl, sym, ap, ◌∙◌, arith}
use Rattle.std.specs.Option.{option_or}
use Rattle.std.proofs.lemmas.Bool.Decides.{nat_tests}
use Rattle.vr_base.specs.Checks.{Told, nothing, exactly, never, Tells, unless_fault}
use Rattle.vr_base.specs.declared.calls.Reply.{Reply}
use Rattle.vr_files.specs.FileMaps.{FileMap}
use Rattle.vr_policy_check.specs.Rules.{CheckedData}
use Rattle.vr_rights.specs.Tables.{IsRegionsOf, RegionsData}
use Rattle.vr_rights.proofs.CallLemmas.{quota_of_region}
use Rattle.vr_core.specs.Machine.{quotas_check}
use Rattle.vr_core.specs.Quotas.{AreTotals, first_fault, is_over, quotas_fault, region_fault, region_names, total_fault, total_of}
use Rattle.vr_core.proofs.OrderLemmas.{numbered_names}

-- what is told of one fault is told of all, where it is the first
told_first : (what : Told Reply) (fault whole : Option Reply) → ((reply : Reply) → fault ≡ Some reply → whole ≡ Some reply)
    → Tells what (unless_fault fault (tt {0})) → Tells what (unless_fault whole (tt {0}))
told_first nothing fault whole first h = tt
told_first (exactly refusal) None whole first h = cc
told_first (exactly refusal) (Some reply) whole first h =
    let same : reply ≡ refusal = cc in
    rw (first reply refl, same) refl
told_first never fault whole first h = h

-- a check that passes has no fault
pub no_fault : (fault : Option Reply) (done : Unit {0}) → unless_fault fault (tt {0}) ≡ Ok done → fault ≡ None
no_fault None done h = refl
no_fault (Some reply) done h = cc

module _ (policy : CheckedData) (old new : FileMap) where
  first_at : (names : List (List ℕ)) (k : ℕ) (reply : Reply) → k < length names → ((j : ℕ) → j < k → region_fault policy old new (get_or names j []) ≡ None)
      → region_fault policy old new (get_or names k []) ≡ Some reply → first_fault policy old new names ≡ Some reply
  first_at [] k reply l before here = absurd (omega arith)
  first_at (name ∷ names) zero reply l before here = ap (λ o. option_or o (first_fault policy old new names)) here
  first_at (name ∷ names) (suc k) reply l before here =
      ap (λ o. option_or o (first_fault policy old new names)) (before 0 (omega arith))
      ∙ first_at names k reply (omega (arith, l)) (λ j m. before (suc j) (omega (arith, m))) here

  none_at : (names : List (List ℕ)) → ((j : ℕ) → j < length names → region_fault policy old new (get_or names j []) ≡ None) → first_fault policy old new names ≡ None
  none_at [] none = refl
  none_at (name ∷ names) none =
      ap (λ o. option_or o (first_fault policy old new names)) (none 0 (omega arith)) ∙ none_at names (λ j m. none (suc j) (omega (arith, m)))

module _ (policy : CheckedData) (table : RegionsData) (are : IsRegionsOf policy table) (old new : FileMap) (olds news : List ℕ)
    (first : AreTotals policy table.names old olds) (second : AreTotals policy table.names new news) where
  fault_is : (place : ℕ) → place < length table.names
      → total_fault (get_or table.quotas place None) (get_or table.names place []) (get_or olds place 0) (get_or news place 0) ≡ region_fault policy old new (get_or table.names place [])
  fault_is place l = rw (quota_of_region policy table are place l, first.each place l, second.each place l) refl

  -- no region before a place has a fault
  abbrev pub AreFine : ℕ → Type 0
  AreFine count = (place : ℕ) → place < count
      → total_fault (get_or table.quotas place None) (get_or table.names place []) (get_or olds place 0) (get_or news place 0) ≡ None

  -- the refusal of the first region whose quota would be reached
  pub refused_at : (k : ℕ) (what : Told Reply) → k < length table.names → AreFine k
      → Tells what (unless_fault (total_fault (get_or table.quotas k None) (get_or table.names k []) (get_or olds k 0) (get_or news k 0)) (tt {0}))
      → Tells what (quotas_check policy old new)
  refused_at k what l fine h = told_first what _ (quotas_fault policy old new) (λ reply e.
      ap (first_fault policy old new) (sym (numbered_names policy table are))
      ∙ first_at policy old new table.names k reply l (λ j m. sym (fault_is j (omega (arith, l, m))) ∙ fine j m) (sym (fault_is k l) ∙ e)) h

  -- none would be
  pub all_fine : AreFine (length table.names) → quotas_check policy old new ≡ Ok tt
  all_fine fine =
      let none : quotas_fault policy old new ≡ None =
      ap (first_fault policy old new) (sym (numbered_names policy table are)) ∙ none_at policy old new table.names (λ j m. sym (fault_is j m) ∙ fine j m) in
      rw none refl

-- ---- the same files reach no quota

not_over : (quota total : ℕ) → is_over quota total total ≡ false
not_over quota total = grind (arith, nat_tests)

pub same_total : (quota : Option ℕ) (name : List ℕ) (total : ℕ) → total_fault quota name total total ≡ None
same_total None name total = refl
same_total (Some quota) name total = rw (not_over quota total) refl

same_files : (policy : CheckedData) (files : FileMap) (names : List (List ℕ)) → first_fault policy files files names ≡ None
same_files policy files [] = refl
same_files policy files (name ∷ names) =
    ap (λ o. option_or o (first_fault policy files files names)) (same_total _ name (total_of policy files name)) ∙ same_files policy files names

-- files that stay as they are reach no quota
pub unchanged_fine : (policy : CheckedData) (files : FileMap) → quotas_check policy files files ≡ Ok tt
unchanged_fine policy files = rw (same_files policy files (region_names policy)) refl
