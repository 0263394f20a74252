-- What the totals say of a path's region: how its quota is answered, and what they are after a file is kept there.
use Rattle.std.proofs.Common.{◌≡◌, ℕ, ◌+◌, ◌-◌, ◌*◌, ◌^◌, ◌<◌, ◌≤◌, List, [], ◌∷◌, length, replicate, set, get_or, Option, None, Some, Ok, refl, sym, ap, ◌∙◌, arith}
use Rattle.std.specs.Prelude.{unwrap_or}
use Rattle.std.specs.FinMap.{get, insert, len, len-entries, entries}
use Rattle.std.proofs.lemmas.List.{get_or-map}
use Rattle.vr_base.specs.Checks.{unless_fault, fault_if}
use Rattle.vr_base.specs.declared.calls.Reply.TheVariants.{QuotaReached}
use Rattle.std.specs.FinMap.{len-empty}
use Rattle.std.proofs.lemmas.List.{length-replicate, get_or-replicate}
use Rattle.std.proofs.lemmas.List.Elements.{All-nil}
use Rattle.vr_files.specs.FileMaps.{FileMap, no_files, path_cmp}
use Rattle.vr_policy_check.specs.Rules.{CheckedData}
use Rattle.vr_rights.specs.Quotas.{quota_of}
use Rattle.vr_rights.specs.Regions.{region_number}
use Rattle.vr_rights.specs.Tables.{RegionsData, IsRegionsOf}
use Rattle.vr_core.specs.Files.{KeepsTotals}
use Rattle.vr_core.specs.Machine.{bytes_at, quota_check}
use Rattle.vr_core.specs.Quotas.{HasRoomIn, region, is_in, is_over, total_changed, total_of}
use Rattle.vr_files.specs.Changes.{changed}
use Rattle.vr_core.proofs.Totals.{region_at, size_of, in_region, in_itself, total_most, totals_here, totals_nowhere, small-changed}

module _ (policy : CheckedData) (table : RegionsData) (files : FileMap) (sums : List ℕ) (keeps : KeepsTotals policy table files sums) (path : List ℕ) where
  old_bytes : (old : Option (List ℕ)) → size_of old ≡ length (unwrap_or old [])
  old_bytes None = refl
  old_bytes (Some bytes) = refl

  -- a path without a region has no quota
  pub no_region : region_number table.names path ≡ None → (body : List ℕ) → quota_check policy files (insert files path body) path ≡ Ok tt
  no_region e body =
      let cases = region_at policy table keeps.regions path in
      let none : region policy path ≡ None = rw e at cases in
      rw none refl

  module _ (place : ℕ) (e : region_number table.names path ≡ Some place) where
    here : (place < length table.names) × (region policy path ≡ Some (get_or table.names place []))
    here = let cases = region_at policy table keeps.regions path in rw e at cases

    pub within : place < length table.names
    within = here.0

    -- the quota of the region, as the regions tell it
    pub quota_at : get_or table.quotas place None ≡ quota_of (get_or table.names place []) policy.policy.quotas
    quota_at = ap (λ (t : RegionsData). get_or t.quotas place None) keeps.regions.tables
        ∙ get_or-map (λ name. quota_of name policy.policy.quotas) table.names place [] None here.0

    -- the total of a region counts the file at the path
    pub total_counts : length (bytes_at files path) ≤ get_or sums place 0
    total_counts =
        let inside = in_itself policy table.names keeps.regions.ordered files path None (get_or table.names place []) here.1 in
        let sum = in_region policy table.names keeps.regions.ordered files path None (get_or table.names place []) inside in
        omega (arith, sum, old_bytes (get files path), keeps.totals.each place here.0)

    pub total_fits : get_or sums place 0 ≤ 16777216 * len files
    total_fits = rw (keeps.totals.each place here.0, len-entries files)
        (total_most (is_in policy (get_or table.names place [])) 16777216 (entries files) keeps.small)

    -- what the quota of the region answers
    pub quota_answer : (body : List ℕ) (quota new : ℕ) → quota_of (get_or table.names place []) policy.policy.quotas ≡ Some quota
        → new + length (bytes_at files path) ≡ get_or sums place 0 + length body
        → quota_check policy files (insert files path body) path
        ≡ unless_fault (fault_if (is_over quota (get_or sums place 0) new) (QuotaReached (get_or table.names place []) new)) tt
    quota_answer body quota new q sum =
        let inside = in_itself policy table.names keeps.regions.ordered files path (Some body) (get_or table.names place []) here.1 in
        let total = in_region policy table.names keeps.regions.ordered files path (Some body) (get_or table.names place []) inside in
        let same : total_of policy (insert files path body) (get_or table.names place []) ≡ new =
        omega (arith, total, sum, old_bytes (get files path), keeps.totals.each place here.0) in
        rw (here.1, q, same, sym (keeps.totals.each place here.0)) refl

    pub no_quota : quota_of (get_or table.names place []) policy.policy.quotas ≡ None → (body : List ℕ)
        → quota_check policy files (insert files path body) path ≡ Ok tt
    no_quota q body = rw (here.1, q) refl

    -- the totals after a change at the path
    keeps_here : (body : Option (List ℕ)) (new : ℕ) → new + length (bytes_at files path) ≡ get_or sums place 0 + size_of body → size_of body ≤ 16777216
        → KeepsTotals policy table (changed files path body) (set sums place new)
    keeps_here body new sum small = record {
      regions = keeps.regions;
      totals = totals_here policy table.names keeps.regions.ordered files path body sums place new keeps.totals here.0 here.1
          (omega (arith, sum, old_bytes (get files path)));
      small = small-changed 16777216 files path body keeps.small small;
    }

  keeps_nowhere : region_number table.names path ≡ None → (body : Option (List ℕ)) → size_of body ≤ 16777216
      → KeepsTotals policy table (changed files path body) sums
  keeps_nowhere e body small =
      let cases = region_at policy table keeps.regions path in
      let none : region policy path ≡ None = rw e at cases in
      record {
        regions = keeps.regions;
        totals = totals_nowhere policy table.names keeps.regions.ordered files path body sums keeps.totals none;
        small = small-changed 16777216 files path body keeps.small small;
      }

  -- there is room for the size of a body in the total of the path's region
  pub has_room : (place size : ℕ) → region_number table.names path ≡ Some place → size ≤ 16777216 → 16777216 * len files < 2 ^ 127
      → HasRoomIn sums place (length (bytes_at files path)) size
  has_room place size e small few = record {
    within = rw keeps.totals.all (within place e);
    counted = total_counts place e;
    room = let most = total_fits place e in omega (arith, most, small, few);
  }

  -- the totals after a change at the path
  pub keeps_changed : (body : Option (List ℕ)) → length (unwrap_or body []) ≤ 16777216
      → KeepsTotals policy table (changed files path body) (total_changed sums (region_number table.names path) (length (bytes_at files path)) (length (unwrap_or body [])))
  keeps_changed body small = by_region (region_number table.names path) refl
    where
      by_region : (number : Option ℕ) → region_number table.names path ≡ number
          → KeepsTotals policy table (changed files path body) (total_changed sums number (length (bytes_at files path)) (length (unwrap_or body [])))
      by_region None e = keeps_nowhere e body (omega (arith, small, old_bytes body))
      by_region (Some place) e =
          let counts = total_counts place e in
          keeps_here place e body (get_or sums place 0 - length (bytes_at files path) + length (unwrap_or body []))
          (omega (arith, counts, old_bytes body)) (omega (arith, small, old_bytes body))

-- ---- no files

nothing_in : {A : Type 0} (xs : List A) → length xs ≡ 0 → xs ≡ []
nothing_in [] h = refl
nothing_in (x ∷ xs) h = absurd (omega arith)

no_entries : entries no_files ≡ []
no_entries = nothing_in (entries no_files) (sym (len-entries no_files) ∙ len-empty path_cmp (List ℕ))

same_at : (n i z : ℕ) → i < n → get_or (replicate n z) i z ≡ z
same_at n i z h = get_or-replicate n i z z h

-- without files each total is 0
pub keeps_nothing : (policy : CheckedData) (table : RegionsData) → IsRegionsOf policy table
    → KeepsTotals policy table no_files (replicate (length table.names) 0)
keeps_nothing policy table are = record {
  regions = are;
  totals = record {
    all = length-replicate (length table.names) 0;
    each = λ place inside. same_at (length table.names) place 0 inside ∙ sym (rw no_entries refl);
  };
  small = rw no_entries (All-nil _);
}
