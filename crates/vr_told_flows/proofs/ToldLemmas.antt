-- The reach that a line prints is closed by ids as it is by places, and least.
use Rattle.std.proofs.Common.{◌≡◌, ℕ, ◌<◌, Bool, true, false, List, length, get_or, slice_get, Option, None, Some, refl, sym, ap, ◌∙◌, subst, arith}
use Rattle.std.specs.Prelude.{◌==◌, find}
use Rattle.std.specs.List.{position_or_len}
use Rattle.std.specs.Option.{option_map_or}
use Rattle.std.proofs.lemmas.Bool.{lt-ltb}
use Rattle.std.proofs.lemmas.Bool.Decides.{nat_tests}
use Rattle.std.proofs.lemmas.List.{length-map, get_or-map}
use Rattle.std.proofs.lemmas.List.Sums.{position_or_len_is}
use Rattle.std.proofs.lemmas.Option.{get_or_from_slice_get, slice_get_within}
use Rattle.vr_policy_check.specs.Checked.{identity_place}
use Rattle.vr_policy_check.specs.Repeats.{IsDistinct}
use Rattle.vr_policy_check.specs.Rules.{CheckedData, identity_ids}
use Rattle.vr_policy_read.specs.declared.entries.Identity.{Identity}
use Rattle.vr_flow.specs.Flows.{flows_of}
use Rattle.vr_flow.specs.Places.{Within, has_place}
use Rattle.vr_flow.specs.Reach.{IsClosed, IsReachOf, ReachData}
use Rattle.vr_exec.proofs.ListLemmas.{find_has}
use Rattle.vr_core.specs.Isolation.{IsClosedFor, at_places, flows}
use Rattle.vr_core.proofs.OrderLemmas.{numbered_names}
use Rattle.vr_core.proofs.Places.{found_by_place}
use Rattle.vr_report.specs.Flows.{flow_lines, reach_at}
use Rattle.vr_told_flows.specs.ToldFlows.{BoundsLearning, PrintsBounds, told_ids}

-- ---- an identity's place

module _ (ids : List ℕ) (distinct : IsDistinct ids) (place id : ℕ) (within : place < length ids) (here : get_or ids place 0 ≡ id) where
  before : (k : ℕ) → k < place → (get_or ids k 0 == id) ≡ false
  before k l =
      let differs : get_or ids k 0 ≡ id → ⊥ = λ e. distinct k place 0 l within (e ∙ sym here) in
      grind (arith, nat_tests, differs)

  first : position_or_len (λ listed. listed == id) ids ≡ place
  first =
      position_or_len_is (λ listed. listed == id) ids place 0 (omega (arith, within)) before
      (λ _. grind (arith, nat_tests, here))

module _ (checked : CheckedData) (distinct : IsDistinct (identity_ids checked.policy)) where
  abbrev listed : List Identity
  listed = checked.policy.identities

  -- an identity's id stands first at its own place
  place_of : (place : ℕ) (identity : Identity) → slice_get listed place ≡ Some identity
      → identity_place checked.policy identity.id ≡ Some place
  place_of place identity at =
      let within : place < length listed = slice_get_within listed place identity at in
      let there : place < length (identity_ids checked.policy) = rw length-map within in
      let here : get_or (identity_ids checked.policy) place 0 ≡ identity.id =
      get_or-map (λ (i : Identity). i.id) listed place identity 0 within
      ∙ ap (λ (i : Identity). i.id) (get_or_from_slice_get listed place identity identity at) in
      rw (first (identity_ids checked.policy) distinct place identity.id there here, lt-ltb _ _ there) refl

  module _ (reach : ReachData) where
    -- at an identity's place the ids of a reach say what its places say
    told_at : (place : ℕ) (identity : Identity) → slice_get listed place ≡ Some identity
        → at_places checked (told_ids checked reach) place ≡ has_place reach.identities place
    told_at place identity at = rw (at, place_of place identity at) refl

    -- an identity that modifies a region has a place
    modifies_there : (place region : ℕ) → (flows checked).identity_modifies place region ≡ true → (identity : Identity) × (slice_get listed place ≡ Some identity)
    unfolding flows_of
    modifies_there place region h = by_place (slice_get listed place) refl
      where
        by_place : (found : Option Identity) → slice_get listed place ≡ found → (identity : Identity) × (slice_get listed place ≡ Some identity)
        by_place None none = let clash : false ≡ true = rw none at h in absurd (let no : ⊥ = cc in no)
        by_place (Some identity) some = (identity, some)

    module _ (place : ℕ) (identity : Identity) (at : slice_get listed place ≡ Some identity) (is : IsReachOf (flows checked) place reach) where
      closed_here : IsClosed (flows checked) place (at_places checked (told_ids checked reach)) (has_place reach.regions)
      closed_here = record {
        itself = told_at place identity at ∙ is.closed.itself;
        observed = is.closed.observed;
        led = is.closed.led;
        modified = λ who changed modifies inside.
            let there = modifies_there who changed modifies in
            told_at who there.0 there.1 ∙ is.closed.modified who changed modifies inside;
      }

      closed_for : IsClosedFor checked identity.id (told_ids checked reach) (has_place reach.regions)
      closed_for = record {
        itself = rw (place_of place identity at) is.closed.itself;
        closed = rw (place_of place identity at) closed_here;
      }

      -- an id that is told is the id of an identity at one of the places
      told_has : (ids : ℕ → Bool) → Within (has_place reach.identities) (at_places checked ids) → Within (told_ids checked reach) ids
      told_has ids within who told = by_place (identity_place checked.policy who) refl told
        where
          by_found : (found : Option Identity) → find (λ (i : Identity). i.id == who) listed ≡ found
              → option_map_or (λ (i : Identity). ids i.id) found false ≡ true → ids who ≡ true
          by_found None none h = absurd (let no : ⊥ = cc in no)
          by_found (Some i) some h =
              let passes : (i.id == who) ≡ true = (find_has (λ (y : Identity). y.id == who) listed i some).1 in
              let same : i.id ≡ who = grind (arith, nat_tests, passes) in
              ap ids (sym same) ∙ h

          by_place : (found : Option ℕ) → identity_place checked.policy who ≡ found → option_map_or (has_place reach.identities) found false ≡ true → ids who ≡ true
          by_place None none h = absurd (let no : ⊥ = cc in no)
          by_place (Some there) some h =
              let inside : option_map_or (λ (i : Identity). ids i.id) (slice_get listed there) false ≡ true = within there h in
              let found = found_by_place (λ (i : Identity). i.id) who listed there some in
              by_found (find (λ (i : Identity). i.id == who) listed) refl
              (ap (λ (o : Option Identity). option_map_or (λ (i : Identity). ids i.id) o false) found ∙ inside)

      bounds : BoundsLearning checked identity.id reach
      bounds = record {
        closed = closed_for;
        least = λ ids regions closed.
            let here : IsClosed (flows checked) place (at_places checked ids) regions =
            rw (place_of place identity at) at closed.closed in
            let inside = is.least (at_places checked ids) regions here in
            (told_has ids inside.0, inside.1);
      }

-- ---- a text

pub prints_bounds : PrintsBounds
prints_bounds checked is text flow =
    let names = numbered_names checked flow.regions flow.named in
    record {
      reaches = flow.lines.reaches;
      all = flow.lines.all;
      each = λ place identity at.
          let within : place < length checked.policy.identities = slice_get_within checked.policy.identities place identity at in
          let reach = flow.lines.each place within in
          bounds checked is.identities (reach_at flow.lines.reaches place) place identity at
          (subst (λ (ns : List (List ℕ)). IsReachOf (flows_of checked ns) place (reach_at flow.lines.reaches place)) names reach);
      written = flow.lines.written ∙ ap (λ (ns : List (List ℕ)). flow_lines checked.policy.identities ns flow.lines.reaches) names;
    }
