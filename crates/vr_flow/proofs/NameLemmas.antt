-- The regions that paths name.
use Rattle.std.proofs.Common.{◌≡◌, ℕ, ◌+◌, ◌<◌, ◌≤◌, Bool, true, false, ◌||◌, eqb, List, [], length, take, get_or, Some, Contains, slice_get, bytes_eq, refl, sym, ◌∙◌, ap, ◌⊎◌, inl, inr, arith}
use Rattle.std.proofs.lemmas.Bool.{cases_lt, eqb-true, eq-eqb, false_from_ne_true}
use Rattle.std.proofs.lemmas.List.{get_or_default}
use Rattle.std.proofs.lemmas.Option.{slice_get-get_or}
use Rattle.std.proofs.lemmas.Slice.Eq.{bytes_eq-Decides}
use Rattle.std.proofs.Math.Bool.{or-false, or_assoc}
use Rattle.vr_base.specs.Names.{IsPath}
use Rattle.vr_rights.specs.Flows.{is_among}
use Rattle.vr_rights.specs.Ordered.{IsOrdered, IsAt}
use Rattle.vr_rights.specs.Regions.{region_number}
use Rattle.vr_rights.proofs.ChainLemmas.{same_place}
use Rattle.vr_rights.proofs.RegionLemmas.{region_here}
use Rattle.vr_flow.specs.Flows.{at_place}
use Rattle.vr_flow.specs.Places.{has_place, just, Adds}
use Rattle.vr_flow.proofs.TableLemmas.{any_more, at_some, at_none}

-- a path that is a name lies in its own region
pub named_here : (names : List (List ℕ)) (path : List ℕ) → IsOrdered names → Contains names path → IsPath path → (place : ℕ) × IsAt names path place × (region_number names path ≡ Some place)
named_here names path ordered (place, within, is) is_path =
    let at : IsAt names path place = record { within = within; here = get_or_default names place [] path within ∙ is } in
    (place, at, region_here names path place ordered is_path at)

-- two tests that say the same of each other
same_bool : (a b : Bool) → (a ≡ true → b ≡ true) → (b ≡ true → a ≡ true) → a ≡ b
same_bool true b f g = sym (f refl)
same_bool false b f g = sym (false_from_ne_true b (λ t. (let never : false ≡ true = g t in cc)))

-- a name is that of a region exactly where it stands at the region's place
name_test : (names : List (List ℕ)) (path : List ℕ) (place region : ℕ) → IsOrdered names → place < length names → IsAt names path region → bytes_eq (get_or names place []) path ≡ eqb place region
name_test names path place region ordered l at =
    let decides = bytes_eq-Decides (get_or names place []) path in
    same_bool (bytes_eq (get_or names place []) path) (eqb place region)
    (λ t. eq-eqb place region (same_place names place region ordered l at.within (decides.0 t ∙ sym at.here)))
    (λ t. decides.1 (ap (λ p. get_or names p []) (eqb-true place region t) ∙ at.here))

-- one path more
path_more : (names paths : List (List ℕ)) (i : ℕ) (path : List ℕ) (region : ℕ) → IsOrdered names → slice_get paths i ≡ Some path → IsAt names path region
    → (place : ℕ) → (at_place (is_among (take i paths)) names place || eqb place region) ≡ at_place (is_among (take (i + 1) paths)) names place
path_more names paths i path region ordered e at place = by_cases (cases_lt place (length names))
  where
    by_cases : (place < length names) ⊎ (length names ≤ place) → (at_place (is_among (take i paths)) names place || eqb place region) ≡ at_place (is_among (take (i + 1) paths)) names place
    by_cases (inl l) =
        let name = get_or names place [] in
        let here = slice_get-get_or names place [] l in
        ap (λ t. t || eqb place region) (at_some (is_among (take i paths)) names place name here)
        ∙ ap (λ t. is_among (take i paths) name || t) (sym (name_test names path place region ordered l at))
        ∙ sym (any_more (bytes_eq name) paths i path e)
        ∙ sym (at_some (is_among (take (i + 1) paths)) names place name here)
    by_cases (inr g) =
        let apart : eqb place region ≡ false = false_from_ne_true (eqb place region) (λ t. (let same : place ≡ region = eqb-true place region t in absurd (omega (arith, at.within)))) in
        ap (λ t. t || eqb place region) (at_none (is_among (take i paths)) names place g) ∙ apart ∙ sym (at_none (is_among (take (i + 1) paths)) names place g)

pub named_more : (names paths : List (List ℕ)) (i : ℕ) (path : List ℕ) (region : ℕ) (start old new : List ℕ) → IsOrdered names → slice_get paths i ≡ Some path → IsAt names path region
    → Adds (at_place (is_among (take i paths)) names) start old → Adds (just region true) old new → Adds (at_place (is_among (take (i + 1) paths)) names) start new
named_more names paths i path region start old new ordered e at h put = record {
  room = put.room ∙ h.room;
  added = λ place. put.added place ∙ ap (λ t. t || eqb place region) (h.added place) ∙ or_assoc (has_place start place) (at_place (is_among (take i paths)) names place) (eqb place region)
      ∙ ap (λ t. has_place start place || t) (path_more names paths i path region ordered e at place);
}

-- no path yet
pub named_none : (names paths : List (List ℕ)) (set : List ℕ) → Adds (at_place (is_among (take 0 paths)) names) set set
named_none names paths set = record { room = refl; added = λ place. none place (cases_lt place (length names)) }
  where
    none : (place : ℕ) → (place < length names) ⊎ (length names ≤ place) → has_place set place ≡ (has_place set place || at_place (is_among (take 0 paths)) names place)
    none place (inl l) = sym (ap (λ t. has_place set place || t) (at_some (is_among []) names place (get_or names place []) (slice_get-get_or names place [] l)) ∙ or-false (has_place set place))
    none place (inr g) = sym (ap (λ t. has_place set place || t) (at_none (is_among []) names place g) ∙ or-false (has_place set place))
