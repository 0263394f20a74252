-- The law of one word in each region, for whatever regions a policy has.
use Rattle.std.proofs.Common.{◌≡◌, ℕ, List, [], map, Option, None, Some, option_and_then, All, Contains, refl, sym, ◌∙◌, ap, get_or, slice_get, subst}
use Rattle.std.proofs.lemmas.List.{get_or-map, get_or_default}
use Rattle.std.proofs.lemmas.Option.{get_or_from_slice_get, slice_get_within}
use Rattle.vr_base.specs.Rights.{word_on}
use Rattle.vr_policy_read.specs.declared.entries.Identity.{Identity}
use Rattle.vr_policy_read.specs.declared.entries.Program.{Program}
use Rattle.vr_policy_check.specs.Rules.{CheckedData}
use Rattle.vr_rights.specs.Ordered.{IsOrdered}
use Rattle.vr_rights.specs.Regions.{region_of, place_of, region_number}
use Rattle.vr_rights.specs.Tables.{RegionsData, IsRegionsOf, word_at, HasOneWord}
use Rattle.vr_rights.specs.Words.{word_in}
use Rattle.vr_rights.proofs.MakingLemmas.{known_names_of}
use Rattle.vr_rights.proofs.RegionLemmas.{region_has, place_is}
use Rattle.vr_rights.proofs.WordLemmas.{law_inside, law_outside}
use Rattle.vr_rights.proofs.ZipLemmas.{mapped_at}

-- the word of grants on a path, by the path's region
pub word_of_path : (names : List (List ℕ)) (grants : List (List ℕ × ℕ)) (path : List ℕ) → IsOrdered names → All (λ grant. Contains names grant.0) grants
    → word_on path grants ≡ word_at (map (λ name. word_in name grants) names) (region_number names path)
word_of_path names grants path ordered known = by_cases (region_of names path) refl
  where
    by_cases : (region : Option (List ℕ)) → region_of names path ≡ region → word_on path grants ≡ word_at (map (λ name. word_in name grants) names) (option_and_then (place_of names) region)
    by_cases None e = law_outside names path grants known e
    by_cases (Some region) e = at_place (region_has names path region e).0
      where
        at_place : Contains names region → word_on path grants ≡ word_at (map (λ name. word_in name grants) names) (place_of names region)
        at_place (k, l, r) =
            let name : get_or names k [] ≡ region = get_or_default names k [] region l ∙ r in
            let place : place_of names region ≡ Some k = subst (λ n. place_of names n ≡ Some k) name (place_is names k ordered l) in
            law_inside names path region grants known e ∙ ap (λ n. word_in n grants) (sym name) ∙ sym (get_or-map (λ n. word_in n grants) names k [] 0 l) ∙ ap (word_at (map (λ n. word_in n grants) names)) (sym place)

-- the same, where a table has a row for each holder
row_of_path : {X : Type 0} (grants_of : X → List (List ℕ × ℕ)) (names : List (List ℕ)) (holders : List X) (table : List (List ℕ)) (place : ℕ) (holder : X) (path : List ℕ)
    → IsOrdered names → table ≡ map (λ x. map (λ name. word_in name (grants_of x)) names) holders
    → All (λ x. All (λ grant. Contains names grant.0) (grants_of x)) holders → slice_get holders place ≡ Some holder
    → word_on path (grants_of holder) ≡ word_at (get_or table place []) (region_number names path)
row_of_path grants_of names holders table place holder path ordered same known e =
    let is : get_or holders place holder ≡ holder = get_or_from_slice_get holders place holder holder e in
    let row : get_or table place [] ≡ map (λ name. word_in name (grants_of holder)) names =
    ap (λ t. get_or t place []) same ∙ mapped_at (λ x. map (λ name. word_in name (grants_of x)) names) holders place holder [] e in
    let grants = subst (λ x. All (λ (g : List ℕ × ℕ). Contains names g.0) (grants_of x)) is (known place holder (slice_get_within holders place holder e)) in
    word_of_path names (grants_of holder) path ordered grants ∙ ap (λ r. word_at r (region_number names path)) (sym row)

pub one_word : (checked : CheckedData) (regions : RegionsData) → IsRegionsOf checked regions → HasOneWord checked regions
one_word checked regions h =
    let known = known_names_of regions.names checked h.all in
    record {
      identities = λ place identity path e. row_of_path (λ (i : Identity). i.grants) regions.names checked.policy.identities regions.identities place identity path h.ordered (ap (λ (r : RegionsData). r.identities) h.tables) known.identities e;
      programs = λ place program path e. row_of_path (λ (p : Program). p.grants) regions.names checked.policy.programs regions.programs place program path h.ordered (ap (λ (r : RegionsData). r.programs) h.tables) known.programs e;
    }
