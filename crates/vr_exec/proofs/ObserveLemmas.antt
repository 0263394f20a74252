-- Whether a pipeline observes a path, by the number of the path's region.
use Rattle.std.proofs.Common.{◌≡◌, ℕ, ◌≤◌, true, false, List, [], length, get_or, Option, None, Some, All, Contains, refl, sym, ap, ◌∙◌, subst}
use Rattle.std.specs.Prelude.{option_and_then, slice_get}
use Rattle.std.specs.Option.{option_map_or}
use Rattle.std.proofs.lemmas.List.{get_or_default}
use Rattle.std.proofs.lemmas.List.Elements.{All-contains}
use Rattle.std.proofs.lemmas.Option.{slice_get-get_or}
use Rattle.vr_base.specs.Names.{covers}
use Rattle.vr_flow.specs.Flows.{at_place, flows_of}
use Rattle.vr_pipe.specs.declared.trees.Tree.{Tree}
use Rattle.vr_pipe.specs.Trees.{pipe_tree}
use Rattle.vr_policy_check.specs.Rules.{CheckedData}
use Rattle.vr_rights.specs.Flows.{pipeline_observes}
use Rattle.vr_rights.specs.Regions.{place_of, region_of, region_number}
use Rattle.vr_rights.specs.Tables.{IsRegionsOf, RegionsData, names_of}
use Rattle.vr_rights.proofs.RegionLemmas.{none_covers, place_is, region_has, region_is, region_none}
use Rattle.vr_exec.specs.Starts.{observes_path}

-- lists of names with the same members give a path the same region
same_region : (names others : List (List ℕ)) (path : List ℕ) → All (Contains others) names → All (Contains names) others → region_of others path ≡ region_of names path
same_region names others path all only = by_cases (region_of names path) refl
  where
    by_cases : (region : Option (List ℕ)) → region_of names path ≡ region → region_of others path ≡ region
    by_cases None e =
        let none = none_covers names path e in
        region_none others path (λ k d l. All-contains (λ name. covers name path ≡ false) names (get_or others k d) none (only k d l))
    by_cases (Some name) e =
        let has = region_has names path name e in
        region_is others path name (All-contains (Contains others) names name all has.0) has.1
        (λ k d l t. All-contains (λ other. covers other path ≡ true → length other ≤ length name) names (get_or others k d) has.2 (only k d l) t)

module _ (checked : CheckedData) (regions : RegionsData) (is : IsRegionsOf checked regions) (place : ℕ) (tree : Tree) (found : slice_get checked.pipes place ≡ Some tree) where
  observed_number : (region : ℕ) → (flows_of checked regions.names).pipeline_observes place region ≡ at_place (pipeline_observes checked.policy (pipe_tree tree)) regions.names region
  unfolding flows_of
  observed_number region = ap (λ o. option_map_or (λ (t : Tree). at_place (pipeline_observes checked.policy (pipe_tree t)) regions.names region) o false) found

  -- a path in a region, by its number
  pub observes_number : (path : List ℕ) (region : ℕ) → region_number regions.names path ≡ Some region
      → (flows_of checked regions.names).pipeline_observes place region ≡ observes_path checked (pipe_tree tree) path
  observes_number path region e = observed_number region ∙ by_name (region_of regions.names path) refl
    where
      same : region_of regions.names path ≡ region_of (names_of checked) path
      same = same_region (names_of checked) regions.names path is.all is.only

      by_name : (name : Option (List ℕ)) → region_of regions.names path ≡ name → at_place (pipeline_observes checked.policy (pipe_tree tree)) regions.names region ≡ observes_path checked (pipe_tree tree) path
      by_name None n = let none : region_number regions.names path ≡ None = ap (option_and_then (place_of regions.names)) n in cc
      by_name (Some name) n = at_name (region_has regions.names path name n).0
        where
          at_name : Contains regions.names name → at_place (pipeline_observes checked.policy (pipe_tree tree)) regions.names region ≡ observes_path checked (pipe_tree tree) path
          at_name (k, l, there) =
              let at : get_or regions.names k [] ≡ name = get_or_default regions.names k [] name l ∙ there in
              let here : place_of regions.names name ≡ Some k = subst (λ m. place_of regions.names m ≡ Some k) at (place_is regions.names k is.ordered l) in
              let number : Some region ≡ Some k = sym e ∙ ap (option_and_then (place_of regions.names)) n ∙ here in
              let region_is_k : region ≡ k = cc in
              let named : slice_get regions.names region ≡ Some name = ap (slice_get regions.names) region_is_k ∙ (slice_get-get_or regions.names k [] l ∙ ap Some at) in
              ap (λ o. option_map_or (pipeline_observes checked.policy (pipe_tree tree)) o false) (named ∙ sym n ∙ same)

  -- a path in no region
  pub observes_none : (path : List ℕ) → region_number regions.names path ≡ None → observes_path checked (pipe_tree tree) path ≡ false
  observes_none path e = by_name (region_of regions.names path) refl
    where
      same : region_of regions.names path ≡ region_of (names_of checked) path
      same = same_region (names_of checked) regions.names path is.all is.only

      by_name : (name : Option (List ℕ)) → region_of regions.names path ≡ name → observes_path checked (pipe_tree tree) path ≡ false
      by_name None n = ap (λ o. option_map_or (pipeline_observes checked.policy (pipe_tree tree)) o false) (sym same ∙ n)
      by_name (Some name) n = at_name (region_has regions.names path name n).0
        where
          at_name : Contains regions.names name → observes_path checked (pipe_tree tree) path ≡ false
          at_name (k, l, there) =
              let at : get_or regions.names k [] ≡ name = get_or_default regions.names k [] name l ∙ there in
              let here : place_of regions.names name ≡ Some k = subst (λ m. place_of regions.names m ≡ Some k) at (place_is regions.names k is.ordered l) in
              let clash : ◌≡◌ {A = Option ℕ} None (Some k) = sym e ∙ ap (option_and_then (place_of regions.names)) n ∙ here in
              cc
