-- What a pair says of paths that is closed for a caller.
use Rattle.std.proofs.Common.{◌≡◌, ℕ, ◌<◌, Bool, true, false, ◌&&◌, List, [], length, get_or, slice_get, Option, None, Some, Ok, All, Contains, refl, sym, ap, ◌∙◌, subst, arith}
use Rattle.std.specs.Prelude.{◌==◌, MatchOption, is_some, find}
use Rattle.std.specs.FinMap.{get}
use Rattle.std.specs.Option.{option_map_or}
use Rattle.std.proofs.lemmas.Bool.{or_left, or_right}
use Rattle.std.proofs.lemmas.Bool.Decides.{nat_tests}
use Rattle.std.proofs.lemmas.List.Elements.{All-contains_itself}
use Rattle.std.proofs.lemmas.Option.{get_or_from_slice_get, slice_get-get_or, slice_get_within}
use Rattle.vr_base.specs.Checks.{or_fault}
use Rattle.vr_base.specs.Rights.{fd_read, fd_seek, fd_write, has_bit, word_on}
use Rattle.vr_base.specs.declared.calls.Reply.TheVariants.{Unkeyed}
use Rattle.vr_exec.proofs.ListLemmas.{find_has}
use Rattle.vr_exec.specs.Outcomes.{modifies_path}
use Rattle.vr_exec.specs.Starts.{observes_path}
use Rattle.vr_files.specs.FileMaps.{FileMap}
use Rattle.vr_flow.proofs.PolicyLemmas.{own_modifies, own_observes, pipe_modifies, pipe_modifies_at, pipe_observes, pipe_observes_at}
use Rattle.vr_flow.proofs.ReachLemmas.{modifies_by_pipeline, modifies_by_word, observes_by_pipeline, observes_by_word, runs_executable}
use Rattle.vr_flow.proofs.TableLemmas.{at_some}
use Rattle.vr_flow.specs.Flows.{at_place}
use Rattle.vr_flow.specs.Reach.{IsClosed}
use Rattle.vr_pipe.specs.declared.trees.Tree.{Tree}
use Rattle.vr_pipe.specs.Trees.{pipe_tree}
use Rattle.vr_policy_check.specs.Checked.{identity_place}
use Rattle.vr_policy_check.specs.Rules.{CheckedData}
use Rattle.vr_policy_read.specs.declared.entries.Identity.{Identity}
use Rattle.vr_rights.specs.Flows.{may_run, pipeline_observes}
use Rattle.vr_rights.specs.Quotas.{quota_of}
use Rattle.vr_rights.specs.Tables.{names_of, tables_over}
use Rattle.vr_rights.specs.Words.{word_in}
use Rattle.vr_rights.proofs.MakingLemmas.{known_names_of}
use Rattle.vr_rights.proofs.WordLemmas.{law_inside, law_outside}
use Rattle.vr_core.specs.Isolation.{AgreeIn, IsClosedFor, at_places, flows, region_at}
use Rattle.vr_core.specs.Machine.{identity_of}
use Rattle.vr_core.specs.Quotas.{region, region_names}
use Rattle.vr_core.proofs.Places.{found_by_place, not_found}
use Rattle.vr_core.proofs.RegionLemmas.{own_regions}
use Rattle.vr_core.proofs.Totals as totals

-- whether a path is in one of the regions
abbrev pub in_regions : CheckedData → (ℕ → Bool) → List ℕ → Bool
in_regions policy regions path = option_map_or regions (region_at policy path) false

-- files agree at each path of the regions
abbrev pub AgreeWhere : (List ℕ → Bool) → FileMap → FileMap → Type 0
AgreeWhere inside files others = (path : List ℕ) → inside path ≡ true → get others path ≡ get files path

module _ (policy : CheckedData) (regions : ℕ → Bool) where
  in_some : (path : List ℕ) (number : Option ℕ) → region_at policy path ≡ number → option_map_or regions number false ≡ true
      → (region : ℕ) × (region_at policy path ≡ Some region) × (regions region ≡ true)
  in_some path None e h = cc
  in_some path (Some region) e h = (region, e, h)

  pub agree_where : (files others : FileMap) → AgreeIn policy regions files others → AgreeWhere (in_regions policy regions) files others
  agree_where files others agree path h = let r = in_some path (region_at policy path) refl h in agree.same path r.0 r.1 r.2

  pub agree_in : (files others : FileMap) → AgreeWhere (in_regions policy regions) files others → AgreeIn policy regions files others
  agree_in files others agree = record { same = λ path region e g. agree path (ap (λ n. option_map_or regions n false) e ∙ g) }

-- ---- a path's region by its name and its number

module _ (policy : CheckedData) where
  -- the name of a path's region stands at its number
  pub numbered : (path : List ℕ) (number : ℕ) → region_at policy path ≡ Some number
      → (number < length (region_names policy)) × (region policy path ≡ Some (get_or (region_names policy) number []))
  numbered path number e =
      let found = totals.region_at policy (tables_over (region_names policy) policy) (own_regions policy) path in
      rw e at found

  pub number_of : (path name : List ℕ) → region policy path ≡ Some name → (number : ℕ) × (region_at policy path ≡ Some number)
  number_of path name e = by_cases (region_at policy path) refl (totals.region_at policy (tables_over (region_names policy) policy) (own_regions policy) path)
    where
      by_cases : (found : Option ℕ) → region_at policy path ≡ found
          → MatchOption found (region policy path ≡ None) (λ place. (place < length (region_names policy)) × (region policy path ≡ Some (get_or (region_names policy) place [])))
          → (number : ℕ) × (region_at policy path ≡ Some number)
      by_cases None f none = let clash : ◌≡◌ {A = Option (List ℕ)} None (Some name) = sym none ∙ e in absurd (let h : ⊥ = cc in h)
      by_cases (Some number) f there = (number, f)

  -- a test of a region, by the path's region
  at_name : (test : List ℕ → Bool) (path : List ℕ) (number : ℕ) → region_at policy path ≡ Some number
      → at_place test (region_names policy) number ≡ option_map_or test (region policy path) false
  at_name test path number e =
      let r = numbered path number e in
      at_some test (region_names policy) number (get_or (region_names policy) number []) (slice_get-get_or (region_names policy) number [] r.0)
      ∙ ap (λ o. option_map_or test o false) (sym r.1)

  -- the word of an identity on a path is that in the path's region
  module _ (place : ℕ) (identity : Identity) (e : slice_get policy.policy.identities place ≡ Some identity) where
    known : All (λ (grant : List ℕ × ℕ). Contains (names_of policy) grant.0) identity.grants
    known =
        let all = (known_names_of (names_of policy) policy (All-contains_itself (names_of policy))).identities in
        let here = all place identity (slice_get_within policy.policy.identities place identity e) in
        subst (λ (i : Identity). All (λ (grant : List ℕ × ℕ). Contains (names_of policy) grant.0) i.grants) (get_or_from_slice_get policy.policy.identities place identity identity e) here

    -- a path on which the word passes a test that no word at all fails has a region, in which it passes
    in_region : (test : ℕ → Bool) (path : List ℕ) → test 0 ≡ false → test (word_on path identity.grants) ≡ true
        → (name : List ℕ) × (region policy path ≡ Some name) × (test (word_in name identity.grants) ≡ true)
    in_region test path outside h = by_region (region policy path) refl
      where
        by_region : (found : Option (List ℕ)) → region policy path ≡ found → (name : List ℕ) × (region policy path ≡ Some name) × (test (word_in name identity.grants) ≡ true)
        by_region None f =
            let none : word_on path identity.grants ≡ 0 = law_outside (names_of policy) path identity.grants known f in
            let clash : true ≡ false = sym h ∙ ap test none ∙ outside in
            absurd (let no : ⊥ = cc in no)
        by_region (Some name) f = (name, f, ap test (sym (law_inside (names_of policy) path name identity.grants known f)) ∙ h)

-- ---- pipelines, by a path's region

module _ (policy : CheckedData) (pipeline : ℕ) (tree : Tree) (at : slice_get policy.pipes pipeline ≡ Some tree) where
  observed_number : (path : List ℕ) (number : ℕ) → region_at policy path ≡ Some number → (flows policy).pipeline_observes pipeline number ≡ observes_path policy (pipe_tree tree) path
  observed_number path number e =
      pipe_observes_at policy (region_names policy) pipeline tree at number ∙ at_name policy (pipe_observes policy (region_names policy) tree) path number e

  modified_number : (path : List ℕ) (number : ℕ) → region_at policy path ≡ Some number → (flows policy).pipeline_modifies pipeline number ≡ modifies_path policy (pipe_tree tree) path
  modified_number path number e =
      pipe_modifies_at policy (region_names policy) pipeline tree at number ∙ at_name policy (pipe_modifies policy (region_names policy) tree) path number e

-- a path whose region passes a test has a region
has_number : (policy : CheckedData) (test : List ℕ → Bool) (path : List ℕ) → option_map_or test (region policy path) false ≡ true → (number : ℕ) × (region_at policy path ≡ Some number)
has_number policy test path h = by_region (region policy path) refl h
  where
    by_region : (found : Option (List ℕ)) → region policy path ≡ found → option_map_or test found false ≡ true → (number : ℕ) × (region_at policy path ≡ Some number)
    by_region None e t = cc
    by_region (Some name) e t = number_of policy path name e

-- ---- the identity that calls

-- The place of the identity that calls.
record HasPlace (policy : CheckedData) (who : ℕ) (identity : Identity) : Type 0 where
  place : ℕ
  there : slice_get policy.policy.identities place ≡ Some identity
  place_is : identity_place policy.policy who ≡ Some place
  id_is : identity.id ≡ who

has_place : (policy : CheckedData) (who : ℕ) (identity : Identity) → identity_of policy who ≡ Ok identity → HasPlace policy who identity
has_place policy who identity h = by_place (identity_place policy.policy who) refl
  where
    found : (o : Option Identity) → or_fault Unkeyed o ≡ Ok identity → o ≡ Some identity
    found None k = cc
    found (Some i) k = let same : i ≡ identity = cc in ap Some same

    here : find (λ (i : Identity). i.id == who) policy.policy.identities ≡ Some identity
    here = found (find (λ (i : Identity). i.id == who) policy.policy.identities) h

    by_place : (o : Option ℕ) → identity_place policy.policy who ≡ o → HasPlace policy who identity
    by_place None e =
        let none : find (λ (i : Identity). i.id == who) policy.policy.identities ≡ None = not_found (λ (i : Identity). i.id) who policy.policy.identities e in
        let clash : ◌≡◌ {A = Option Identity} None (Some identity) = sym none ∙ here in
        absurd (let no : ⊥ = cc in no)
    by_place (Some place) e =
        let passes : (identity.id == who) ≡ true = (find_has (λ (i : Identity). i.id == who) policy.policy.identities identity here).1 in
        record {
          place = place;
          there = sym (found_by_place (λ (i : Identity). i.id) who policy.policy.identities place e) ∙ here;
          place_is = e;
          id_is = grind (arith, nat_tests, passes);
        }

-- ---- a closed pair

module _ (policy : CheckedData) (caller : ℕ) (ids regions : ℕ → Bool) (closed : IsClosedFor policy caller ids regions) where
  abbrev inside : List ℕ → Bool
  inside path = in_regions policy regions path

  abbrev ClosedAt : ℕ → Type 0
  ClosedAt place = IsClosed (flows policy) place (at_places policy ids) regions

  closed_at : (place : ℕ) → identity_place policy.policy caller ≡ Some place → ClosedAt place
  closed_at place e = let at = closed.closed in rw e at at

  -- the pair is closed for an identity, or it has no regions
  by_caller : (P : Type 0) → (((region : ℕ) → regions region ≡ false) → P) → ((place : ℕ) → ClosedAt place → P) → P
  by_caller P none some = by_place (identity_place policy.policy caller) closed.closed
    where
      by_place : (found : Option ℕ) → MatchOption found ((region : ℕ) → regions region ≡ false) ClosedAt → P
      by_place None h = none h
      by_place (Some place) h = some place h

  inside_number : (path : List ℕ) → inside path ≡ true → (region : ℕ) × (region_at policy path ≡ Some region) × (regions region ≡ true)
  inside_number path h = in_some policy regions path (region_at policy path) refl h

  never_inside : ((region : ℕ) → regions region ≡ false) → (path : List ℕ) → inside path ≡ true → ⊥
  never_inside none path h =
      let r = inside_number path h in
      let clash : true ≡ false = sym r.2 ∙ none r.0 in
      let no : ⊥ = cc in no

  is_inside : (path : List ℕ) (number : ℕ) → region_at policy path ≡ Some number → regions number ≡ true → inside path ≡ true
  is_inside path number e g = ap (λ n. option_map_or regions n false) e ∙ g

  -- ---- what the caller observes

  module _ (identity : Identity) (called : identity_of policy caller ≡ Ok identity) where
    self : HasPlace policy caller identity
    self = has_place policy caller identity called

    own : ClosedAt self.place
    own = closed_at self.place self.place_is

    by_word : (path name : List ℕ) → region policy path ≡ Some name → own_observes policy identity name ≡ true → inside path ≡ true
    by_word path name e observes =
        let n = number_of policy path name e in
        let here : at_place (own_observes policy identity) (region_names policy) n.0 ≡ true =
        at_name policy (own_observes policy identity) path n.0 n.1 ∙ ap (λ o. option_map_or (own_observes policy identity) o false) e ∙ observes in
        is_inside path n.0 n.1 (own.observed n.0 (observes_by_word policy (region_names policy) self.place identity self.there n.0 here))

    pub reads_inside : (path : List ℕ) → has_bit (word_on path identity.grants) fd_read ≡ true → inside path ≡ true
    reads_inside path h =
        let r = in_region policy self.place identity self.there (λ w. has_bit w fd_read) path refl h in
        by_word path r.0 r.1 (or_left _ _ r.2)

    pub appends_inside : (path : List ℕ) → has_bit (word_on path identity.grants) fd_seek ≡ true → has_bit (word_on path identity.grants) fd_write ≡ true → inside path ≡ true
    appends_inside path seeks writes =
        let both : (has_bit (word_on path identity.grants) fd_seek && has_bit (word_on path identity.grants) fd_write) ≡ true = ap (λ b. b && has_bit (word_on path identity.grants) fd_write) seeks ∙ writes in
        let r = in_region policy self.place identity self.there (λ w. has_bit w fd_seek && has_bit w fd_write) path refl both in
        by_word path r.0 r.1 (or_right _ _ (or_left _ _ r.2))

    -- where a region has a quota, a write into it is answered by what it has
    pub weighs_inside : (path name : List ℕ) (quota : ℕ) → region policy path ≡ Some name → quota_of name policy.policy.quotas ≡ Some quota
        → has_bit (word_on path identity.grants) fd_write ≡ true → inside path ≡ true
    weighs_inside path name quota e q writes =
        let r = in_region policy self.place identity self.there (λ w. has_bit w fd_write) path refl writes in
        let both : Some r.0 ≡ Some name = sym r.1 ∙ e in
        let same : r.0 ≡ name = cc in
        let here : has_bit (word_in name identity.grants) fd_write ≡ true = ap (λ n. has_bit (word_in n identity.grants) fd_write) (sym same) ∙ r.2 in
        let weighs : (has_bit (word_in name identity.grants) fd_write && is_some (quota_of name policy.policy.quotas)) ≡ true =
        ap (λ b. b && is_some (quota_of name policy.policy.quotas)) here ∙ ap (λ o. is_some o) q in
        by_word path name e (or_right _ _ (or_right _ _ weighs))

    pub runs_inside : (pipeline : ℕ) (tree : Tree) → slice_get policy.pipes pipeline ≡ Some tree → may_run identity (pipe_tree tree) ≡ true
        → (path : List ℕ) → observes_path policy (pipe_tree tree) path ≡ true → inside path ≡ true
    runs_inside pipeline tree at may path observes =
        let n = has_number policy (pipeline_observes policy.policy (pipe_tree tree)) path observes in
        let here : (flows policy).pipeline_observes pipeline n.0 ≡ true = observed_number policy pipeline tree at path n.0 n.1 ∙ observes in
        is_inside path n.0 n.1 (own.observed n.0 (observes_by_pipeline policy (region_names policy) self.place identity self.there pipeline tree at may n.0 here))

  -- ---- who modifies

  module _ (who : ℕ) (identity : Identity) (called : identity_of policy who ≡ Ok identity) where
    whose : HasPlace policy who identity
    whose = has_place policy who identity called

    is_one : at_places policy ids whose.place ≡ true → ids who ≡ true
    is_one h =
        ap ids (sym whose.id_is) ∙ sym (at_some (λ (i : Identity). ids i.id) policy.policy.identities whose.place identity whose.there) ∙ h

    -- who writes into the regions is one of the identities
    pub writes_inside : (path : List ℕ) → has_bit (word_on path identity.grants) fd_write ≡ true → inside path ≡ true → ids who ≡ true
    writes_inside path writes in_it = by_caller (ids who ≡ true) (λ none. absurd (never_inside none path in_it)) (λ place at.
        let n = inside_number path in_it in
        let r = in_region policy whose.place identity whose.there (λ w. has_bit w fd_write) path refl writes in
        let here : at_place (own_modifies identity) (region_names policy) n.0 ≡ true =
        at_name policy (own_modifies identity) path n.0 n.1 ∙ ap (λ o. option_map_or (own_modifies identity) o false) r.1 ∙ r.2 in
        is_one (at.modified whose.place n.0 (modifies_by_word policy (region_names policy) whose.place identity whose.there n.0 here) n.2))

    module _ (pipeline : ℕ) (tree : Tree) (there : slice_get policy.pipes pipeline ≡ Some tree) (may : may_run identity (pipe_tree tree) ≡ true)
        (path : List ℕ) (modifies : modifies_path policy (pipe_tree tree) path ≡ true) (in_it : inside path ≡ true) where
      changed : (number : ℕ) → region_at policy path ≡ Some number → (flows policy).pipeline_modifies pipeline number ≡ true
      changed number e = modified_number policy pipeline tree there path number e ∙ modifies

      -- who runs a pipeline that modifies one of the regions is one of the identities
      pub changes_inside : ids who ≡ true
      changes_inside = by_caller (ids who ≡ true) (λ none. absurd (never_inside none path in_it)) (λ place at.
          let n = inside_number path in_it in
          is_one (at.modified whose.place n.0 (modifies_by_pipeline policy (region_names policy) whose.place identity whose.there pipeline tree there may n.0 (changed n.0 n.1)) n.2))

      -- and all that the pipeline observes is in the regions
      pub led_inside : (other : List ℕ) → observes_path policy (pipe_tree tree) other ≡ true → inside other ≡ true
      led_inside other observes = by_caller (inside other ≡ true) (λ none. absurd (never_inside none path in_it)) (λ place at.
          let n = inside_number path in_it in
          let o = has_number policy (pipeline_observes policy.policy (pipe_tree tree)) other observes in
          let runs = runs_executable policy (region_names policy) whose.place identity whose.there pipeline tree there may in
          is_inside other o.0 o.1 (at.led pipeline n.0 runs (changed n.0 n.1) n.2 o.0 (observed_number policy pipeline tree there other o.0 o.1 ∙ observes)))
