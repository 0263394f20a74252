-- Runs are isolated: a run observes and modifies what its pipeline does, and the quotas count in what it modifies.
use Rattle.std.proofs.Common.{◌≡◌, ℕ, ◌⊎◌, inl, inr, Bool, true, false, cond, List, [], ◌∷◌, slice_get, get_or, Option, None, Some, Ok, Err, All, Contains, refl, sym, ap, ◌∙◌, subst}
use Rattle.std.specs.Prelude.{bytes_eq, find, is_none, option_and_then, option_map, unwrap_or, if◌then◌else◌}
use Rattle.std.specs.Cmp.Lexicographic.{bytes_decides}
use Rattle.std.specs.FinMap.{get}
use Rattle.std.specs.FinMap as maps
use Rattle.std.specs.Option.{option_map_or, option_or}
use Rattle.std.proofs.lemmas.List.Elements.{All-contains, All-head, All-tail, Contains-get_or}
use Rattle.vr_base.specs.Checks.{◌>>=◌, ◌>>◌, or_fault, result_map_err, unless_fault}
use Rattle.vr_base.specs.declared.calls.Reply.{Reply}
use Rattle.vr_base.specs.declared.calls.Reply.TheVariants.{BadProgram, Ended, NoSuchPipeline, OutOfFuel, Trapped}
use Rattle.vr_exec.proofs.IsolationLemmas.{isolated_too, spelled_text}
use Rattle.vr_exec.proofs.OnceLemmas.{pipeline_comes_to_one}
use Rattle.vr_exec.proofs.PathLemmas.{AreFiles}
use Rattle.vr_exec.proofs.SightLemmas.{sees_program}
use Rattle.vr_exec.specs.Outcomes.{AgreeFor, ChangesWithin, ComesTo, IsIsolated, PipelineComesTo, modifies_path}
use Rattle.vr_exec.specs.Starts.{bytes_fault, first_pin_fault, missing_file, observes_path, pin_fault}
use Rattle.vr_exec.specs.declared.outcome.Outcome.{Outcome}
use Rattle.vr_exec.specs.declared.outcome.Outcome.TheVariants as runs
use Rattle.vr_exec.specs.declared.starts.NotReady.{NotReady}
use Rattle.vr_exec.specs.declared.starts.NotReady.TheVariants.{NoSuchFile}
use Rattle.vr_files.proofs.OverlayLemmas.{get-applied}
use Rattle.vr_files.specs.Changes.{Change, applied}
use Rattle.vr_files.specs.Entries.{AreSorted}
use Rattle.vr_files.specs.FileMaps.{FileMap, path_cmp}
use Rattle.vr_flow.proofs.PolicyLemmas.{pipe_names_at}
use Rattle.vr_pipe.specs.Trees.{PipeTree, pipe_tree, programs_of}
use Rattle.vr_pipe.specs.declared.trees.Tree.{Tree}
use Rattle.vr_policy_check.specs.Checked.{IsChecked, pipeline_place}
use Rattle.vr_policy_check.specs.Rules.{CheckedData}
use Rattle.vr_policy_read.specs.declared.entries.Identity.{Identity}
use Rattle.vr_policy_read.specs.declared.entries.Pin.{Pin}
use Rattle.vr_rights.proofs.FlowLemmas.{pipeline_observes_what_it_modifies}
use Rattle.vr_rights.specs.Flows.{may_run, pipeline_modifies, pipeline_observes}
use Rattle.vr_rights.specs.Quotas.{quota_of}
use Rattle.vr_rights.specs.Tables.{names_of, tables_over}
use Rattle.vr_core.specs.Isolation.{IsClosedFor}
use Rattle.vr_core.specs.Machine.{Checked, Effect, IsRunStep, Listed, Origin, effect, effect_of, ended_effect, execute_check, identity_of, listed_at, outcome_effect, pipeline_of, quotas_check, run_place, start_check, start_refusal}
use Rattle.vr_core.specs.Quotas.{first_fault, region, region_fault, region_names, total_fault, total_of}
use Rattle.vr_core.proofs.AppliedLemmas.{untouched}
use Rattle.vr_core.proofs.ClosedLemmas.{AgreeWhere, changes_inside, in_regions, led_inside, runs_inside}
use Rattle.vr_core.proofs.ExecuteLemmas.{may_all}
use Rattle.vr_core.proofs.FaultLemmas.{same_total}
use Rattle.vr_core.proofs.RegionLemmas.{own_regions}
use Rattle.vr_core.proofs.SameTotals.{same_total_of}
use Rattle.vr_core.proofs.StartLemmas.{HasTree, has_tree}

-- ---- the checks before the files are looked at

-- The caller may execute the pipeline: what is left of the checks is whether it may start.
record IsAsked (policy : CheckedData) (who id : ℕ) : Type 0 where
  identity : Identity
  called : identity_of policy who ≡ Ok identity
  place : ℕ
  tree : Tree
  at : slice_get policy.pipes place ≡ Some tree
  may : may_run identity (pipe_tree tree) ≡ true
  rest : (files : FileMap) → run_place policy files who id ≡ (start_check policy (pipe_tree tree) files >> Ok place)

-- It is refused, over whatever files.
record IsBarred (policy : CheckedData) (who id : ℕ) : Type 0 where
  refusal : Reply
  rest : (files : FileMap) → run_place policy files who id ≡ Err refusal

-- the checks that are left for an identity and a pipeline
abbrev left : CheckedData → FileMap → Identity → Listed → Checked ℕ
left policy files identity listed = execute_check identity (programs_of listed.pipe) >> (start_check policy listed.pipe files >> Ok listed.place)

asked_or_barred : (policy : CheckedData) (who id : ℕ) → IsBarred policy who id ⊎ IsAsked policy who id
asked_or_barred policy who id = by_identity (identity_of policy who) refl
  where
    by_rights : (identity : Identity) (place : ℕ) (tree : Tree) → identity_of policy who ≡ Ok identity → slice_get policy.pipes place ≡ Some tree
        → ((files : FileMap) → run_place policy files who id ≡ left policy files identity (record { place = place; pipe = pipe_tree tree }))
        → (answer : Checked (Unit {0})) → execute_check identity (programs_of (pipe_tree tree)) ≡ answer → IsBarred policy who id ⊎ IsAsked policy who id
    by_rights identity place tree called at rest (Ok done) e = inr (record {
      identity = identity;
      called = called;
      place = place;
      tree = tree;
      at = at;
      may = may_all identity (programs_of (pipe_tree tree)) e;
      rest = λ files. rest files ∙ ap (λ (first : Checked (Unit {0})). first >> (start_check policy (pipe_tree tree) files >> Ok place)) e;
    })
    by_rights identity place tree called at rest (Err refusal) e = inl (record {
      refusal = refusal;
      rest = λ files. rest files ∙ ap (λ (first : Checked (Unit {0})). first >> (start_check policy (pipe_tree tree) files >> Ok place)) e;
    })

    by_place : (identity : Identity) → identity_of policy who ≡ Ok identity
        → ((files : FileMap) → run_place policy files who id ≡ (pipeline_of policy id >>= (λ listed. left policy files identity listed)))
        → (found : Option Listed) (number : Option ℕ) → pipeline_place policy.policy id ≡ number → option_and_then (listed_at policy) number ≡ found
        → pipeline_of policy id ≡ or_fault (NoSuchPipeline id) found → IsBarred policy who id ⊎ IsAsked policy who id
    by_place identity called rest None number n f p = inl (record {
      refusal = NoSuchPipeline id;
      rest = λ files. rest files ∙ ap (λ (answer : Checked Listed). answer >>= (λ listed. left policy files identity listed)) p;
    })
    by_place identity called rest (Some listed) None n f p = cc
    by_place identity called rest (Some listed) (Some place) n f p =
        let there : HasTree policy place listed = has_tree policy place listed f in
        by_rights identity place there.tree called there.at (λ files.
        rest files ∙ ap (λ (answer : Checked Listed). answer >>= (λ l. left policy files identity l)) p ∙ ap (λ (l : Listed). left policy files identity l) there.is)
        (execute_check identity (programs_of (pipe_tree there.tree))) refl

    by_identity : (answer : Checked Identity) → identity_of policy who ≡ answer → IsBarred policy who id ⊎ IsAsked policy who id
    by_identity (Ok identity) e =
        by_place identity e (λ files. ap (λ (answer : Checked Identity). answer >>= (λ i. pipeline_of policy id >>= (λ listed. left policy files i listed))) e)
        (option_and_then (listed_at policy) (pipeline_place policy.policy id)) (pipeline_place policy.policy id) refl refl refl
    by_identity (Err refusal) e = inl (record {
      refusal = refusal;
      rest = λ files. ap (λ (answer : Checked Identity). answer >>= (λ i. pipeline_of policy id >>= (λ listed. left policy files i listed))) e;
    })

-- ---- a pipeline over files that agree in what it observes

-- a pipeline of a checked policy observes the files of its programs
programs_seen : (policy : CheckedData) (place : ℕ) (tree : Tree) → IsChecked policy → slice_get policy.pipes place ≡ Some tree
    → All (λ path. observes_path policy (pipe_tree tree) path ≡ true) (programs_of (pipe_tree tree))
programs_seen policy place tree is e = λ k d l.
    sees_program policy (pipe_tree tree) (get_or (programs_of (pipe_tree tree)) k d) (named k d l) (spelled.programs k d l) (Contains-get_or (programs_of (pipe_tree tree)) k d l)
  where
    spelled : AreFiles (pipe_tree tree)
    spelled = spelled_text policy place tree is e

    named : All (Contains (names_of policy)) (programs_of (pipe_tree tree))
    named = λ k d l.
        All-contains (Contains (names_of policy)) (region_names policy) (get_or (programs_of (pipe_tree tree)) k d) (own_regions policy).only
        ((pipe_names_at policy (tables_over (region_names policy) policy) (own_regions policy) place tree e).0 k d l)

module _ (policy : CheckedData) (pipe : PipeTree) (files others : FileMap) (agree : AgreeFor policy pipe files others) where
  same_missing : (paths : List (List ℕ)) → All (λ path. observes_path policy pipe path ≡ true) paths → missing_file paths others ≡ missing_file paths files
  same_missing paths seen = ap (option_map NoSuchFile) (same_found paths seen)
    where
      same_found : (ps : List (List ℕ)) → All (λ path. observes_path policy pipe path ≡ true) ps → find (λ path. is_none (get others path)) ps ≡ find (λ path. is_none (get files path)) ps
      same_found [] h = refl
      same_found (p ∷ ps) h =
          let head = agree p (All-head (λ path. observes_path policy pipe path ≡ true) p ps h) in
          let rest = same_found ps (All-tail (λ path. observes_path policy pipe path ≡ true) p ps h) in
          ap (λ (o : Option (List ℕ)). cond (is_none o) (Some p) (find (λ path. is_none (get others path)) ps)) head ∙ ap (cond (is_none (get files p)) (Some p)) rest

  same_pin : (pin : Pin) → pin_fault policy pipe others pin ≡ pin_fault policy pipe files pin
  same_pin pin = by_test (observes_path policy pipe pin.path) refl
    where
      by_test : (b : Bool) → observes_path policy pipe pin.path ≡ b
          → (if b then bytes_fault pin (get others pin.path) else None) ≡ (if b then bytes_fault pin (get files pin.path) else None)
      by_test true t = ap (bytes_fault pin) (agree pin.path t)
      by_test false t = refl

  same_pins : (pins : List Pin) → first_pin_fault policy pipe others pins ≡ first_pin_fault policy pipe files pins
  same_pins [] = refl
  same_pins (pin ∷ pins) = ap (λ o. option_or o (first_pin_fault policy pipe others pins)) (same_pin pin) ∙ ap (option_or (pin_fault policy pipe files pin)) (same_pins pins)

  same_start : All (λ path. observes_path policy pipe path ≡ true) (programs_of pipe) → start_check policy pipe others ≡ start_check policy pipe files
  same_start seen =
      ap (λ (o : Option NotReady). result_map_err start_refusal (unless_fault o (tt {0}) >> unless_fault (first_pin_fault policy pipe others policy.policy.pins) (tt {0}))) (same_missing (programs_of pipe) seen)
      ∙ ap (λ (o : Option NotReady). result_map_err start_refusal (unless_fault (missing_file (programs_of pipe) files) (tt {0}) >> unless_fault o (tt {0}))) (same_pins policy.policy.pins)

-- ---- what a run changes

module _ (policy : CheckedData) (pipe : PipeTree) (changes : List Change) (within : All (λ change. modifies_path policy pipe change.0 ≡ true) changes) where
  -- a path that the pipeline doesn't modify has no change
  unmodified : (files : FileMap) (path : List ℕ) → modifies_path policy pipe path ≡ false → get (applied files changes) path ≡ get files path
  unmodified files path fixed = untouched files changes path (λ k d l. by_test (get_or changes k d) (within k d l) (bytes_eq (get_or changes k d).0 path) refl)
    where
      by_test : (change : Change) → modifies_path policy pipe change.0 ≡ true → (b : Bool) → bytes_eq change.0 path ≡ b → b ≡ false
      by_test change m true t =
          let same : change.0 ≡ path = (bytes_decides change.0 path).0 t in
          let clash : true ≡ false = sym m ∙ ap (modifies_path policy pipe) same ∙ fixed in
          absurd (let no : ⊥ = cc in no)
      by_test change m false t = refl

  -- a region that the pipeline doesn't modify reaches no quota
  fixed_region : (files : FileMap) (name : List ℕ) → pipeline_modifies policy.policy pipe name ≡ false → region_fault policy files (applied files changes) name ≡ None
  fixed_region files name fixed =
      let total = same_total_of policy name files (applied files changes) (λ path e. unmodified files path (ap (λ o. option_map_or (pipeline_modifies policy.policy pipe) o false) e ∙ fixed)) in
      ap (λ n. total_fault (quota_of name policy.policy.quotas) name (total_of policy files name) n) total ∙ same_total (quota_of name policy.policy.quotas) name (total_of policy files name)

  module _ (sorted : AreSorted changes) (files others : FileMap) (agree : AgreeFor policy pipe files others) where
    applied_alike : (path : List ℕ) → get others path ≡ get files path → get (applied others changes) path ≡ get (applied files changes) path
    applied_alike path same = get-applied others changes path sorted ∙ ap (λ (old : Option (List ℕ)). unwrap_or (maps.find path_cmp path changes) old) same ∙ sym (get-applied files changes path sorted)

    region_alike : (name : List ℕ) → region_fault policy others (applied others changes) name ≡ region_fault policy files (applied files changes) name
    region_alike name = by_test (pipeline_modifies policy.policy pipe name) refl
      where
        by_test : (b : Bool) → pipeline_modifies policy.policy pipe name ≡ b → region_fault policy others (applied others changes) name ≡ region_fault policy files (applied files changes) name
        by_test true m =
            let alike : (path : List ℕ) → region policy path ≡ Some name → get others path ≡ get files path =
            λ path e. agree path (ap (λ o. option_map_or (pipeline_observes policy.policy pipe) o false) e ∙ pipeline_observes_what_it_modifies policy.policy pipe name m) in
            let old = same_total_of policy name files others alike in
            let new = same_total_of policy name (applied files changes) (applied others changes) (λ path e. applied_alike path (alike path e)) in
            ap (λ n. total_fault (quota_of name policy.policy.quotas) name n (total_of policy (applied others changes) name)) old
            ∙ ap (λ n. total_fault (quota_of name policy.policy.quotas) name (total_of policy files name) n) new
        by_test false m = fixed_region others name m ∙ sym (fixed_region files name m)

    regions_alike : (names : List (List ℕ)) → first_fault policy others (applied others changes) names ≡ first_fault policy files (applied files changes) names
    regions_alike [] = refl
    regions_alike (name ∷ names) =
        ap (λ o. option_or o (first_fault policy others (applied others changes) names)) (region_alike name)
        ∙ ap (option_or (region_fault policy files (applied files changes) name)) (regions_alike names)

    quotas_alike : quotas_check policy others (applied others changes) ≡ quotas_check policy files (applied files changes)
    quotas_alike = ap (λ o. unless_fault o (tt {0})) (regions_alike (region_names policy))

-- ---- one outcome over two maps

abbrev ended_by : FileMap → ℕ → List ℕ → List Change → Checked (Unit {0}) → Effect
ended_by files code out changes fine = effect_of files (fine >> Ok (effect (Ended code out) (applied files changes)))

-- Two effects of one call: the same reply, and the same file wherever it was the same.
record Alike (files others : FileMap) (next twin : Effect) : Type 0 where
  reply : twin.reply ≡ next.reply
  files_are : (path : List ℕ) → get others path ≡ get files path → get twin.files path ≡ get next.files path

refused_alike : (files others : FileMap) (refusal : Reply) → Alike files others (effect refusal files) (effect refusal others)
refused_alike files others refusal = record { reply = refl; files_are = λ path same. same }

module _ (policy : CheckedData) (pipe : PipeTree) (files others : FileMap) (agree : AgreeFor policy pipe files others) where
  ended_alike : (code : ℕ) (out : List ℕ) (changes : List Change) → All (λ change. modifies_path policy pipe change.0 ≡ true) changes → AreSorted changes
      → Alike files others (effect_of files (ended_effect policy files code out changes)) (effect_of others (ended_effect policy others code out changes))
  ended_alike code out changes within sorted =
      subst (λ (fine : Checked (Unit {0})). Alike files others (ended_by files code out changes (quotas_check policy files (applied files changes))) (ended_by others code out changes fine))
      (sym (quotas_alike policy pipe changes within sorted files others agree)) (by_quota (quotas_check policy files (applied files changes)))
    where
      by_quota : (fine : Checked (Unit {0})) → Alike files others (ended_by files code out changes fine) (ended_by others code out changes fine)
      by_quota (Ok done) = record { reply = refl; files_are = λ path same. applied_alike policy pipe changes within sorted files others agree path same }
      by_quota (Err refusal) = refused_alike files others refusal

  outcome_alike : (fuel : ℕ) (outcome : Outcome) → ComesTo policy.policy pipe files fuel outcome → ChangesWithin policy pipe outcome
      → Alike files others (effect_of files (outcome_effect policy files outcome)) (effect_of others (outcome_effect policy others outcome))
  outcome_alike fuel (runs.Ended code out changes) comes within = ended_alike code out changes within comes.3.in_order
  outcome_alike fuel (runs.BadProgram path why) comes within = refused_alike files others (BadProgram path why)
  outcome_alike fuel (runs.Trapped path kind) comes within = refused_alike files others (Trapped path kind)
  outcome_alike fuel (runs.OutOfFuel path) comes within = refused_alike files others (OutOfFuel path)

-- a path that the pipeline doesn't modify keeps its file
ended_fixed : (policy : CheckedData) (pipe : PipeTree) (files : FileMap) (path : List ℕ) → modifies_path policy pipe path ≡ false → (outcome : Outcome) → ChangesWithin policy pipe outcome
    → get (effect_of files (outcome_effect policy files outcome)).files path ≡ get files path
ended_fixed policy pipe files path fixed (runs.Ended code out changes) within = by_quota (quotas_check policy files (applied files changes))
  where
    by_quota : (fine : Checked (Unit {0})) → get (ended_by files code out changes fine).files path ≡ get files path
    by_quota (Ok done) = unmodified policy pipe changes within files path fixed
    by_quota (Err refusal) = refl
ended_fixed policy pipe files path fixed (runs.BadProgram at why) within = refl
ended_fixed policy pipe files path fixed (runs.Trapped at kind) within = refl
ended_fixed policy pipe files path fixed (runs.OutOfFuel at) within = refl

-- ---- a run that is asked for

module _ (origin : Origin) (is : IsChecked origin.policy) (who id : ℕ) (asked : IsAsked origin.policy who id) where
  abbrev pipe : PipeTree
  pipe = pipe_tree asked.tree

  abbrev run_from : FileMap → Checked (Unit {0}) → Effect → Type 0
  run_from files start next = IsRunStep origin files (start >> Ok asked.place) next

  started : (files : FileMap) (next : Effect) → IsRunStep origin files (run_place origin.policy files who id) next → run_from files (start_check origin.policy pipe files) next
  started files next h = subst (λ (place : Checked ℕ). IsRunStep origin files place next) (asked.rest files) h

  isolated : (files : FileMap) (outcome : Outcome) → PipelineComesTo origin.policy asked.place files origin.fuel outcome → IsIsolated origin.policy pipe files origin.fuel outcome
  isolated files outcome comes = isolated_too origin.policy asked.place files origin.fuel (Ok outcome) is comes asked.tree asked.at

  comes_here : (files : FileMap) (outcome : Outcome) → PipelineComesTo origin.policy asked.place files origin.fuel outcome → ComesTo origin.policy.policy pipe files origin.fuel outcome
  comes_here files outcome comes = (isolated files outcome comes).same files (λ path observed. refl)

  -- a run leaves the files that its pipeline doesn't modify
  run_fixed : (files : FileMap) (next : Effect) → IsRunStep origin files (run_place origin.policy files who id) next → (path : List ℕ) → modifies_path origin.policy pipe path ≡ false
      → get next.files path ≡ get files path
  run_fixed files next h path fixed = by_start (start_check origin.policy pipe files) (started files next h)
    where
      by_start : (start : Checked (Unit {0})) → run_from files start next → get next.files path ≡ get files path
      by_start (Ok done) r =
          ap (λ (e : Effect). get e.files path) r.next_is ∙ ended_fixed origin.policy pipe files path fixed r.outcome (isolated files r.outcome r.comes).within
      by_start (Err refusal) r = ap (λ (e : Effect). get e.files path) r

  -- two runs over files that agree in what the pipeline observes
  run_alike : (files others : FileMap) → AgreeFor origin.policy pipe files others → (next twin : Effect)
      → IsRunStep origin files (run_place origin.policy files who id) next → IsRunStep origin others (run_place origin.policy others who id) twin → Alike files others next twin
  run_alike files others agree next twin h k =
      by_start (start_check origin.policy pipe files) (started files next h)
      (subst (λ (start : Checked (Unit {0})). run_from others start twin) (same_start origin.policy pipe files others agree (programs_seen origin.policy asked.place asked.tree is asked.at)) (started others twin k))
    where
      by_start : (start : Checked (Unit {0})) → run_from files start next → run_from others start twin → Alike files others next twin
      by_start (Ok done) r s =
          let i = isolated files r.outcome r.comes in
          let there : PipelineComesTo origin.policy asked.place others origin.fuel r.outcome = (asked.tree, asked.at, i.same others agree) in
          let one : r.outcome ≡ s.outcome = pipeline_comes_to_one origin.policy asked.place others origin.fuel r.outcome s.outcome there s.comes in
          let twin_is : twin ≡ effect_of others (outcome_effect origin.policy others r.outcome) = s.next_is ∙ ap (λ (o : Outcome). effect_of others (outcome_effect origin.policy others o)) (sym one) in
          let both = outcome_alike origin.policy pipe files others agree origin.fuel r.outcome (comes_here files r.outcome r.comes) i.within in
          subst (λ (t : Effect). Alike files others next t) (sym twin_is)
          (subst (λ (n : Effect). Alike files others n (effect_of others (outcome_effect origin.policy others r.outcome))) (sym r.next_is) both)
      by_start (Err refusal) r s =
          subst (λ (t : Effect). Alike files others next t) (sym s) (subst (λ (n : Effect). Alike files others n (effect refusal others)) (sym r) (refused_alike files others refusal))

-- ---- over a closed pair

module _ (origin : Origin) (is : IsChecked origin.policy) (caller : ℕ) (ids regions : ℕ → Bool) (closed : IsClosedFor origin.policy caller ids regions) (who id : ℕ) where
  abbrev inner : List ℕ → Bool
  inner path = in_regions origin.policy regions path

  -- who is none of the identities changes nothing inside
  pub run_stays : (files : FileMap) (next : Effect) → IsRunStep origin files (run_place origin.policy files who id) next → ids who ≡ false → AgreeWhere inner files next.files
  run_stays files next h out = by_checks (asked_or_barred origin.policy who id)
    where
      by_checks : IsBarred origin.policy who id ⊎ IsAsked origin.policy who id → AgreeWhere inner files next.files
      by_checks (inl barred) path in_it =
          let r : next ≡ effect barred.refusal files = subst (λ (place : Checked ℕ). IsRunStep origin files place next) (barred.rest files) h in
          ap (λ (e : Effect). get e.files path) r
      by_checks (inr asked) path in_it = by_test (modifies_path origin.policy (pipe_tree asked.tree) path) refl
        where
          by_test : (b : Bool) → modifies_path origin.policy (pipe_tree asked.tree) path ≡ b → get next.files path ≡ get files path
          by_test true m =
              let one = changes_inside origin.policy caller ids regions closed who asked.identity asked.called asked.place asked.tree asked.at asked.may path m in_it in
              let clash : true ≡ false = sym one ∙ out in
              absurd (let no : ⊥ = cc in no)
          by_test false m = run_fixed origin is who id asked files next h path m

  module _ (files others : FileMap) (agree : AgreeWhere inner files others) (next twin : Effect)
      (h : IsRunStep origin files (run_place origin.policy files who id) next) (k : IsRunStep origin others (run_place origin.policy others who id) twin) where
    barred_alike : IsBarred origin.policy who id → Alike files others next twin
    barred_alike barred =
        let r : next ≡ effect barred.refusal files = subst (λ (place : Checked ℕ). IsRunStep origin files place next) (barred.rest files) h in
        let s : twin ≡ effect barred.refusal others = subst (λ (place : Checked ℕ). IsRunStep origin others place twin) (barred.rest others) k in
        subst (λ (t : Effect). Alike files others next t) (sym s) (subst (λ (n : Effect). Alike files others n (effect barred.refusal others)) (sym r) (refused_alike files others barred.refusal))

    -- the caller is answered the same
    pub run_answers : who ≡ caller → twin.reply ≡ next.reply
    run_answers same = by_checks (asked_or_barred origin.policy who id)
      where
        by_checks : IsBarred origin.policy who id ⊎ IsAsked origin.policy who id → twin.reply ≡ next.reply
        by_checks (inl barred) = (barred_alike barred).reply
        by_checks (inr asked) =
            let called = subst (λ w. identity_of origin.policy w ≡ Ok asked.identity) same asked.called in
            (run_alike origin is who id asked files others
            (λ path observed. agree path (runs_inside origin.policy caller ids regions closed asked.identity called asked.place asked.tree asked.at asked.may path observed)) next twin h k).reply

    -- the files inside are the same after it
    pub run_agrees : AgreeWhere inner next.files twin.files
    run_agrees path in_it = by_checks (asked_or_barred origin.policy who id)
      where
        by_test : (asked : IsAsked origin.policy who id) (b : Bool) → modifies_path origin.policy (pipe_tree asked.tree) path ≡ b → get twin.files path ≡ get next.files path
        by_test asked true m =
            (run_alike origin is who id asked files others
            (λ other observed.
            agree other (led_inside origin.policy caller ids regions closed who asked.identity asked.called asked.place asked.tree asked.at asked.may path m in_it other observed)) next twin h k).files_are path (agree path in_it)
        by_test asked false m = run_fixed origin is who id asked others twin k path m ∙ agree path in_it ∙ sym (run_fixed origin is who id asked files next h path m)

        by_checks : IsBarred origin.policy who id ⊎ IsAsked origin.policy who id → get twin.files path ≡ get next.files path
        by_checks (inl barred) = (barred_alike barred).files_are path (agree path in_it)
        by_checks (inr asked) = by_test asked (modifies_path origin.policy (pipe_tree asked.tree) path) refl
