-- Two runs of a pipeline over files that agree where it observes them go the same way.
use Rattle.std.proofs.Common.{◌≡◌, ℕ, zero, suc, true, false, List, [], ◌++◌, Option, Some, None, All, refl, sym, ap, ◌∙◌, subst}
use Rattle.std.specs.Prelude.{MatchOption}
use Rattle.std.specs.FinMap.{get}
use Rattle.std.proofs.lemmas.List.Elements.{All-head, All-tail}
use Rattle.vr_files.specs.FileMaps.{FileMap}
use Rattle.vr_pipe.specs.Trees.{PipeTree, program, if_then, if_else, feed, sequence, programs_of, tests_of}
use Rattle.vr_policy_check.specs.Rules.{CheckedData}
use Rattle.vr_rights.proofs.ZipLemmas.{All-left, All-right}
use Rattle.vr_exec.specs.Outcomes.{modifies_path}
use Rattle.vr_exec.specs.Runs.{Setting, End, ended, trapped, exhausted, Part, RunsProgram, RunsNothing, RunsIf, FeedsOn, Feeds, after_output, GoesOn, Follows, Runs}
use Rattle.vr_exec.specs.Starts.{observes_path}

module _ (checked : CheckedData) (pipe : PipeTree) (opening others : FileMap) where
  -- the files of the second run are those of the first where the pipeline observes them, and as they were where it can't
  -- change them
  pub record AreTwins (files twin : FileMap) : Type 0 where
    pub seen : (path : List ℕ) → observes_path checked pipe path ≡ true → get twin path ≡ get files path
    pub here : (path : List ℕ) → modifies_path checked pipe path ≡ false → get files path ≡ get opening path
    pub there : (path : List ℕ) → modifies_path checked pipe path ≡ false → get twin path ≡ get others path

  -- the second run ends as the first does, but for the files
  abbrev pub EndAlike : End → End → Type 0
  EndAlike (ended code output files left) b = (twin : FileMap) × (b ≡ ended code output twin left) × AreTwins files twin
  EndAlike (trapped at kind) b = b ≡ trapped at kind
  EndAlike (exhausted at) b = b ≡ exhausted at

  -- where the first part runs over the first files, the second one does over the others, and ends alike
  abbrev pub GoAlike : Part → Part → Type 0
  GoAlike part other =
      (files twin : FileMap) (input : List ℕ) (fuel : ℕ) (a : End) → AreTwins files twin → part files input fuel a → (b : End) × other twin input fuel b × EndAlike a b

  nothing_alike : GoAlike RunsNothing RunsNothing
  nothing_alike files twin input fuel a t h = (ended 0 [] twin fuel, refl, subst (λ e. EndAlike e (ended 0 [] twin fuel)) (sym h) (twin, refl, t))

  if_alike : (path : List ℕ) (there absent there' absent' : Part) → observes_path checked pipe path ≡ true → GoAlike there there' → GoAlike absent absent'
      → GoAlike (RunsIf path there absent) (RunsIf path there' absent')
  if_alike path there absent there' absent' observed p q files twin input fuel a t h = by_file (get files path) refl h
    where
      by_file : (found : Option (List ℕ)) → get files path ≡ found → MatchOption found (absent files input fuel a) (λ _. there files input fuel a)
          → (b : End) × MatchOption (get twin path) (absent' twin input fuel b) (λ _. there' twin input fuel b) × EndAlike a b
      by_file None e k =
          let r = q files twin input fuel a t k in
          (r.0, subst (λ o. MatchOption o (absent' twin input fuel r.0) (λ _. there' twin input fuel r.0)) (sym (t.seen path observed ∙ e)) r.1, r.2)
      by_file (Some body) e k =
          let r = p files twin input fuel a t k in
          (r.0, subst (λ o. MatchOption o (absent' twin input fuel r.0) (λ _. there' twin input fuel r.0)) (sym (t.seen path observed ∙ e)) r.1, r.2)

  feeds_alike : (first second first' second' : Part) → GoAlike first first' → GoAlike second second' → GoAlike (Feeds first second) (Feeds first' second')
  feeds_alike first second first' second' f s files twin input fuel a t h =
      let g = f files twin input fuel h.0 t h.1 in
      let r = after h.0 g.0 g.2 h.2 in
      (r.0, (g.0, g.1, r.1), r.2)
    where
      after : (between other : End) → EndAlike between other → FeedsOn second between a → (b : End) × FeedsOn second' other b × EndAlike a b
      after (ended zero output now left) other (then_, is, alike) k =
          let r = s now then_ output left a alike k in
          (r.0, subst (λ e. FeedsOn second' e r.0) (sym is) r.1, r.2)
      after (ended (suc code) output now left) other (then_, is, alike) k =
          let b = ended (suc code) [] then_ left in
          (b, subst (λ e. FeedsOn second' e b) (sym is) refl, subst (λ e. EndAlike e b) (sym k) (then_, refl, alike))
      after (trapped at kind) other is k =
          let b = trapped at kind in (b, subst (λ e. FeedsOn second' e b) (sym is) refl, subst (λ e. EndAlike e b) (sym k) refl)
      after (exhausted at) other is k =
          let b = exhausted at in (b, subst (λ e. FeedsOn second' e b) (sym is) refl, subst (λ e. EndAlike e b) (sym k) refl)

  output_alike : (output : List ℕ) (a b : End) → EndAlike a b → EndAlike (after_output output a) (after_output output b)
  output_alike output (ended code more files left) b (twin, is, t) = (twin, ap (after_output output) is, t)
  output_alike output (trapped at kind) b is = ap (after_output output) is
  output_alike output (exhausted at) b is = ap (after_output output) is

  follows_alike : (first second first' second' : Part) → GoAlike first first' → GoAlike second second' → GoAlike (Follows first second) (Follows first' second')
  follows_alike first second first' second' f s files twin input fuel a t h =
      let g = f files twin input fuel h.0 t h.1 in
      let r = after h.0 g.0 g.2 h.2 in
      (r.0, (g.0, g.1, r.1), r.2)
    where
      after : (between other : End) → EndAlike between other → GoesOn second between a → (b : End) × GoesOn second' other b × EndAlike a b
      after (ended zero output now left) other (then_, is, alike) k =
          let r = s now then_ [] left k.0 alike k.1 in
          let b = after_output output r.0 in
          (b, subst (λ e. GoesOn second' e b) (sym is) (r.0, r.1, refl), subst (λ e. EndAlike e b) (sym k.2) (output_alike output k.0 r.0 r.2))
      after (ended (suc code) output now left) other (then_, is, alike) k =
          let b = ended (suc code) output then_ left in
          (b, subst (λ e. GoesOn second' e b) (sym is) refl, subst (λ e. EndAlike e b) (sym k) (then_, refl, alike))
      after (trapped at kind) other is k =
          let b = trapped at kind in (b, subst (λ e. GoesOn second' e b) (sym is) refl, subst (λ e. EndAlike e b) (sym k) refl)
      after (exhausted at) other is k =
          let b = exhausted at in (b, subst (λ e. GoesOn second' e b) (sym is) refl, subst (λ e. EndAlike e b) (sym k) refl)

  module _ (here there : Setting) (Fine : List ℕ → Type 0) (programs : (path : List ℕ) → Fine path → GoAlike (RunsProgram here path) (RunsProgram there path)) where
    abbrev Seen : List ℕ → Type 0
    Seen path = observes_path checked pipe path ≡ true

    -- a part whose programs go alike, and whose tests are observed
    pub parts_alike : (part : PipeTree) → All Fine (programs_of part) → All (λ path. observes_path checked pipe path ≡ true) (tests_of part) → GoAlike (Runs here part) (Runs there part)
    parts_alike (program path) ps ts = programs path (All-head Fine path [] ps)
    parts_alike (if_then path taken) ps ts =
        if_alike path (Runs here taken) RunsNothing (Runs there taken) RunsNothing (All-head Seen path (tests_of taken) ts)
        (parts_alike taken ps (All-tail Seen path (tests_of taken) ts)) nothing_alike
    parts_alike (if_else path taken other) ps ts =
        let rest = All-tail Seen path (tests_of taken ++ tests_of other) ts in
        if_alike path (Runs here taken) (Runs here other) (Runs there taken) (Runs there other) (All-head Seen path (tests_of taken ++ tests_of other) ts)
        (parts_alike taken (All-left Fine (programs_of taken) (programs_of other) ps) (All-left Seen (tests_of taken) (tests_of other) rest))
        (parts_alike other (All-right Fine (programs_of taken) (programs_of other) ps) (All-right Seen (tests_of taken) (tests_of other) rest))
    parts_alike (feed first second) ps ts =
        feeds_alike (Runs here first) (Runs here second) (Runs there first) (Runs there second)
        (parts_alike first (All-left Fine (programs_of first) (programs_of second) ps) (All-left Seen (tests_of first) (tests_of second) ts))
        (parts_alike second (All-right Fine (programs_of first) (programs_of second) ps) (All-right Seen (tests_of first) (tests_of second) ts))
    parts_alike (sequence first second) ps ts =
        follows_alike (Runs here first) (Runs here second) (Runs there first) (Runs there second)
        (parts_alike first (All-left Fine (programs_of first) (programs_of second) ps) (All-left Seen (tests_of first) (tests_of second) ts))
        (parts_alike second (All-right Fine (programs_of first) (programs_of second) ps) (All-right Seen (tests_of first) (tests_of second) ts))
