-- What is left of a part that has run is what the parts in it leave.
use Rattle.std.proofs.Common.{◌≡◌, ◌≢◌, ◌≤◌, ◌-◌, ℕ, zero, suc, Bool, true, false, List, [], ◌∷◌, ◌++◌, Option, Some, None, Result, Ok, Err, refl, sym, ap, ◌∙◌, subst}
use Rattle.std.proofs.Common.{Bor, Contains}
use Rattle.std.specs.Prelude.{MatchOption, MatchResult, IsSome, bytes_eq, find, is_some}
use Rattle.std.specs.Option.{option_copied}
use Rattle.std.specs.FinMap.{get}
use Rattle.vr_files.specs.Changes.{Layers}
use Rattle.vr_files.specs.FileMaps.{FileMap}
use Rattle.vr_pipe.specs.declared.trees.Tree.{Tree}
use Rattle.vr_pipe.specs.declared.trees.Tree.TheVariants.{Program, If, Feed, Then}
use Rattle.vr_pipe.proofs.TreeLemmas.{pipeline_program, pipeline_test, pipeline_choice, pipeline_feed, pipeline_then}
use Rattle.vr_pipe.specs.Trees.{PipeTree, program, if_then, if_else, feed, sequence, pipe_tree}
use Rattle.vr_policy_read.specs.PolicyData.{PolicyData}
use Rattle.vr_wasm_ast.specs.declared.tree.Module.{Module}
use Rattle.vr_wasm_link.specs.declared.faults.LinkFault.{LinkFault}
use Rattle.vr_wasm_link.specs.Opening.{Opening, opening_of}
use Rattle.vr_wasm_link.specs.Plans.{Plan, opening_in}
use Rattle.vr_wasm_run.specs.Answers.{Tells}
use Rattle.vr_wasm_run.specs.Openings.{linked_program, linked_start}
use Rattle.vr_wasm_run.specs.declared.machine.End.{End as Answer}
use Rattle.vr_wasm_run.specs.declared.machine.End.TheVariants as answers
use Rattle.vr_wasm_steps.specs.Rows.{Config, Program as Machine}
use Rattle.vr_wasm_steps.specs.Runs.{Ends, StillRuns, Traps, start}
use Rattle.vr_wasi_calls.specs.Functions.{finds}
use Rattle.vr_wasi_calls.specs.Replies.{reply}
use Rattle.vr_wasi_calls.specs.Worlds.{World, first_world}
use Rattle.vr_exec.specs.declared.running.Left.{Left}
use Rattle.vr_exec.specs.declared.running.Stop.{Stop}
use Rattle.vr_exec.specs.declared.running.Stop.TheVariants.{Trapped, OutOfFuel, OutOfMemory, NotLoaded}
use Rattle.vr_exec.specs.Left.{EndsBy}
use Rattle.vr_exec.specs.declared.loading.Loaded.{Loaded}
use Rattle.vr_exec.specs.Loaded.{AreLoaded, IsLoaded, executable}
use Rattle.vr_exec.specs.Programs.{Executable, HasProgram}
use Rattle.vr_exec.specs.Runs.{Setting, End, ended, trapped, exhausted, RunsProgram, FeedsOn, GoesOn, Runs, grants_at, machine_of, start_at, world_at}
use Rattle.vr_exec.proofs.BaseLemmas.{base_kept}
use Rattle.vr_exec.proofs.LoadLemmas.{found_loaded, path_found}

-- ---- one program

one_opening : (a b : Opening) → ◌≡◌ {A = Result Opening LinkFault} (Ok a) (Ok b) → a ≡ b
one_opening a b e = cc

-- a linked module is what is run
module _ (plan : Plan) (tree : Module) (opening : Opening) (pages : ℕ) (same : plan.tree ≡ tree) (links : opening_of finds tree pages ≡ Ok (opening_in finds plan)) (opens : opening_of finds tree pages ≡ Ok opening) where
  opening_is : opening_in finds plan ≡ opening
  opening_is = one_opening (opening_in finds plan) opening (sym links ∙ opens)

  pub program_is : linked_program reply finds plan ≡ machine_of (executable tree opening)
  program_is = λ i. record { types = (same i).types; functions = (opening_is i).functions; reply = reply }

  pub start_is : (w : World) → linked_start finds plan w ≡ start opening.store w opening.start opening.main
  start_is w = ap (λ (o : Opening). start o.store w o.start o.main) opening_is

module _ (setting : Setting) (path : List ℕ) (files : FileMap) (input : List ℕ) (fuel : ℕ) (x : Executable) (p : Machine World) (k : Config World)
    (has : HasProgram setting.policy.pages setting.opening path x) (machine : p ≡ machine_of x) (begins : k ≡ start_at setting x path files input) where
  moved : (P : Machine World → Config World → Type 0) → P p k → P (machine_of x) (start_at setting x path files input)
  moved P h = subst (λ c. P (machine_of x) c) begins (subst (λ q. P q k) machine h)

  pub program_ended : (used code : ℕ) (w : World) → used ≤ fuel → Ends p used k code w
      → (w.files.base ≡ setting.opening) × RunsProgram setting path files input fuel (ended code w.output w.files.files (fuel - used))
  program_ended used code w within ends =
      let there = moved (λ q c. Ends q used c code w) ends in (
        (base_kept (world_at setting path files input) x.tree.types x.opening.functions (start_at setting x path files input) refl).ended used code w there,
        record { executable = x; loaded = has; run = record { used = used; world = w; within = within; ends = there; output_is = refl; files_are = refl; left_is = refl } },
      )

  pub program_trapped : (used kind : ℕ) → used ≤ fuel → Traps p used k kind → RunsProgram setting path files input fuel (trapped path kind)
  program_trapped used kind within traps =
      record { executable = x; loaded = has; run = (refl, record { used = used; within = within; traps = moved (λ q c. Traps q used c kind) traps }) }

  pub program_exhausted : StillRuns p fuel k → RunsProgram setting path files input fuel (exhausted path)
  program_exhausted runs = record { executable = x; loaded = has; run = (refl, moved (λ q c. StillRuns q fuel c) runs) }

-- ---- what is left

-- a weaker fact of how it ended
ends_weaker : (opening : FileMap) (r : Result Left Stop) (P Q : End → Type 0) → ((e : End) → P e → Q e) → EndsBy opening r P → EndsBy opening r Q
ends_weaker opening (Ok left) P Q f h = (h.0, f (ended left.code left.out left.files.files left.fuel) h.1)
ends_weaker opening (Err (Trapped path kind)) P Q f h = f (trapped path kind) h
ends_weaker opening (Err (OutOfFuel path)) P Q f h = f (exhausted path) h
ends_weaker opening (Err OutOfMemory) P Q f h = tt
ends_weaker opening (Err NotLoaded) P Q f h = h

module _ (policy : PolicyData) (opening files : FileMap) (input : List ℕ) (fuel : ℕ) where
  abbrev Ended : PipeTree → Result Left Stop → Type 0
  Ended pipe r = EndsBy opening r (Runs (record { policy = policy; opening = opening }) pipe files input fuel)

  pub as_tree : (tree : Tree) (pipe : PipeTree) (r : Result Left Stop) → pipe_tree tree ≡ pipe → EndsBy opening r (Runs (record { policy = policy; opening = opening }) pipe files input fuel)
      → EndsBy opening r (Runs (record { policy = policy; opening = opening }) (pipe_tree tree) files input fuel)
  as_tree tree pipe r is h = subst (λ p. EndsBy opening r (Runs (record { policy = policy; opening = opening }) p files input fuel)) (sym is) h

  -- ---- tests

  if_is_there : (A B : Type 0) (found : Option (List ℕ)) → is_some found ≡ true → B → MatchOption found A (λ _. B)
  if_is_there A B None t h = cc
  if_is_there A B (Some body) t h = h

  if_is_absent : (A B : Type 0) (found : Option (List ℕ)) → is_some found ≡ false → A → MatchOption found A (λ _. B)
  if_is_absent A B None t h = h
  if_is_absent A B (Some body) t h = cc

  pub then_there : (path : List ℕ) (taken : PipeTree) (r : Result Left Stop) → is_some (get files path) ≡ true → Ended taken r → Ended (if_then path taken) r
  then_there path taken r t h = ends_weaker opening r _ _ (λ e k. if_is_there _ _ (get files path) t k) h

  pub else_there : (path : List ℕ) (taken other : PipeTree) (r : Result Left Stop) → is_some (get files path) ≡ true → Ended taken r → Ended (if_else path taken other) r
  else_there path taken other r t h = ends_weaker opening r _ _ (λ e k. if_is_there _ _ (get files path) t k) h

  pub else_absent : (path : List ℕ) (taken other : PipeTree) (r : Result Left Stop) → is_some (get files path) ≡ false → Ended other r → Ended (if_else path taken other) r
  else_absent path taken other r t h = ends_weaker opening r _ _ (λ e k. if_is_absent _ _ (get files path) t k) h

  pub then_absent : (path : List ℕ) (taken : PipeTree) → is_some (get files path) ≡ false → Runs (record { policy = policy; opening = opening }) (if_then path taken) files input fuel (ended 0 [] files fuel)
  then_absent path taken t = if_is_absent _ _ (get files path) t refl

  -- ---- feeds

  pub feed_stops : (first second : PipeTree) (stop : Stop) → Ended first (Err stop) → Ended (feed first second) (Err stop)
  feed_stops first second (Trapped path kind) h = (trapped path kind, h, refl)
  feed_stops first second (OutOfFuel path) h = (exhausted path, h, refl)
  feed_stops first second OutOfMemory h = tt
  feed_stops first second NotLoaded h = h

  pub feed_ends : (first second : PipeTree) (left : Left) → left.code ≢ 0 → Ended first (Ok left) → Ended (feed first second) (Ok (record left { out = [] }))
  feed_ends first second left not h = (h.0, (ended left.code left.out left.files.files left.fuel, h.1, by_code left.code not))
    where
      by_code : (code : ℕ) → code ≢ 0
          → FeedsOn (Runs (record { policy = policy; opening = opening }) second) (ended code left.out left.files.files left.fuel) (ended code [] left.files.files left.fuel)
      by_code zero n = absurd (n refl)
      by_code (suc code) n = refl

  pub feed_goes : (first second : PipeTree) (left : Left) (r : Result Left Stop) → left.code ≡ 0 → Ended first (Ok left)
      → EndsBy left.files.base r (Runs (record { policy = policy; opening = left.files.base }) second left.files.files left.out left.fuel) → Ended (feed first second) r
  feed_goes first second left r done h k =
      let rest = subst (λ b. EndsBy b r (Runs (record { policy = policy; opening = b }) second left.files.files left.out left.fuel)) h.0 k in
      let begun = subst (λ c. Runs (record { policy = policy; opening = opening }) first files input fuel (ended c left.out left.files.files left.fuel)) done h.1 in
      ends_weaker opening r _ _ (λ e x. (ended 0 left.out left.files.files left.fuel, begun, x)) rest

  -- ---- sequences

  pub follow_stops : (first second : PipeTree) (stop : Stop) → Ended first (Err stop) → Ended (sequence first second) (Err stop)
  follow_stops first second (Trapped path kind) h = (trapped path kind, h, refl)
  follow_stops first second (OutOfFuel path) h = (exhausted path, h, refl)
  follow_stops first second OutOfMemory h = tt
  follow_stops first second NotLoaded h = h

  pub follow_ends : (first second : PipeTree) (left : Left) → left.code ≢ 0 → Ended first (Ok left) → Ended (sequence first second) (Ok left)
  follow_ends first second left not h = (h.0, (ended left.code left.out left.files.files left.fuel, h.1, by_code left.code not))
    where
      by_code : (code : ℕ) → code ≢ 0
          → GoesOn (Runs (record { policy = policy; opening = opening }) second) (ended code left.out left.files.files left.fuel) (ended code left.out left.files.files left.fuel)
      by_code zero n = absurd (n refl)
      by_code (suc code) n = refl

  -- the second part's end, with the first part's output before it
  module _ (first second : PipeTree) (left : Left) (done : left.code ≡ 0) (h : Ended first (Ok left)) where
    begun : Runs (record { policy = policy; opening = opening }) first files input fuel (ended 0 left.out left.files.files left.fuel)
    begun = subst (λ c. Runs (record { policy = policy; opening = opening }) first files input fuel (ended c left.out left.files.files left.fuel)) done h.1

    over : (r : Result Left Stop) → EndsBy left.files.base r (Runs (record { policy = policy; opening = left.files.base }) second left.files.files [] left.fuel)
        → EndsBy opening r (Runs (record { policy = policy; opening = opening }) second left.files.files [] left.fuel)
    over r k = subst (λ b. EndsBy b r (Runs (record { policy = policy; opening = b }) second left.files.files [] left.fuel)) h.0 k

    pub then_stops : (stop : Stop) → EndsBy left.files.base (Err stop) (Runs (record { policy = policy; opening = left.files.base }) second left.files.files [] left.fuel) → Ended (sequence first second) (Err stop)
    then_stops (Trapped path kind) k = (ended 0 left.out left.files.files left.fuel, begun, (trapped path kind, over (Err (Trapped path kind)) k, refl))
    then_stops (OutOfFuel path) k = (ended 0 left.out left.files.files left.fuel, begun, (exhausted path, over (Err (OutOfFuel path)) k, refl))
    then_stops OutOfMemory k = tt
    then_stops NotLoaded k = k

    pub then_ends : (rest : Left) (r : Result Left Stop) → EndsBy left.files.base (Ok rest) (Runs (record { policy = policy; opening = left.files.base }) second left.files.files [] left.fuel)
        → MatchResult r (λ joined. joined ≡ record rest { out = left.out ++ rest.out }) (λ stop. stop ≡ OutOfMemory) → Ended (sequence first second) r
    then_ends rest (Ok joined) k is =
        let whole = over (Ok rest) k in
        let ending : End = ended rest.code rest.out rest.files.files rest.fuel in
        subst (λ (l : Left). Ended (sequence first second) (Ok l)) (sym is) (whole.0, (ended 0 left.out left.files.files left.fuel, begun, (ending, whole.1, refl)))
    then_ends rest (Err stop) k is = subst (λ s. Ended (sequence first second) (Err s)) (sym is) tt

-- ---- a program, from what its run is made of

copied_some : {A : Type 0} (r : Option (Bor A)) → ((x : Bor A) → r ≡ Some x → ⊥) → IsSome (option_copied r) → ⊥
copied_some None n h = cc
copied_some (Some x) n h = n x refl

-- the program that is looked for is found
pub program_found : (pages : ℕ) (files : FileMap) (programs : List Loaded) (path : List ℕ) (r : Option (Bor Loaded)) → AreLoaded pages files (path ∷ []) programs
    → option_copied r ≡ find (λ (l : Loaded). bytes_eq l.path path) programs → ((x : Bor Loaded) → r ≡ Some x → ⊥) → ⊥
program_found pages files programs path r are h n = copied_some r n (subst IsSome (sym h) (path_found pages files programs path are))

-- the world of a program, by its path and grants
pub world_from : (state : World) (path path' : List ℕ) (grants grants' : List (List ℕ × ℕ)) (files : Layers) (input : List ℕ) → path' ≡ path → grants' ≡ grants
    → state ≡ first_world path' grants' files input → state ≡ first_world path grants files input
world_from state path path' grants grants' files input p g h = h ∙ ap (λ q. first_world q grants' files input) p ∙ ap (λ x. first_world path x files input) g

module _ (policy : PolicyData) (layers : Layers) (path input : List ℕ) (fuel : ℕ) (programs : List Loaded) (loaded : Loaded) (plan : Plan) (state : World) (p : Machine World) (k : Config World) (pages : ℕ)
    (are : AreLoaded policy.pages layers.base (path ∷ []) programs) (found : Some loaded ≡ find (λ (l : Loaded). bytes_eq l.path path) programs)
    (pages_is : pages ≡ policy.pages) (links : opening_of finds loaded.tree pages ≡ Ok (opening_in finds plan)) (tree_is : plan.tree ≡ loaded.tree)
    (state_is : state ≡ first_world path (grants_at policy path) layers input) (machine : p ≡ linked_program reply finds plan) (begins : k ≡ linked_start finds plan state) where
  abbrev setting : Setting
  setting = record { policy = policy; opening = layers.base }

  is : IsLoaded policy.pages layers.base loaded × Contains programs loaded × (loaded.path ≡ path)
  is = found_loaded policy.pages layers.base programs path loaded are.are_programs (sym found)

  links_so : opening_of finds loaded.tree policy.pages ≡ Ok (opening_in finds plan)
  links_so = subst (λ n. opening_of finds loaded.tree n ≡ Ok (opening_in finds plan)) pages_is links

  module _ (o : Opening) (has : HasProgram policy.pages layers.base path (executable loaded.tree o)) where
    machine_is : p ≡ machine_of (executable loaded.tree o)
    machine_is = machine ∙ program_is plan loaded.tree o policy.pages tree_is links_so has.is_program.linked

    begins_so : k ≡ start_at setting (executable loaded.tree o) path layers.files input
    begins_so =
        begins ∙ ap (linked_start finds plan) state_is
        ∙ start_is plan loaded.tree o policy.pages tree_is links_so has.is_program.linked (first_world path (grants_at policy path) layers input)

    ended_with : (answer : Answer) (code used : ℕ) (w : World) (files : Layers) (out : List ℕ) → answer ≡ answers.Ended code used → Tells p fuel k answer w → files ≡ w.files → out ≡ w.output
        → (files.base ≡ layers.base) × RunsProgram setting path layers.files input fuel (ended code out files.files (fuel - used))
    ended_with answer code used w files out a tells f e =
        let told = subst (λ x. Tells p fuel k x w) a tells in
        let r = program_ended setting path layers.files input fuel (executable loaded.tree o) p k has machine_is begins_so used code w told.0 told.1 in
        let files_ : files.files ≡ w.files.files = ap (λ (l : Layers). l.files) f in
        let base_ : files.base ≡ w.files.base = ap (λ (l : Layers). l.base) f in (
          base_ ∙ r.0,
          subst (λ x. RunsProgram setting path layers.files input fuel (ended code x files.files (fuel - used))) (sym e)
              (subst (λ (x : FileMap). RunsProgram setting path layers.files input fuel (ended code w.output x (fuel - used))) (sym files_) r.1),
        )

    trapped_with : (answer : Answer) (kind used : ℕ) (w : World) (at : List ℕ) → answer ≡ answers.Trapped kind used → Tells p fuel k answer w → at ≡ path
        → RunsProgram setting path layers.files input fuel (trapped at kind)
    trapped_with answer kind used w at a tells same =
        let told = subst (λ x. Tells p fuel k x w) a tells in
        subst (λ x. RunsProgram setting path layers.files input fuel (trapped x kind)) (sym same)
        (program_trapped setting path layers.files input fuel (executable loaded.tree o) p k has machine_is begins_so used kind told.0 told.1)

    exhausted_with : (answer : Answer) (w : World) (at : List ℕ) → answer ≡ answers.OutOfFuel → Tells p fuel k answer w → at ≡ path
        → RunsProgram setting path layers.files input fuel (exhausted at)
    exhausted_with answer w at a tells same =
        let told = subst (λ x. Tells p fuel k x w) a tells in
        subst (λ x. RunsProgram setting path layers.files input fuel (exhausted x)) (sym same)
        (program_exhausted setting path layers.files input fuel (executable loaded.tree o) p k has machine_is begins_so told)

  has_it : HasProgram policy.pages layers.base path (executable loaded.tree is.0.opening)
  has_it = subst (λ q. HasProgram policy.pages layers.base q (executable loaded.tree is.0.opening)) is.2 is.0.has

  pub runs_ended : (answer : Answer) (code used : ℕ) (w : World) (files : Layers) (out : List ℕ) → answer ≡ answers.Ended code used → Tells p fuel k answer w → files ≡ w.files → out ≡ w.output
      → (files.base ≡ layers.base) × RunsProgram (record { policy = policy; opening = layers.base }) path layers.files input fuel (ended code out files.files (fuel - used))
  runs_ended = ended_with is.0.opening has_it

  pub runs_trapped : (answer : Answer) (kind used : ℕ) (w : World) (at : List ℕ) → answer ≡ answers.Trapped kind used → Tells p fuel k answer w → at ≡ path
      → RunsProgram (record { policy = policy; opening = layers.base }) path layers.files input fuel (trapped at kind)
  runs_trapped = trapped_with is.0.opening has_it

  pub runs_exhausted : (answer : Answer) (w : World) (at : List ℕ) → answer ≡ answers.OutOfFuel → Tells p fuel k answer w → at ≡ path
      → RunsProgram (record { policy = policy; opening = layers.base }) path layers.files input fuel (exhausted at)
  runs_exhausted = exhausted_with is.0.opening has_it

-- ---- a part, by its tree

is_some_copied : (r : Option (Bor (List ℕ))) → is_some (option_copied r) ≡ is_some r
is_some_copied None = refl
is_some_copied (Some x) = refl

-- whether a file is there, as it was asked
pub tested : (r : Option (Bor (List ℕ))) (found : Option (List ℕ)) (b answer : Bool) → option_copied r ≡ found → b ≡ is_some r → b ≡ answer → is_some found ≡ answer
tested r found b answer is asked told = sym (ap is_some is) ∙ is_some_copied r ∙ sym asked ∙ told

module _ (policy : PolicyData) (layers : Layers) (tree : Tree) (input : List ℕ) (fuel : ℕ) where
  -- how the pipeline of a tree ends over these files
  abbrev Goes : Tree → Result Left Stop → Type 0
  Goes part r = EndsBy layers.base r (Runs (record { policy = policy; opening = layers.base }) (pipe_tree part) layers.files input fuel)

  abbrev GoesOver : Tree → Left → List ℕ → Result Left Stop → Type 0
  GoesOver part left more r = EndsBy left.files.base r (Runs (record { policy = policy; opening = left.files.base }) (pipe_tree part) left.files.files more left.fuel)

  as_pipe : (pipe : PipeTree) (whole : Tree) (r : Result Left Stop) → tree ≡ whole → pipe_tree whole ≡ pipe
      → EndsBy layers.base r (Runs (record { policy = policy; opening = layers.base }) pipe layers.files input fuel) → Goes tree r
  as_pipe pipe whole r is same h = as_tree policy layers.base layers.files input fuel tree pipe r (ap pipe_tree is ∙ same) h

  part_is : (part whole : Tree) (r : Result Left Stop) → part ≡ whole → Goes part r → Goes whole r
  part_is part whole r is h = subst (λ (t : Tree). Goes t r) is h

  pub ran_program : (path : List ℕ) (r : Result Left Stop) → tree ≡ Program path → EndsBy layers.base r (RunsProgram (record { policy = policy; opening = layers.base }) path layers.files input fuel) → Goes tree r
  ran_program path r is h = as_pipe (program path) (Program path) r is (pipeline_program path) h

  taken_goes : (path : List ℕ) (taken : Tree) (other : Option Tree) (r : Result Left Stop) → tree ≡ If path taken other → is_some (get layers.files path) ≡ true → Goes taken r → Goes tree r
  taken_goes path taken None r is t h =
      as_pipe (if_then path (pipe_tree taken)) (If path taken None) r is (pipeline_test path taken) (then_there policy layers.base layers.files input fuel path (pipe_tree taken) r t h)
  taken_goes path taken (Some other) r is t h =
      as_pipe (if_else path (pipe_tree taken) (pipe_tree other)) (If path taken (Some other)) r is (pipeline_choice path taken other)
      (else_there policy layers.base layers.files input fuel path (pipe_tree taken) (pipe_tree other) r t h)

  pub ran_taken : (path : List ℕ) (taken : Tree) (other : Option Tree) (part : Tree) (r : Result Left Stop) → tree ≡ If path taken other → part ≡ taken → is_some (get layers.files path) ≡ true
      → Goes part r → Goes tree r
  ran_taken path taken other part r is same t h = taken_goes path taken other r is t (part_is part taken r same h)

  pub ran_other : (path : List ℕ) (taken : Tree) (option : Option Tree) (other part : Tree) (r : Result Left Stop) → tree ≡ If path taken option → option ≡ Some other → part ≡ other
      → is_some (get layers.files path) ≡ false → Goes part r → Goes tree r
  ran_other path taken option other part r is some same t h =
      as_pipe (if_else path (pipe_tree taken) (pipe_tree other)) (If path taken (Some other)) r (is ∙ ap (If path taken) some) (pipeline_choice path taken other)
      (else_absent policy layers.base layers.files input fuel path (pipe_tree taken) (pipe_tree other) r t (part_is part other r same h))

  pub ran_none : (path : List ℕ) (taken : Tree) (option : Option Tree) (out : List ℕ) → tree ≡ If path taken option → option ≡ None → is_some (get layers.files path) ≡ false → out ≡ []
      → (layers.base ≡ layers.base) × Runs (record { policy = policy; opening = layers.base }) (pipe_tree tree) layers.files input fuel (ended 0 out layers.files fuel)
  ran_none path taken option out is none t empty = (
    refl,
    subst (λ o. Runs (record { policy = policy; opening = layers.base }) (pipe_tree tree) layers.files input fuel (ended 0 o layers.files fuel)) (sym empty)
        (subst (λ p. Runs (record { policy = policy; opening = layers.base }) p layers.files input fuel (ended 0 [] layers.files fuel))
        (sym (ap pipe_tree (is ∙ ap (If path taken) none) ∙ pipeline_test path taken))
        (then_absent policy layers.base layers.files input fuel path (pipe_tree taken) t)),
  )

  pub fed_stops : (first second part : Tree) (stop : Stop) → tree ≡ Feed first second → part ≡ first → Goes part (Err stop) → Goes tree (Err stop)
  fed_stops first second part stop is same h =
      as_pipe (feed (pipe_tree first) (pipe_tree second)) (Feed first second) (Err stop) is (pipeline_feed first second)
      (feed_stops policy layers.base layers.files input fuel (pipe_tree first) (pipe_tree second) stop (part_is part first (Err stop) same h))

  pub fed_ends : (first second part : Tree) (left silent : Left) → tree ≡ Feed first second → part ≡ first → left.code ≢ 0 → silent ≡ record left { out = [] } → Goes part (Ok left) → Goes tree (Ok silent)
  fed_ends first second part left silent is same not silent_is h =
      subst (λ (l : Left). Goes tree (Ok l)) (sym silent_is)
      (as_pipe (feed (pipe_tree first) (pipe_tree second)) (Feed first second) (Ok (record left { out = [] })) is (pipeline_feed first second)
      (feed_ends policy layers.base layers.files input fuel (pipe_tree first) (pipe_tree second) left not (part_is part first (Ok left) same h)))

  pub fed_goes : (first second part next : Tree) (left : Left) (r : Result Left Stop) → tree ≡ Feed first second → part ≡ first → next ≡ second → left.code ≡ 0 → Goes part (Ok left)
      → GoesOver next left left.out r → Goes tree r
  fed_goes first second part next left r is same then_ done h k =
      as_pipe (feed (pipe_tree first) (pipe_tree second)) (Feed first second) r is (pipeline_feed first second)
      (feed_goes policy layers.base layers.files input fuel (pipe_tree first) (pipe_tree second) left r done (part_is part first (Ok left) same h)
      (subst (λ (t : Tree). GoesOver t left left.out r) then_ k))

  pub followed_stops : (first second part : Tree) (stop : Stop) → tree ≡ Then first second → part ≡ first → Goes part (Err stop) → Goes tree (Err stop)
  followed_stops first second part stop is same h =
      as_pipe (sequence (pipe_tree first) (pipe_tree second)) (Then first second) (Err stop) is (pipeline_then first second)
      (follow_stops policy layers.base layers.files input fuel (pipe_tree first) (pipe_tree second) stop (part_is part first (Err stop) same h))

  pub followed_ends : (first second part : Tree) (left : Left) → tree ≡ Then first second → part ≡ first → left.code ≢ 0 → Goes part (Ok left) → Goes tree (Ok left)
  followed_ends first second part left is same not h =
      as_pipe (sequence (pipe_tree first) (pipe_tree second)) (Then first second) (Ok left) is (pipeline_then first second)
      (follow_ends policy layers.base layers.files input fuel (pipe_tree first) (pipe_tree second) left not (part_is part first (Ok left) same h))

  pub followed_then_stops : (first second part next : Tree) (left : Left) (more : List ℕ) (stop : Stop) → tree ≡ Then first second → part ≡ first → next ≡ second → left.code ≡ 0 → more ≡ []
      → Goes part (Ok left) → GoesOver next left more (Err stop) → Goes tree (Err stop)
  followed_then_stops first second part next left more stop is same then_ done none h k =
      as_pipe (sequence (pipe_tree first) (pipe_tree second)) (Then first second) (Err stop) is (pipeline_then first second)
      (then_stops policy layers.base layers.files input fuel (pipe_tree first) (pipe_tree second) left done (part_is part first (Ok left) same h) stop
      (subst (λ (t : Tree). GoesOver t left [] (Err stop)) then_ (subst (λ m. GoesOver next left m (Err stop)) none k)))

  pub followed_then_ends : (first second part next : Tree) (left rest : Left) (more : List ℕ) (r : Result Left Stop) → tree ≡ Then first second → part ≡ first → next ≡ second → left.code ≡ 0 → more ≡ []
      → Goes part (Ok left) → GoesOver next left more (Ok rest) → MatchResult r (λ joined. joined ≡ record rest { out = left.out ++ rest.out }) (λ stop. stop ≡ OutOfMemory) → Goes tree r
  followed_then_ends first second part next left rest more r is same then_ done none h k joins =
      as_pipe (sequence (pipe_tree first) (pipe_tree second)) (Then first second) r is (pipeline_then first second)
      (then_ends policy layers.base layers.files input fuel (pipe_tree first) (pipe_tree second) left done (part_is part first (Ok left) same h) rest r
      (subst (λ (t : Tree). GoesOver t left [] (Ok rest)) then_ (subst (λ m. GoesOver next left m (Ok rest)) none k)) joins)
