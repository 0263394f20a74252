-- What the run of a pipeline comes to, from what is left of it.
use Rattle.std.proofs.Common.{◌≡◌, ℕ, List, [], Some, Result, Ok, Err, sym, ap, ◌∙◌, subst}
use Rattle.std.specs.Prelude.{IfOk, slice_get}
use Rattle.std.proofs.lemmas.Result.{IfOk-weaker}
use Rattle.vr_files.specs.Changes.{AreDifferences, Change, Layers}
use Rattle.vr_files.specs.FileMaps.{FileMap}
use Rattle.vr_pipe.specs.declared.trees.Tree.{Tree}
use Rattle.vr_pipe.specs.Trees.{PipeTree, pipe_tree, programs_of}
use Rattle.vr_policy_check.specs.Rules.{CheckedData}
use Rattle.vr_policy_read.specs.PolicyData.{PolicyData}
use Rattle.vr_base.specs.declared.memory.NoMemory.{NoMemory}
use Rattle.vr_exec.specs.declared.loading.Loaded.{Loaded}
use Rattle.vr_exec.specs.declared.loading.NotLoaded.{NotLoaded}
use Rattle.vr_exec.specs.declared.loading.NotLoaded.TheVariants as loading
use Rattle.vr_exec.specs.declared.outcome.Outcome.{Outcome}
use Rattle.vr_exec.specs.declared.outcome.Outcome.TheVariants.{Ended}
use Rattle.vr_exec.specs.declared.running.Left.{Left}
use Rattle.vr_exec.specs.declared.running.Stop.{Stop}
use Rattle.vr_exec.specs.declared.running.Stop.TheVariants.{Trapped, OutOfFuel, NotLoaded as Missing}
use Rattle.vr_exec.specs.Left.{EndsBy}
use Rattle.vr_exec.specs.Loaded.{AreLoaded, IfBad, IsToldBad}
use Rattle.vr_exec.specs.Outcomes.{ComesTo, IsFirstBad, PipelineComesTo, RunsFrom}
use Rattle.vr_exec.specs.Runs.{End, ended, trapped, exhausted, Runs}
use Rattle.vr_exec.specs.Starts.{HaveFiles}
use Rattle.vr_exec.proofs.LoadLemmas.{have_programs, loaded_over}

module _ (policy : PolicyData) (layers : Layers) (map : FileMap) (pipe : PipeTree) (programs : List Loaded) (input : List ℕ) (fuel : ℕ)
    (base : layers.base ≡ map) (files : layers.files ≡ map) (empty : input ≡ []) (are : AreLoaded policy.pages map (programs_of pipe) programs) where
  abbrev Goes : Result Left Stop → Type 0
  Goes r = EndsBy layers.base r (Runs (record { policy = policy; opening = layers.base }) pipe layers.files input fuel)

  -- the programs are loaded over the files of the layers too
  pub over_layers : AreLoaded policy.pages layers.base (programs_of pipe) programs
  over_layers = loaded_over policy.pages map layers.base (programs_of pipe) programs base are

  runs_here : (e : End) → Runs (record { policy = policy; opening = layers.base }) pipe layers.files input fuel e → RunsFrom policy pipe map fuel e
  runs_here e h = (
    have_programs policy.pages map (programs_of pipe) programs are,
    subst (λ (f : FileMap). Runs (record { policy = policy; opening = map }) pipe f [] fuel e) files
        (subst (λ i. Runs (record { policy = policy; opening = map }) pipe layers.files i fuel e) empty
        (subst (λ (b : FileMap). Runs (record { policy = policy; opening = b }) pipe layers.files input fuel e) base h)),
  )

  pub came_ended : (left : Left) (changes : List Change) → Goes (Ok left) → AreDifferences left.files.base left.files.files changes → ComesTo policy pipe map fuel (Ended left.code left.out changes)
  came_ended left changes h d = (
    left.files.files,
    left.fuel,
    runs_here (ended left.code left.out left.files.files left.fuel) h.1,
    subst (λ (b : FileMap). AreDifferences b left.files.files changes) (h.0 ∙ base) d,
  )

  pub came_trapped : (stop : Stop) (path : List ℕ) (kind : ℕ) → stop ≡ Trapped path kind → Goes (Err stop) → RunsFrom policy pipe map fuel (trapped path kind)
  came_trapped stop path kind is h = runs_here (trapped path kind) (subst (λ s. Goes (Err s)) is h)

  pub came_exhausted : (stop : Stop) (path : List ℕ) → stop ≡ OutOfFuel path → Goes (Err stop) → RunsFrom policy pipe map fuel (exhausted path)
  came_exhausted stop path is h = runs_here (exhausted path) (subst (λ s. Goes (Err s)) is h)

  pub never_missing : (stop : Stop) → stop ≡ Missing → Goes (Err stop) → ⊥
  never_missing stop is h = subst (λ s. Goes (Err s)) is h

-- ---- the pipeline at a place

pub have_files : (files : FileMap) (paths others : List (List ℕ)) → others ≡ paths → HaveFiles files paths → HaveFiles files others
have_files files paths others is h = subst (HaveFiles files) (sym is) h

pub loaded_so : (pages pages' : ℕ) (files : FileMap) (paths : List (List ℕ)) (pipe tree : Tree) (programs programs' : List Loaded) → pages ≡ pages' → paths ≡ programs_of (pipe_tree pipe) → tree ≡ pipe → programs' ≡ programs
    → AreLoaded pages files paths programs → AreLoaded pages' files (programs_of (pipe_tree tree)) programs'
loaded_so pages pages' files paths pipe tree programs programs' n p t l h =
    subst (λ (xs : List Loaded). AreLoaded pages' files (programs_of (pipe_tree tree)) xs) (sym l)
    (subst (λ m. AreLoaded m files (programs_of (pipe_tree tree)) programs) n
    (subst (λ ps. AreLoaded pages files ps programs) (p ∙ ap (λ (x : Tree). programs_of (pipe_tree x)) (sym t)) h))

module _ (checked : CheckedData) (place : ℕ) (pipe : Tree) (at : slice_get checked.pipes place ≡ Some pipe) (files : FileMap) (fuel : ℕ) where
  pub came_at : (r : Result Outcome NoMemory) (policy : PolicyData) (tree : Tree) → policy ≡ checked.policy → tree ≡ pipe → IfOk r (ComesTo policy (pipe_tree tree) files fuel)
      → IfOk r (PipelineComesTo checked place files fuel)
  came_at r policy tree p t h =
      IfOk-weaker r (ComesTo policy (pipe_tree tree) files fuel) (PipelineComesTo checked place files fuel)
      (λ outcome c. (pipe, at, subst (λ (x : PolicyData). ComesTo x (pipe_tree pipe) files fuel outcome) p (subst (λ (x : Tree). ComesTo policy (pipe_tree x) files fuel outcome) t c))) h

  pub refused_at : (r : Result Outcome NoMemory) (refused : NotLoaded) (pages : ℕ) (paths : List (List ℕ)) → pages ≡ checked.policy.pages → paths ≡ programs_of (pipe_tree pipe) → IfBad refused (IsFirstBad pages files paths)
      → IfOk r (IsToldBad refused) → IfOk r (PipelineComesTo checked place files fuel)
  refused_at r refused pages paths n p bad h =
      IfOk-weaker r (IsToldBad refused) (PipelineComesTo checked place files fuel) (λ outcome told. by_refusal refused bad outcome told) h
    where
      by_refusal : (e : NotLoaded) → IfBad e (IsFirstBad pages files paths) → (outcome : Outcome) → IsToldBad e outcome → PipelineComesTo checked place files fuel outcome
      by_refusal (loading.Bad path why) b outcome told =
          subst (λ o. PipelineComesTo checked place files fuel o) (sym told)
          (pipe, at, subst (λ m. IsFirstBad m files (programs_of (pipe_tree pipe)) path why) n (subst (λ ps. IsFirstBad pages files ps path why) p b))
      by_refusal loading.OutOfMemory b outcome told = absurd told
