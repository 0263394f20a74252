-- The trees of a list of pipelines.
use Rattle.std.proofs.Common.{◌≡◌, ℕ, ◌+◌, List, [], ◌∷◌, ◌++◌, Result, Ok, Err, ap, sym, ◌∙◌, refl, append_assoc}
use Rattle.std.specs.List.{AllZip}
use Rattle.vr_base.specs.Checks.{Told, Tells, result_map, result_map_err, ◌>>=◌}
use Rattle.vr_policy_read.specs.declared.entries.Pipeline.{Pipeline}
use Rattle.vr_pipe.specs.declared.trees.Tree.{Tree}
use Rattle.vr_pipe.specs.declared.faults.PipeFault.{PipeFault}
use Rattle.vr_pipe.specs.Grammar.{Spells}
use Rattle.vr_pipe.specs.Parser.{pipe_of}
use Rattle.vr_pipe.specs.Trees.{pipe_tree}
use Rattle.vr_pipe.proofs.Laws.{pipe_of-spells}
use Rattle.vr_policy_check.specs.declared.faults.CheckFault.{CheckFault}
use Rattle.vr_policy_check.specs.declared.faults.CheckKind.TheVariants.{PipeRefused}
use Rattle.vr_policy_check.specs.Faults.{fault_at}
use Rattle.vr_policy_check.specs.Rules.{tree_at, trees_from}
use Rattle.vr_policy_check.proofs.TellLemmas.{tells_map, tells_bind}

-- the trees before, and those that are still to come
abbrev pub after_trees : List Tree → Result (List Tree) CheckFault → Result (List Tree) CheckFault
after_trees before answer = result_map (λ trees. before ++ trees) answer

pub after_none : (answer : Result (List Tree) CheckFault) → after_trees [] answer ≡ answer
after_none (Ok trees) = refl
after_none (Err fault) = refl

push_tree : (before : List Tree) (tree : Tree) (answer : Result (List Tree) CheckFault)
    → after_trees before (answer >>= λ trees. Ok (tree ∷ trees)) ≡ after_trees (before ++ tree ∷ []) answer
push_tree before tree (Ok trees) = ap Ok (sym (append_assoc before (tree ∷ []) trees))
push_tree before tree (Err fault) = refl

-- one more pipeline that is spelled
pub trees_past : (before : List Tree) (at : ℕ) (pipeline : Pipeline) (pipelines : List Pipeline) (tree : Tree) → tree_at at pipeline.text ≡ Ok tree
    → after_trees before (trees_from at (pipeline ∷ pipelines)) ≡ after_trees (before ++ tree ∷ []) (trees_from (at + 1) pipelines)
trees_past before at pipeline pipelines tree is =
    ap (λ r. after_trees before (r >>= λ t. trees_from (at + 1) pipelines >>= λ trees. Ok (t ∷ trees))) is ∙ push_tree before tree (trees_from (at + 1) pipelines)

-- what is told of one pipeline's text is told of all
pub tells_trees : (t : Told CheckFault) (before : List Tree) (at : ℕ) (pipeline : Pipeline) (pipelines : List Pipeline)
    → Tells t (tree_at at pipeline.text) → Tells t (after_trees before (trees_from at (pipeline ∷ pipelines)))
tells_trees t before at pipeline pipelines h =
    tells_map t (trees_from at (pipeline ∷ pipelines)) (λ trees. before ++ trees)
    (tells_bind t (tree_at at pipeline.text) (λ tree. trees_from (at + 1) pipelines >>= λ trees. Ok (tree ∷ trees)) h)

-- ---- what the trees are

abbrev Spelled : Pipeline → Tree → Type 0
Spelled pipeline tree = Spells pipeline.text (pipe_tree tree)

tree_of_text : (at : ℕ) (text : List ℕ) (tree : Tree) (r : Result Tree PipeFault) → pipe_of text ≡ r
    → result_map_err (λ fault. fault_at (PipeRefused fault) at) r ≡ Ok tree → pipe_of text ≡ Ok tree
tree_of_text at text tree (Ok x) is same = let it : x ≡ tree = cc in is ∙ ap Ok it
tree_of_text at text tree (Err f) is same = cc

trees_cons : (at : ℕ) (pipeline : Pipeline) (pipelines : List Pipeline) (trees : List Tree)
    → ((ts : List Tree) → trees_from (at + 1) pipelines ≡ Ok ts → AllZip Spelled pipelines ts)
    → (r : Result Tree CheckFault) → tree_at at pipeline.text ≡ r → (s : Result (List Tree) CheckFault) → trees_from (at + 1) pipelines ≡ s
    → (r >>= λ tree. s >>= λ ts. Ok (tree ∷ ts)) ≡ Ok trees → AllZip Spelled (pipeline ∷ pipelines) trees
trees_cons at pipeline pipelines [] go (Ok tree) r_is (Ok ts) s_is h = cc
trees_cons at pipeline pipelines (t ∷ trees) go (Ok tree) r_is (Ok ts) s_is h =
    let first : tree ≡ t = cc in
    let others : ts ≡ trees = cc in
    (pipe_of-spells pipeline.text t (tree_of_text at pipeline.text t (pipe_of pipeline.text) refl (r_is ∙ ap Ok first)), go trees (s_is ∙ ap Ok others))
trees_cons at pipeline pipelines trees go (Ok tree) r_is (Err f) s_is h = cc
trees_cons at pipeline pipelines trees go (Err f) r_is s s_is h = cc

pub trees_spelled : (at : ℕ) (pipelines : List Pipeline) (trees : List Tree) → trees_from at pipelines ≡ Ok trees → AllZip Spelled pipelines trees
trees_spelled at [] [] h = tt
trees_spelled at [] (t ∷ trees) h = cc
trees_spelled at (pipeline ∷ pipelines) trees h =
    trees_cons at pipeline pipelines trees (trees_spelled (at + 1) pipelines) (tree_at at pipeline.text) refl (trees_from (at + 1) pipelines) refl h
