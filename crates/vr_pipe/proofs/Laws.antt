-- The laws of pipelines' texts, for those who call the crate.
use Rattle.std.proofs.Common.{◌≡◌, ℕ, List, Result, Ok, Err, ap, sym, ◌∙◌, subst, refl, inl, inr}
use Rattle.std.specs.Prelude.{◌⊎◌}
use Rattle.vr_pipe.specs.declared.faults.PipeFault.{PipeFault}
use Rattle.vr_pipe.specs.declared.trees.Tree.{Tree}
use Rattle.vr_pipe.specs.Trees.{PipeTree, pipe_tree, programs_of, tests_of}
use Rattle.vr_pipe.specs.Pieces.{pieces, programs_in, tests_in}
use Rattle.vr_pipe.specs.Grammar.{Spells}
use Rattle.vr_pipe.specs.Faults.{HasFault}
use Rattle.vr_pipe.specs.Found.{Found}
use Rattle.vr_base.specs.Checks.{result_map}
use Rattle.vr_pipe.specs.Parser.{parse, pipe_of}
use Rattle.vr_pipe.specs.Pipes.{text_of, IsPipeline}
use Rattle.vr_pipe.proofs.ParserCompleteness.{tree_of, tree_of-pipe_tree}
use Rattle.vr_pipe.proofs.AnswerLemmas.{programs_are, tests_are, read_spells, read_fault, spelled_gives, fault_gives}

from_parse : (text : List ℕ) (r : Result (Tree × Found) PipeFault) → parse text ≡ r → ((e : PipeTree) × Spells text e) ⊎ ((f : PipeFault) × HasFault text f)
from_parse text (Ok x) e = inl (pipe_tree x.0, read_spells text x.0 x.1 e)
from_parse text (Err f) e = inr (f, read_fault text f e)

-- a text spells a pipeline or has a first fault
pub each_text : (text : List ℕ) → ((e : PipeTree) × Spells text e) ⊎ ((f : PipeFault) × HasFault text f)
each_text text = from_parse text (parse text) refl

-- and not both
pub not_both : (text : List ℕ) (e : PipeTree) (f : PipeFault) → Spells text e → HasFault text f → ⊥
not_both text e f h k = let a = spelled_gives text e h in let b = fault_gives text f k in cc

-- a text spells one pipeline at most
pub one_pipeline : (text : List ℕ) (d e : PipeTree) → Spells text d → Spells text e → d ≡ e
one_pipeline text d e h k = let a = spelled_gives text d h in let b = spelled_gives text e k in cc

-- a text has one first fault at most
pub one_fault : (text : List ℕ) (f g : PipeFault) → HasFault text f → HasFault text g → f ≡ g
one_fault text f g h k = let a = fault_gives text f h in let b = fault_gives text g k in cc

-- the program places stand in the order of the text's words
pub programs_in_order : (text : List ℕ) (e : PipeTree) → Spells text e → programs_of e ≡ programs_in (pieces text)
programs_in_order text e h = sym (programs_are e (pieces text) h.grammar)

-- and so do the paths of the ifs
pub tests_in_order : (text : List ℕ) (e : PipeTree) → Spells text e → tests_of e ≡ tests_in (pieces text)
tests_in_order text e h = sym (tests_are e (pieces text) h.grammar)

-- two trees of the program are two pipelines
pub one_tree : (s t : Tree) → pipe_tree s ≡ pipe_tree t → s ≡ t
one_tree s t same = sym (tree_of-pipe_tree s) ∙ ap tree_of same ∙ tree_of-pipe_tree t

-- two pipelines that texts spell are printed as two texts
pub one_print : (d e : PipeTree) → IsPipeline d → IsPipeline e → text_of d ≡ text_of e → d ≡ e
one_print d e h k same =
    let P : List ℕ → Type 0 = λ text. Spells text d in
    one_pipeline (text_of e) d e (subst P same h) k

tree_of_parse : (text : List ℕ) (tree : Tree) (r : Result (Tree × Found) PipeFault) → parse text ≡ r
    → result_map (λ parsed. parsed.0) r ≡ Ok tree → Spells text (pipe_tree tree)
tree_of_parse text tree (Ok x) is same =
    let P : Tree → Type 0 = λ t. Spells text (pipe_tree t) in
    let tree_is : x.0 ≡ tree = cc in
    subst P tree_is (read_spells text x.0 x.1 is)
tree_of_parse text tree (Err f) is same = cc

fault_of_parse : (text : List ℕ) (fault : PipeFault) (r : Result (Tree × Found) PipeFault) → parse text ≡ r
    → result_map (λ parsed. parsed.0) r ≡ Err fault → HasFault text fault
fault_of_parse text fault (Ok x) is same = cc
fault_of_parse text fault (Err f) is same =
    let fault_is : f ≡ fault = cc in
    subst (HasFault text) fault_is (read_fault text f is)

-- the tree that the definition of the answer gives is the text's pipeline
pub pipe_of-spells : (text : List ℕ) (tree : Tree) → pipe_of text ≡ Ok tree → Spells text (pipe_tree tree)
unfolding pipe_of
pipe_of-spells text tree same = tree_of_parse text tree (parse text) refl same

-- the fault that it gives is the text's first
pub pipe_of-fault : (text : List ℕ) (fault : PipeFault) → pipe_of text ≡ Err fault → HasFault text fault
unfolding pipe_of
pipe_of-fault text fault same = fault_of_parse text fault (parse text) refl same
