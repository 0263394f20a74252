-- What the reader's answer to a whole text says of the text.
use Rattle.std.proofs.Common.{◌≡◌, ℕ, List, [], length, Result, Ok, Err, ap, sym, ◌∙◌, subst, arith}
use Rattle.std.proofs.lemmas.List.{append-nil}
use Rattle.vr_base.specs.Checks.{Told, nothing, exactly, never, Tells, result_map}
use Rattle.vr_pipe.specs.declared.faults.PipeFault.{PipeFault}
use Rattle.vr_pipe.specs.declared.trees.Tree.{Tree}
use Rattle.vr_pipe.specs.Trees.{PipeTree, pipe_tree, programs_of, tests_of}
use Rattle.vr_pipe.specs.Pieces.{Piece, pieces, pieces_at, programs_in, tests_in, ifs_in}
use Rattle.vr_pipe.specs.Grammar.{IsSequence, Spells}
use Rattle.vr_pipe.specs.Faults.{HasFault, IsWithin, IsFirstFault}
use Rattle.vr_pipe.specs.Found.{Found}
use Rattle.vr_pipe.specs.Parser.{parse}
use Rattle.vr_pipe.specs.Pipes.{KeepsPipe}
use Rattle.vr_pipe.proofs.ParserCompleteness.{pipe_tree-tree_of}
use Rattle.vr_pipe.proofs.PlaceCounts.{sequence_counts, depth_below_tests}
use Rattle.vr_pipe.proofs.ParserAnswers.{Means, Given, all_means}
use Rattle.vr_pipe.proofs.FaultLemmas.{fault_read, spelled_read}
use Rattle.vr_pipe.proofs.PrintLemmas.{spelled_again}

-- the pipeline of a tree that was read
abbrev pub as_pipe_tree : Result (Tree × Found) PipeFault → Result PipeTree PipeFault
as_pipe_tree answer = result_map (λ x. pipe_tree x.0) answer

-- the pipeline that a text spells, or its first fault
abbrev pub pipe_tree_of : List ℕ → Result PipeTree PipeFault
pipe_tree_of text = as_pipe_tree (parse text)

means : (text : List ℕ) (r : Result (Tree × Found) PipeFault) → parse text ≡ r → Means (length text) (pieces_at text) r
means text r e = let P : Result (Tree × Found) PipeFault → Type 0 = λ x. Means (length text) (pieces_at text) x in subst P e (all_means (length text) (pieces_at text))

pub programs_are : (e : PipeTree) (ps : List Piece) → IsSequence e ps [] → programs_in ps ≡ programs_of e
programs_are e ps h = (sequence_counts h).programs ∙ append-nil (programs_of e)

pub tests_are : (e : PipeTree) (ps : List Piece) → IsSequence e ps [] → tests_in ps ≡ tests_of e
tests_are e ps h = (sequence_counts h).tests ∙ append-nil (tests_of e)

ifs_are : (e : PipeTree) (ps : List Piece) → IsSequence e ps [] → ifs_in ps ≡ length (tests_of e)
ifs_are e ps h = omega (arith, (sequence_counts h).ifs)

given_spells : (text : List ℕ) (tree : Tree) (found : Found) → Given (pieces text) tree found → Spells text (pipe_tree tree)
given_spells text tree found g =
    let ifs = ifs_are (pipe_tree tree) (pieces text) g.grammar in
    record {
      grammar = g.grammar;
      words = g.words;
      nesting = omega (arith, depth_below_tests (pipe_tree tree), ifs, g.within.ifs);
      programs = omega (arith, ap length (programs_are (pipe_tree tree) (pieces text) g.grammar), g.within.programs);
      tests = omega (arith, ifs, g.within.ifs);
    }

-- the tree that was read is what the text spells
pub read_spells : (text : List ℕ) (tree : Tree) (found : Found) → parse text ≡ Ok (tree, found) → Spells text (pipe_tree tree)
read_spells text tree found e = given_spells text tree found (means text (Ok (tree, found)) e)

-- and a pipeline with these paths
pub read_keeps : (text : List ℕ) (tree : Tree) (found : Found) → parse text ≡ Ok (tree, found) → KeepsPipe tree found.programs found.tests
read_keeps text tree found e =
    let g = means text (Ok (tree, found)) e in
    record {
      spelled = spelled_again text (pipe_tree tree) (read_spells text tree found e);
      programs_are = g.programs ∙ programs_are (pipe_tree tree) (pieces text) g.grammar;
      tests_are = g.tests ∙ tests_are (pipe_tree tree) (pieces text) g.grammar;
    }

-- the fault that was read is the text's first
pub read_fault : (text : List ℕ) (f : PipeFault) → parse text ≡ Err f → HasFault text f
read_fault text f e = means text (Err f) e

within_limits : (text : List ℕ) (e : PipeTree) → Spells text e → IsWithin (pieces text)
within_limits text e h = record {
  programs = omega (arith, ap length (programs_are e (pieces text) h.grammar), h.programs);
  ifs = omega (arith, ifs_are e (pieces text) h.grammar, h.tests);
}

-- what a text spells is what it gives
pub spelled_gives : (text : List ℕ) (e : PipeTree) → Spells text e → pipe_tree_of text ≡ Ok e
spelled_gives text e h =
    let r = spelled_read (length text) (pieces_at text) e h.grammar h.words (within_limits text e h) in
    ap as_pipe_tree r.1 ∙ ap Ok (pipe_tree-tree_of e)

-- a text's first fault is what it gives
pub fault_gives : (text : List ℕ) (f : PipeFault) → HasFault text f → pipe_tree_of text ≡ Err f
fault_gives text f h = ap as_pipe_tree (fault_read (length text) (pieces_at text) f h)

-- what a fault tells of the reader's answer it tells of the pipeline
pub tells_pipe : (text : List ℕ) (answer : Result PipeTree PipeFault) (t : Told PipeFault) → pipe_tree_of text ≡ answer → Tells t (parse text) → Tells t answer
tells_pipe text answer nothing is h = tt
tells_pipe text answer (exactly f) is h = sym is ∙ ap as_pipe_tree h
tells_pipe text answer never is h = h

-- a fault that tells the reader's answer is the text's first
pub tells_first : (text : List ℕ) (t : Told PipeFault) → Tells t (parse text) → IsFirstFault text t
tells_first text nothing h = tt
tells_first text (exactly f) h = read_fault text f h
tells_first text never h = h
