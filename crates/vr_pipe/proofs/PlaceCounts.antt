-- The program places and ifs of a pipeline are those of the pieces that spell it.
use Rattle.std.proofs.Common.{◌≡◌, ℕ, ◌+◌, ◌≤◌, List, ◌∷◌, ◌++◌, length, ap, sym, ◌∙◌, refl, arith, append_assoc, length-append}
use Rattle.vr_base.specs.Names.{normal_form}
use Rattle.vr_pipe.specs.Trees.{PipeTree, program, if_then, if_else, feed, sequence, programs_of, tests_of, depth_of}
use Rattle.vr_pipe.specs.Pieces.{Piece, programs_in, tests_in, ifs_in}
use Rattle.vr_pipe.specs.Grammar.{IsPlace, IsFeed, IsSequence, a_path, an_if, an_else, a_place, a_bar, a_feed, a_trailing, a_semicolon}

-- what a pipeline counts, and then the rest
pub record Counts (e : PipeTree) (from to : List Piece) : Type 0 where
  pub programs : programs_in from ≡ programs_of e ++ programs_in to
  pub tests : tests_in from ≡ tests_of e ++ tests_in to
  pub ifs : ifs_in from ≡ length (tests_of e) + ifs_in to

append_lists : (a b c whole middle : List (List ℕ)) → whole ≡ a ++ middle → middle ≡ b ++ c → whole ≡ (a ++ b) ++ c
append_lists a b c whole middle h k = h ∙ ap (λ x. a ++ x) k ∙ sym (append_assoc a b c)

append_counts : (a b : List (List ℕ)) (c whole middle : ℕ) → whole ≡ length a + middle → middle ≡ length b + c → whole ≡ length (a ++ b) + c
append_counts a b c whole middle h k = omega (arith, length-append a b)

mutual
  pub place_counts : {e : PipeTree} {from to : List Piece} → IsPlace e from to → Counts e from to
  place_counts (a_path word) = record { programs = refl; tests = refl; ifs = omega arith }
  place_counts (an_if word h) = let c = sequence_counts h in
      record { programs = c.programs; tests = ap (λ x. normal_form word ∷ x) c.tests; ifs = omega (arith, c.ifs) }
  place_counts {to = to} (an_else {e} {f} {inner} {other} word h k) = let c = sequence_counts h in let d = sequence_counts k in
      record {
        programs = append_lists (programs_of e) (programs_of f) (programs_in to) _ _ c.programs d.programs;
        tests = ap (λ x. normal_form word ∷ x) (append_lists (tests_of e) (tests_of f) _ _ _ c.tests d.tests);
        ifs = omega (arith, c.ifs, d.ifs, length-append (tests_of e) (tests_of f));
      }

  pub feed_counts : {e : PipeTree} {from to : List Piece} → IsFeed e from to → Counts e from to
  feed_counts (a_place h) = place_counts h
  feed_counts {to = to} (a_bar {p} {s} h k) = let c = place_counts h in let d = feed_counts k in
      record {
        programs = append_lists (programs_of p) (programs_of s) _ _ _ c.programs d.programs;
        tests = append_lists (tests_of p) (tests_of s) _ _ _ c.tests d.tests;
        ifs = append_counts (tests_of p) (tests_of s) _ _ _ c.ifs d.ifs;
      }

  pub sequence_counts : {e : PipeTree} {from to : List Piece} → IsSequence e from to → Counts e from to
  sequence_counts (a_feed h) = feed_counts h
  sequence_counts (a_trailing h) = let c = feed_counts h in record { programs = c.programs; tests = c.tests; ifs = c.ifs }
  sequence_counts (a_semicolon {s} {e} h k) = let c = feed_counts h in let d = sequence_counts k in
      record {
        programs = append_lists (programs_of s) (programs_of e) _ _ _ c.programs d.programs;
        tests = append_lists (tests_of s) (tests_of e) _ _ _ c.tests d.tests;
        ifs = append_counts (tests_of s) (tests_of e) _ _ _ c.ifs d.ifs;
      }

-- each level of braces has an if of its own
pub depth_below_tests : (e : PipeTree) → depth_of e ≤ length (tests_of e)
depth_below_tests (program path) = omega arith
depth_below_tests (if_then path e) = omega (arith, depth_below_tests e)
depth_below_tests (if_else path e f) = omega (arith, depth_below_tests e, depth_below_tests f, length-append (tests_of e) (tests_of f))
depth_below_tests (feed p s) = omega (arith, depth_below_tests p, depth_below_tests s, length-append (tests_of p) (tests_of s))
depth_below_tests (sequence s e) = omega (arith, depth_below_tests s, depth_below_tests e, length-append (tests_of s) (tests_of e))
