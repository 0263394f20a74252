-- Each piece that the reader takes is counted, or is no path or one too many.
use Rattle.std.proofs.Common.{◌≡◌, ℕ, ◌+◌, ◌<◌, ◌≤◌, Bool, true, false, nat_lt, cond, List, [], ◌∷◌, ◌++◌, length, Option, None, Result, Ok, Err, All, MatchResult, ap, sym, ◌∙◌, refl, arith, append_assoc, length-append}
use Rattle.std.specs.Prelude.{IfSome}
use Rattle.std.proofs.lemmas.Bool.{ltb-true, ltb-false}
use Rattle.std.proofs.lemmas.List.{append-nil}
use Rattle.std.proofs.lemmas.List.Elements.{All-push}
use Rattle.vr_base.specs.Names.{normal_form, path_of}
use Rattle.vr_base.specs.declared.names.PathFault.{PathFault}
use Rattle.vr_pipe.specs.declared.faults.PipeFault.{PipeFault}
use Rattle.vr_pipe.specs.declared.faults.PipeFault.TheVariants.{Word, Expected, TooDeep, TooMany, OutOfMemory}
use Rattle.vr_pipe.specs.declared.trees.Tree.{Tree}
use Rattle.vr_pipe.specs.declared.trees.Tree.TheVariants.{If, Feed, Then}
use Rattle.vr_pipe.specs.declared.parsing.Frame.{Frame}
use Rattle.vr_pipe.specs.declared.parsing.Frame.TheVariants.{Fed, Before, Taken, Other}
use Rattle.vr_pipe.specs.declared.parsing.Focus.{Focus}
use Rattle.vr_pipe.specs.declared.parsing.Focus.TheVariants.{Place, Ended, Test, Opening, Placed, Branch, Otherwise}
use Rattle.vr_pipe.specs.Pieces.{Piece, name, if_word, else_word, bar, semicolon, opening, closing, IsPathWord, programs_in, tests_in, ifs_in}
use Rattle.vr_pipe.specs.Faults.{capped, IsWithin}
use Rattle.vr_base.specs.Checks.{◌>>=◌, result_map_err}
use Rattle.vr_pipe.specs.Found.{Found, word_fault, with_program, with_test, found_with}
use Rattle.vr_pipe.specs.Parser.{close, inside_focus, place, after_place, next, is_test}
use Rattle.vr_pipe.proofs.WordLemmas.{path_is_normal_form}

-- a piece after an if or not, and whether it is an if
pub data Passes : Bool → Piece → Bool → Type 0 where
  a_tested : (word : List ℕ) → Passes true (name word) false
  a_program : (word : List ℕ) → Passes false (name word) false
  a_test : Passes false if_word true
  an_otherwise : Passes false else_word false
  a_feed : Passes false bar false
  an_end : Passes false semicolon false
  a_brace : Passes false opening false
  a_close : Passes false closing false

abbrev AfterNext : Bool → Piece → Option (Focus × List Frame) → Type 0
AfterNext tested p state = IfSome state (λ s. Passes tested p (is_test s.0))

braced_passes : (e : Tree) (fs : List Frame) → AfterNext false closing (inside_focus (close e fs))
braced_passes e [] = tt
braced_passes e (Fed p ∷ fs) = braced_passes (Feed p e) fs
braced_passes e (Before s ∷ fs) = braced_passes (Then s e) fs
braced_passes e (Taken path ∷ fs) = a_close
braced_passes e (Other path f ∷ fs) = a_close

place_passes : (fs : List Frame) (p : Piece) → AfterNext false p (place fs p)
place_passes fs (name word) = a_program word
place_passes fs if_word = a_test
place_passes fs else_word = tt
place_passes fs bar = tt
place_passes fs semicolon = tt
place_passes fs opening = tt
place_passes fs closing = tt

after_place_passes : (t : Tree) (fs : List Frame) (p : Piece) → AfterNext false p (after_place t fs p)
after_place_passes t fs (name word) = tt
after_place_passes t fs if_word = tt
after_place_passes t fs else_word = tt
after_place_passes t fs bar = a_feed
after_place_passes t fs semicolon = an_end
after_place_passes t fs opening = tt
after_place_passes t fs closing = braced_passes t fs

pub next_passes : (focus : Focus) (fs : List Frame) (p : Piece) → AfterNext (is_test focus) p (next focus fs p)
next_passes Place fs p = place_passes fs p
next_passes (Ended s) fs closing = braced_passes s fs
next_passes (Ended s) fs (name word) = a_program word
next_passes (Ended s) fs if_word = a_test
next_passes (Ended s) fs else_word = tt
next_passes (Ended s) fs bar = tt
next_passes (Ended s) fs semicolon = tt
next_passes (Ended s) fs opening = tt
next_passes Test fs (name word) = a_tested word
next_passes Test fs if_word = tt
next_passes Test fs else_word = tt
next_passes Test fs bar = tt
next_passes Test fs semicolon = tt
next_passes Test fs opening = tt
next_passes Test fs closing = tt
next_passes (Opening path) fs (name word) = tt
next_passes (Opening path) fs if_word = tt
next_passes (Opening path) fs else_word = tt
next_passes (Opening path) fs bar = tt
next_passes (Opening path) fs semicolon = tt
next_passes (Opening path) fs opening = a_brace
next_passes (Opening path) fs closing = tt
next_passes (Placed t) fs p = after_place_passes t fs p
next_passes (Branch path e) fs else_word = an_otherwise
next_passes (Branch path e) fs (name word) = tt
next_passes (Branch path e) fs if_word = tt
next_passes (Branch path e) fs bar = a_feed
next_passes (Branch path e) fs semicolon = an_end
next_passes (Branch path e) fs opening = tt
next_passes (Branch path e) fs closing = braced_passes (If path e None) fs
next_passes (Otherwise path e) fs (name word) = tt
next_passes (Otherwise path e) fs if_word = tt
next_passes (Otherwise path e) fs else_word = tt
next_passes (Otherwise path e) fs bar = tt
next_passes (Otherwise path e) fs semicolon = tt
next_passes (Otherwise path e) fs opening = a_brace
next_passes (Otherwise path e) fs closing = tt

-- what comes, with the if before it whose path it must be
abbrev pub pending : Bool → List Piece → List Piece
pending true ps = if_word ∷ ps
pending false ps = ps

-- what was found in the pieces so far
pub record Counted (done : List Piece) (tested : Bool) (found : Found) : Type 0 where
  pub words : All IsPathWord done
  pub programs : (more : List Piece) → programs_in (done ++ more) ≡ found.programs ++ programs_in (pending tested more)
  pub tests : (more : List Piece) → tests_in (done ++ more) ≡ found.tests ++ tests_in (pending tested more)
  pub ifs : (more : List Piece) → ifs_in (done ++ more) ≡ length found.tests + ifs_in (pending tested more)
  pub few_programs : length found.programs ≤ 64
  pub few_ifs : length found.tests + ifs_in (pending tested []) ≤ 64

no_programs : (tested : Bool) → programs_in (pending tested []) ≡ []
no_programs true = refl
no_programs false = refl

no_tests : (tested : Bool) → tests_in (pending tested []) ≡ []
no_tests true = refl
no_tests false = refl

pub programs_counted : {done : List Piece} {tested : Bool} {found : Found} → Counted done tested found → programs_in done ≡ found.programs
programs_counted {done} {tested} {found} h = ap programs_in (sym (append-nil done)) ∙ h.programs [] ∙ ap (λ x. found.programs ++ x) (no_programs tested) ∙ append-nil found.programs

pub tests_counted : {done : List Piece} {tested : Bool} {found : Found} → Counted done tested found → tests_in done ≡ found.tests
tests_counted {done} {tested} {found} h = ap tests_in (sym (append-nil done)) ∙ h.tests [] ∙ ap (λ x. found.tests ++ x) (no_tests tested) ∙ append-nil found.tests

pub ifs_counted : {done : List Piece} {tested : Bool} {found : Found} → Counted done tested found → ifs_in done ≡ length found.tests + ifs_in (pending tested [])
ifs_counted {done} {tested} {found} h = ap ifs_in (sym (append-nil done)) ∙ h.ifs []

pub counted_within : {done : List Piece} {tested : Bool} {found : Found} → Counted done tested found → IsWithin done
counted_within {done} {tested} {found} h = record { programs = omega (arith, ap length (programs_counted h), h.few_programs); ifs = omega (arith, ifs_counted h, h.few_ifs) }

-- what is wrong with a piece that the grammar takes
abbrev pub Complains : PipeFault → List Piece → ℕ → Piece → Type 0
Complains (Word n) done at p = (n ≡ capped at) × (IsPathWord p → ⊥)
Complains (TooMany n) done at p = (n ≡ capped at) × IsPathWord p × (IsWithin (done ++ p ∷ []) → ⊥)
Complains (Expected n) done at p = ⊥
Complains (TooDeep n) done at p = ⊥
Complains OutOfMemory done at p = ⊥

-- what is found after a piece, or what is wrong with it
abbrev pub Counting : ℕ → List Piece → Piece → Bool → Result Found PipeFault → Type 0
Counting at done p after r = MatchResult r (λ found. Counted (done ++ p ∷ []) after found) (λ f. Complains f done at p)

one_more : (done : List Piece) (p : Piece) (more : List Piece) → (done ++ p ∷ []) ++ more ≡ done ++ p ∷ more
one_more done p more = append_assoc done (p ∷ []) more

-- a piece that is no word and no if
sign_counted : (at : ℕ) (done : List Piece) (found : Found) (p : Piece) → Counted done false found → IsPathWord p
    → ((more : List Piece) → programs_in (p ∷ more) ≡ programs_in more) → ((more : List Piece) → tests_in (p ∷ more) ≡ tests_in more)
    → ((more : List Piece) → ifs_in (p ∷ more) ≡ ifs_in more) → Counted (done ++ p ∷ []) false found
sign_counted at done found p h word a b c = record {
  words = All-push IsPathWord done p h.words word;
  programs = λ more. ap programs_in (one_more done p more) ∙ h.programs (p ∷ more) ∙ ap (λ x. found.programs ++ x) (a more);
  tests = λ more. ap tests_in (one_more done p more) ∙ h.tests (p ∷ more) ∙ ap (λ x. found.tests ++ x) (b more);
  ifs = λ more. ap ifs_in (one_more done p more) ∙ h.ifs (p ∷ more) ∙ ap (λ x. length found.tests + x) (c more);
  few_programs = h.few_programs;
  few_ifs = h.few_ifs;
}

tested_counted : (at : ℕ) (done : List Piece) (found : Found) (word : List ℕ) → Counted done true found → (r : Result (List ℕ) PathFault) → path_of word ≡ r
    → Counting at done (name word) false (result_map_err (word_fault at) r >>= λ path. Ok (with_test found path))
tested_counted at done found word h (Err e) is = (refl, λ k. cc)
tested_counted at done found word h (Ok path) is =
    let same = path_is_normal_form word path is in
    record {
      words = All-push IsPathWord done (name word) h.words (is ∙ ap Ok same);
      programs = λ more. ap programs_in (one_more done (name word) more) ∙ h.programs (name word ∷ more);
      tests = λ more. ap tests_in (one_more done (name word) more) ∙ h.tests (name word ∷ more)
          ∙ ap (λ x. found.tests ++ x ∷ tests_in more) (sym same) ∙ sym (append_assoc found.tests (path ∷ []) (tests_in more));
      ifs = λ more. omega (arith, ap ifs_in (one_more done (name word) more), h.ifs (name word ∷ more), length-append found.tests (path ∷ []));
      few_programs = h.few_programs;
      few_ifs = omega (arith, h.few_ifs, length-append found.tests (path ∷ []));
    }

program_counted : (at : ℕ) (done : List Piece) (found : Found) (word path : List ℕ) → Counted done false found → path_of word ≡ Ok path
    → (b : Bool) → nat_lt (length found.programs) 64 ≡ b
    → Counting at done (name word) false (cond b (Ok (record { programs = found.programs ++ path ∷ []; tests = found.tests })) (Err (TooMany (capped at))))
program_counted at done found word path h is true few =
    let same = path_is_normal_form word path is in
    let less : length found.programs < 64 = ltb-true _ _ few in
    record {
      words = All-push IsPathWord done (name word) h.words (is ∙ ap Ok same);
      programs = λ more. ap programs_in (one_more done (name word) more) ∙ h.programs (name word ∷ more)
          ∙ ap (λ x. found.programs ++ x ∷ programs_in more) (sym same) ∙ sym (append_assoc found.programs (path ∷ []) (programs_in more));
      tests = λ more. ap tests_in (one_more done (name word) more) ∙ h.tests (name word ∷ more);
      ifs = λ more. ap ifs_in (one_more done (name word) more) ∙ h.ifs (name word ∷ more);
      few_programs = omega (arith, less, length-append found.programs (path ∷ []));
      few_ifs = h.few_ifs;
    }
program_counted at done found word path h is false many =
    let same = path_is_normal_form word path is in
    let full : 64 ≤ length found.programs = ltb-false _ _ many in
    (refl, (is ∙ ap Ok same), λ w. absurd (omega (arith, full, w.programs, ap length (h.programs (name word ∷ [])), length-append found.programs (normal_form word ∷ []))))

word_counted : (at : ℕ) (done : List Piece) (found : Found) (word : List ℕ) → Counted done false found → (r : Result (List ℕ) PathFault) → path_of word ≡ r
    → Counting at done (name word) false (result_map_err (word_fault at) r >>= λ path. with_program at found path)
word_counted at done found word h (Err e) is = (refl, λ k. cc)
word_counted at done found word h (Ok path) is = program_counted at done found word path h is (nat_lt (length found.programs) 64) refl

if_counted : (at : ℕ) (done : List Piece) (found : Found) → Counted done false found → (b : Bool) → nat_lt (length found.tests) 64 ≡ b
    → Counting at done if_word true (cond b (Ok found) (Err (TooMany (capped at))))
if_counted at done found h true few =
    let less : length found.tests < 64 = ltb-true _ _ few in
    record {
      words = All-push IsPathWord done if_word h.words tt;
      programs = λ more. ap programs_in (one_more done if_word more) ∙ h.programs (if_word ∷ more);
      tests = λ more. ap tests_in (one_more done if_word more) ∙ h.tests (if_word ∷ more);
      ifs = λ more. ap ifs_in (one_more done if_word more) ∙ h.ifs (if_word ∷ more);
      few_programs = h.few_programs;
      few_ifs = omega (arith, less);
    }
if_counted at done found h false many =
    let full : 64 ≤ length found.tests = ltb-false _ _ many in
    (refl, tt, λ w. absurd (omega (arith, full, w.ifs, h.ifs (if_word ∷ []))))

-- each piece
pub counted_with : (at : ℕ) {tested after : Bool} {p : Piece} (done : List Piece) (found : Found) → Passes tested p after → Counted done tested found
    → Counting at done p after (found_with at tested found p)
counted_with at done found (a_tested word) h = tested_counted at done found word h (path_of word) refl
counted_with at done found (a_program word) h = word_counted at done found word h (path_of word) refl
counted_with at done found a_test h = if_counted at done found h (nat_lt (length found.tests) 64) refl
counted_with at done found an_otherwise h = sign_counted at done found else_word h tt (λ more. refl) (λ more. refl) (λ more. refl)
counted_with at done found a_feed h = sign_counted at done found bar h tt (λ more. refl) (λ more. refl) (λ more. refl)
counted_with at done found an_end h = sign_counted at done found semicolon h tt (λ more. refl) (λ more. refl) (λ more. refl)
counted_with at done found a_brace h = sign_counted at done found opening h tt (λ more. refl) (λ more. refl) (λ more. refl)
counted_with at done found a_close h = sign_counted at done found closing h tt (λ more. refl) (λ more. refl) (λ more. refl)
