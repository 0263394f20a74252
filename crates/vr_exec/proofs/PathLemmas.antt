-- The paths in a pipeline that a text spells name no directory.
use Rattle.std.proofs.Common.{◌≡◌, ℕ, false, List, [], ◌∷◌, ◌++◌, All, Ok, refl}
use Rattle.std.proofs.lemmas.List.Elements.{All-nil, All-cons, All-head, All-tail, All-append}
use Rattle.vr_base.specs.Names.{names_directory, name_fault, normal_form, segments, path_of}
use Rattle.vr_base.proofs.FaultLemmas.{answered}
use Rattle.vr_base.proofs.Normal.{without_fault}
use Rattle.vr_pipe.specs.Grammar.{IsPlace, IsFeed, IsSequence, a_path, an_if, an_else, a_place, a_bar, a_feed, a_trailing, a_semicolon, Spells}
use Rattle.vr_pipe.specs.Pieces.{Piece, name, if_word, else_word, bar, semicolon, opening, closing, IsPathWord}
use Rattle.vr_pipe.specs.Trees.{PipeTree, feed, sequence, programs_of, tests_of}
use Rattle.vr_rights.proofs.PathLemmas.{path_no_directory}

abbrev pub NoDirectory : List ℕ → Type 0
NoDirectory path = names_directory path ≡ false

-- neither a program's path nor that of a test does
pub record AreFiles (e : PipeTree) : Type 0 where
  pub programs : All NoDirectory (programs_of e)
  pub tests : All NoDirectory (tests_of e)

-- those of the parts do not, and the pieces after them are fine
record Goes (e : PipeTree) (to : List Piece) : Type 0 where
  files : AreFiles e
  rest : All IsPathWord to

word_file : (word : List ℕ) → path_of word ≡ Ok (normal_form word) → NoDirectory (normal_form word)
word_file word h =
    path_no_directory (normal_form word) (without_fault segments word (answered (name_fault word (segments (normal_form word))) (normal_form word) (normal_form word) h).0)

both_files : (a b c : PipeTree) → programs_of c ≡ programs_of a ++ programs_of b → tests_of c ≡ tests_of a ++ tests_of b → AreFiles a → AreFiles b → AreFiles c
both_files a b c p t h k = record {
  programs = rw p (All-append NoDirectory (programs_of a) (programs_of b) h.programs k.programs);
  tests = rw t (All-append NoDirectory (tests_of a) (tests_of b) h.tests k.tests);
}

past : (p : Piece) (ps : List Piece) → All IsPathWord (p ∷ ps) → All IsPathWord ps
past p ps h = All-tail IsPathWord p ps h

mutual
  place_files : {e : PipeTree} {from to : List Piece} → IsPlace e from to → All IsPathWord from → Goes e to
  place_files {to = to} (a_path word) h = record {
    files = record {
      programs = All-cons NoDirectory (normal_form word) [] (word_file word (All-head IsPathWord (name word) to h)) (All-nil NoDirectory);
      tests = All-nil NoDirectory;
    };
    rest = past (name word) to h;
  }
  place_files {to = to} (an_if {e} {inner} word k) h =
      let inside = past if_word (name word ∷ opening ∷ inner) h in
      let taken = sequence_files k (past opening inner (past (name word) (opening ∷ inner) inside)) in
      record {
        files = record {
          programs = taken.files.programs;
          tests = All-cons NoDirectory (normal_form word) (tests_of e) (word_file word (All-head IsPathWord (name word) (opening ∷ inner) inside)) taken.files.tests;
        };
        rest = past closing to taken.rest;
      }
  place_files {to = to} (an_else {e} {f} {inner} {other} word k l) h =
      let inside = past if_word (name word ∷ opening ∷ inner) h in
      let taken = sequence_files k (past opening inner (past (name word) (opening ∷ inner) inside)) in
      let not_taken = sequence_files l (past opening other (past else_word (opening ∷ other) (past closing (else_word ∷ opening ∷ other) taken.rest))) in
      record {
        files = record {
          programs = All-append NoDirectory (programs_of e) (programs_of f) taken.files.programs not_taken.files.programs;
          tests = All-cons NoDirectory (normal_form word) (tests_of e ++ tests_of f) (word_file word (All-head IsPathWord (name word) (opening ∷ inner) inside))
              (All-append NoDirectory (tests_of e) (tests_of f) taken.files.tests not_taken.files.tests);
        };
        rest = past closing to not_taken.rest;
      }

  feed_files : {e : PipeTree} {from to : List Piece} → IsFeed e from to → All IsPathWord from → Goes e to
  feed_files (a_place k) h = place_files k h
  feed_files (a_bar {p} {s} {from} {next} k l) h =
      let first = place_files k h in
      let second = feed_files l (past bar next first.rest) in
      record { files = both_files p s (feed p s) refl refl first.files second.files; rest = second.rest }

  sequence_files : {e : PipeTree} {from to : List Piece} → IsSequence e from to → All IsPathWord from → Goes e to
  sequence_files (a_feed k) h = feed_files k h
  sequence_files {to = to} (a_trailing k) h = let whole = feed_files k h in record { files = whole.files; rest = past semicolon to whole.rest }
  sequence_files (a_semicolon {s} {e} {from} {next} k l) h =
      let first = feed_files k h in
      let second = sequence_files l (past semicolon next first.rest) in
      record { files = both_files s e (sequence s e) refl refl first.files second.files; rest = second.rest }

pub spelled_files : (text : List ℕ) (e : PipeTree) → Spells text e → AreFiles e
spelled_files text e h = (sequence_files h.grammar h.words).files
