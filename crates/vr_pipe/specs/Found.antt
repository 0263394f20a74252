-- The paths that were found in the words and signs so far.
use Rattle.std.specs.Prelude.{ℕ, Bool, true, false, nat_lt, List, [], ◌∷◌, ◌++◌, length, Result, Ok, Err, if◌then◌else◌}
use Rattle.vr_base.specs.Checks.{◌>>=◌, result_map_err}
use Rattle.vr_base.specs.Names.{path_of}
use Rattle.vr_base.specs.declared.names.PathFault.{PathFault}
use Rattle.vr_pipe.specs.declared.faults.PipeFault.{PipeFault}
use Rattle.vr_pipe.specs.declared.faults.PipeFault.TheVariants.{Word, TooMany}
use Rattle.vr_pipe.specs.Pieces.{Piece, name, if_word}
use Rattle.vr_pipe.specs.Grammar.{most_programs, most_ifs}
use Rattle.vr_pipe.specs.Faults.{capped}

-- the paths of the program places and of the ifs
pub record Found : Type 0 where
  pub programs : List (List ℕ)
  pub tests : List (List ℕ)

-- what is found before the first piece
abbrev pub nothing_found : Found
nothing_found = record { programs = []; tests = [] }

-- a word at an offset that is no path, whatever is wrong with it
abbrev pub word_fault : ℕ → PathFault → PipeFault
word_fault at fault = Word (capped at)

-- the path that a word at an offset stands for
abbrev pub word_at : ℕ → List ℕ → Result (List ℕ) PipeFault
word_at at word = result_map_err (word_fault at) (path_of word)

-- one more program place, at an offset
abbrev pub with_program : ℕ → Found → List ℕ → Result Found PipeFault
with_program at found path =
    if nat_lt (length found.programs) most_programs
    then Ok (record { programs = found.programs ++ path ∷ []; tests = found.tests })
    else Err (TooMany (capped at))

-- one more path of an if
abbrev pub with_test : Found → List ℕ → Found
with_test found path = record { programs = found.programs; tests = found.tests ++ path ∷ [] }

-- what there is before one more if, at an offset
abbrev pub before_if : ℕ → Found → Result Found PipeFault
before_if at found =
    if nat_lt (length found.tests) most_ifs then Ok found else Err (TooMany (capped at))

-- what is found with one more piece, after an if or not, unless it is no path or one too many
abbrev pub found_with : ℕ → Bool → Found → Piece → Result Found PipeFault
found_with at true found (name word) = do
  path ← word_at at word
  Ok (with_test found path)
found_with at false found (name word) = do
  path ← word_at at word
  with_program at found path
found_with at tested found if_word = before_if at found
found_with at tested found _ = Ok found
