-- The grammar of pipelines, over words and signs. A place in a text is the list of the pieces
-- from there on, and a part of the text goes from one place to another. Every word but the
-- keywords is taken for a path here.
use Rattle.std.specs.Prelude.{ℕ, ◌≤◌, List, [], ◌∷◌, length, All}
use Rattle.vr_base.specs.Names.{normal_form}
use Rattle.vr_pipe.specs.Trees.{PipeTree, program, if_then, if_else, feed, sequence, programs_of, tests_of, depth_of}
use Rattle.vr_pipe.specs.Pieces.{Piece, name, if_word, else_word, bar, semicolon, opening, closing, pieces, IsPathWord}

-- the most program places of a pipeline
abbrev pub most_programs : ℕ
most_programs = 64

-- the most ifs of a pipeline
abbrev pub most_ifs : ℕ
most_ifs = 64

-- how deep braces nest at most
abbrev pub most_depth : ℕ
most_depth = 64

mutual
  -- p := path | 'if' path '{' e '}' [ 'else' '{' e '}' ]
  pub data IsPlace : PipeTree → List Piece → List Piece → Type 0 where
    a_path : {to : List Piece} (word : List ℕ)
        → IsPlace (program (normal_form word)) (name word ∷ to) to
    an_if : {e : PipeTree} {inner to : List Piece} (word : List ℕ)
        → IsSequence e inner (closing ∷ to)
        → IsPlace (if_then (normal_form word) e) (if_word ∷ name word ∷ opening ∷ inner) to
    an_else : {e f : PipeTree} {inner other to : List Piece} (word : List ℕ)
        → IsSequence e inner (closing ∷ else_word ∷ opening ∷ other)
        → IsSequence f other (closing ∷ to)
        → IsPlace (if_else (normal_form word) e f) (if_word ∷ name word ∷ opening ∷ inner) to

  -- s := p | p '|' s
  pub data IsFeed : PipeTree → List Piece → List Piece → Type 0 where
    a_place : {p : PipeTree} {from to : List Piece} → IsPlace p from to → IsFeed p from to
    a_bar : {p s : PipeTree} {from next to : List Piece}
        → IsPlace p from (bar ∷ next) → IsFeed s next to → IsFeed (feed p s) from to

  -- e := s [';'] | s ';' e
  pub data IsSequence : PipeTree → List Piece → List Piece → Type 0 where
    a_feed : {s : PipeTree} {from to : List Piece} → IsFeed s from to → IsSequence s from to
    a_trailing : {s : PipeTree} {from to : List Piece}
        → IsFeed s from (semicolon ∷ to) → IsSequence s from to
    a_semicolon : {s e : PipeTree} {from next to : List Piece}
        → IsFeed s from (semicolon ∷ next) → IsSequence e next to
        → IsSequence (sequence s e) from to

-- A text spells a pipeline: its words and signs are the pipeline's by the grammar, each word but
-- the keywords is a path, and the limits hold.
pub record Spells (text : List ℕ) (e : PipeTree) : Type 0 where
  pub grammar : IsSequence e (pieces text) []
  pub words : All IsPathWord (pieces text)
  pub nesting : depth_of e ≤ most_depth
  pub programs : length (programs_of e) ≤ most_programs
  pub tests : length (tests_of e) ≤ most_ifs
