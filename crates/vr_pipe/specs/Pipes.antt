-- Printed pipelines, and what a value of the type keeps.
use Rattle.std.specs.Prelude.{◌≡◌, ℕ, List, [], ◌∷◌, ◌++◌, codes, Option, None, Some}
use Rattle.std.specs.List.{join_with_byte}
use Rattle.vr_base.specs.Signs.{space}
use Rattle.vr_pipe.specs.declared.trees.Tree.{Tree}
use Rattle.vr_pipe.specs.Trees.{PipeTree, program, if_then, if_else, feed, sequence, pipe_tree, programs_of, tests_of}
use Rattle.vr_pipe.specs.Grammar.{Spells}

-- the words and signs of a pipeline, without a trailing semicolon
abbrev pub words_of : PipeTree → List (List ℕ)
words_of (program path) = path ∷ []
words_of (if_then path taken) =
    codes "if" ∷ path ∷ codes "{" ∷ (words_of taken ++ codes "}" ∷ [])
words_of (if_else path taken other) =
    codes "if" ∷ path ∷ codes "{" ∷ (words_of taken
    ++ codes "}" ∷ codes "else" ∷ codes "{" ∷ (words_of other ++ codes "}" ∷ []))
words_of (feed first second) = words_of first ++ codes "|" ∷ words_of second
words_of (sequence first second) = words_of first ++ codes ";" ∷ words_of second

-- the words and signs with one space between
abbrev pub text_of : PipeTree → List ℕ
text_of e = join_with_byte space (words_of e)

-- the end of an if's text, with or without an else
abbrev pub else_text : Option Tree → List ℕ
else_text None = codes " }"
else_text (Some other) = codes " } else { " ++ (text_of (pipe_tree other) ++ codes " }")

-- a pipeline that some text spells, as its own printed text does
abbrev pub IsPipeline : PipeTree → Type 0
IsPipeline e = Spells (text_of e) e

-- the tree is one that some text spells, and these are the paths in it
pub record KeepsPipe (tree : Tree) (programs tests : List (List ℕ)) : Type 0 where
  pub spelled : IsPipeline (pipe_tree tree)
  pub programs_are : programs ≡ programs_of (pipe_tree tree)
  pub tests_are : tests ≡ tests_of (pipe_tree tree)
