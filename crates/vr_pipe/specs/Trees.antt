-- Pipelines as their grammar has them, and what stands in one.
use Rattle.std.specs.Prelude.{ℕ, ◌+◌, max, List, [], ◌∷◌, ◌++◌, None, Some}
use Rattle.vr_pipe.specs.declared.trees.Tree.{Tree, fold-Tree}
use Rattle.vr_pipe.specs.declared.trees.Tree.TheOpen.{Tree-F}

-- a program; an if without and with an else; p | s; s ; e
pub data PipeTree : Type 0 where
  program : List ℕ → PipeTree
  if_then : List ℕ → PipeTree → PipeTree
  if_else : List ℕ → PipeTree → PipeTree → PipeTree
  feed : PipeTree → PipeTree → PipeTree
  sequence : PipeTree → PipeTree → PipeTree

-- one level of a tree, over what its parts are
abbrev pub layer : Tree-F PipeTree → PipeTree
layer (Tree-F.Program path) = program path
layer (Tree-F.If path taken None) = if_then path taken
layer (Tree-F.If path taken (Some other)) = if_else path taken other
layer (Tree-F.Feed first second) = feed first second
layer (Tree-F.Then first second) = sequence first second

-- the pipeline that a tree of the program is
abbrev pub pipe_tree : Tree → PipeTree
pipe_tree = fold-Tree PipeTree layer

-- the paths of the program places, in the order of the text
abbrev pub programs_of : PipeTree → List (List ℕ)
programs_of (program path) = path ∷ []
programs_of (if_then path taken) = programs_of taken
programs_of (if_else path taken other) = programs_of taken ++ programs_of other
programs_of (feed first second) = programs_of first ++ programs_of second
programs_of (sequence first second) = programs_of first ++ programs_of second

-- the paths of the ifs, in the order of the text
abbrev pub tests_of : PipeTree → List (List ℕ)
tests_of (program path) = []
tests_of (if_then path taken) = path ∷ tests_of taken
tests_of (if_else path taken other) = path ∷ (tests_of taken ++ tests_of other)
tests_of (feed first second) = tests_of first ++ tests_of second
tests_of (sequence first second) = tests_of first ++ tests_of second

-- how deep its braces nest
abbrev pub depth_of : PipeTree → ℕ
depth_of (program path) = 0
depth_of (if_then path taken) = depth_of taken + 1
depth_of (if_else path taken other) = max (depth_of taken) (depth_of other) + 1
depth_of (feed first second) = max (depth_of first) (depth_of second)
depth_of (sequence first second) = max (depth_of first) (depth_of second)
