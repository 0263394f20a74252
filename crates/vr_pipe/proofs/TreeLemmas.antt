-- What each variant of a tree is seen as.
use Rattle.std.proofs.Common.{◌≡◌, ℕ, List, None, Some, ap, sym, ◌∙◌}
use Rattle.vr_pipe.specs.declared.trees.Tree.{Tree, fold-roll-Tree}
use Rattle.vr_pipe.specs.declared.trees.Tree.TheOpen.{Tree-F}
use Rattle.vr_pipe.specs.declared.trees.Tree.TheVariants.{Program, If, Feed, Then, rolls-Program, rolls-If, rolls-Feed, rolls-Then}
use Rattle.vr_pipe.specs.Trees.{PipeTree, program, if_then, if_else, feed, sequence, layer, pipe_tree}

pub pipeline_program : (path : List ℕ) → pipe_tree (Program path) ≡ program path
pipeline_program path = ap pipe_tree (sym (rolls-Program path)) ∙ fold-roll-Tree PipeTree layer (Tree-F.Program path)

pub pipeline_test : (path : List ℕ) (taken : Tree) → pipe_tree (If path taken None) ≡ if_then path (pipe_tree taken)
pipeline_test path taken = ap pipe_tree (sym (rolls-If path taken None)) ∙ fold-roll-Tree PipeTree layer (Tree-F.If path taken None)

pub pipeline_choice : (path : List ℕ) (taken other : Tree) → pipe_tree (If path taken (Some other)) ≡ if_else path (pipe_tree taken) (pipe_tree other)
pipeline_choice path taken other = ap pipe_tree (sym (rolls-If path taken (Some other))) ∙ fold-roll-Tree PipeTree layer (Tree-F.If path taken (Some other))

pub pipeline_feed : (first second : Tree) → pipe_tree (Feed first second) ≡ feed (pipe_tree first) (pipe_tree second)
pipeline_feed first second = ap pipe_tree (sym (rolls-Feed first second)) ∙ fold-roll-Tree PipeTree layer (Tree-F.Feed first second)

pub pipeline_then : (first second : Tree) → pipe_tree (Then first second) ≡ sequence (pipe_tree first) (pipe_tree second)
pipeline_then first second = ap pipe_tree (sym (rolls-Then first second)) ∙ fold-roll-Tree PipeTree layer (Tree-F.Then first second)
