-- From each state of the reader some pieces lead to a whole pipeline.
use Rattle.std.proofs.Common.{◌≡◌, List, [], ◌∷◌, None, Some, ◌∙◌, refl}
use Rattle.vr_base.specs.Names.{normal_form}
use Rattle.vr_pipe.specs.declared.trees.Tree.{Tree}
use Rattle.vr_pipe.specs.declared.trees.Tree.TheVariants.{Program, If, Feed, Then}
use Rattle.vr_pipe.specs.declared.parsing.Frame.{Frame}
use Rattle.vr_pipe.specs.declared.parsing.Frame.TheVariants.{Fed, Before, Taken, Other}
use Rattle.vr_pipe.specs.declared.parsing.Focus.{Focus}
use Rattle.vr_pipe.specs.declared.parsing.Focus.TheVariants.{Place, Ended, Test, Opening, Placed, Branch, Otherwise}
use Rattle.vr_pipe.specs.Pieces.{Piece, name, opening, closing}
use Rattle.vr_pipe.specs.Parser.{run}
use Rattle.vr_pipe.proofs.ParserCompleteness.{EndsSequence, feed_ends_place, sequence_ends_feed, branch_ends, fed_ends, before_ends, ended_ends}

-- pieces that end all that is open after a place
pub record Closes (t : Tree) (fs : List Frame) : Type 0 where
  pub more : List Piece
  pub ends : EndsSequence more
  pub tree : Tree
  pub gives : run (Placed t) fs more ≡ Some tree

pub closes : (t : Tree) (fs : List Frame) → Closes t fs
closes t [] = record { more = []; ends = tt; tree = t; gives = refl }
closes t (Fed p ∷ fs) = let c = closes (Feed p t) fs in
    record { more = c.more; ends = c.ends; tree = c.tree; gives = fed_ends p t fs c.more (sequence_ends_feed c.more c.ends) ∙ c.gives }
closes t (Before s ∷ fs) = let c = closes (Then s t) fs in
    record { more = c.more; ends = c.ends; tree = c.tree; gives = before_ends s t fs c.more c.ends ∙ c.gives }
closes t (Taken path ∷ fs) = let c = closes (If path t None) fs in
    record { more = closing ∷ c.more; ends = tt; tree = c.tree; gives = branch_ends path t fs c.more (feed_ends_place c.more (sequence_ends_feed c.more c.ends)) ∙ c.gives }
closes t (Other path e ∷ fs) = let c = closes (If path e (Some t)) fs in
    record { more = closing ∷ c.more; ends = tt; tree = c.tree; gives = c.gives }

-- pieces that lead from a state to a whole pipeline
pub record Completes (focus : Focus) (fs : List Frame) : Type 0 where
  pub more : List Piece
  pub tree : Tree
  pub gives : run focus fs more ≡ Some tree

abbrev no_name : Tree
no_name = Program (normal_form [])

pub completes : (focus : Focus) (fs : List Frame) → Completes focus fs
completes Place fs = let c = closes no_name fs in record { more = name [] ∷ c.more; tree = c.tree; gives = c.gives }
completes (Ended s) fs = let c = closes s fs in record { more = c.more; tree = c.tree; gives = ended_ends s fs c.more c.ends ∙ c.gives }
completes Test fs = let c = closes no_name (Taken (normal_form []) ∷ fs) in record { more = name [] ∷ opening ∷ name [] ∷ c.more; tree = c.tree; gives = c.gives }
completes (Opening path) fs = let c = closes no_name (Taken path ∷ fs) in record { more = opening ∷ name [] ∷ c.more; tree = c.tree; gives = c.gives }
completes (Placed t) fs = let c = closes t fs in record { more = c.more; tree = c.tree; gives = c.gives }
completes (Branch path e) fs = let c = closes (If path e None) fs in
    record { more = c.more; tree = c.tree; gives = branch_ends path e fs c.more (feed_ends_place c.more (sequence_ends_feed c.more c.ends)) ∙ c.gives }
completes (Otherwise path e) fs = let c = closes no_name (Other path e ∷ fs) in record { more = opening ∷ name [] ∷ c.more; tree = c.tree; gives = c.gives }
