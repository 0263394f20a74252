-- What the grammar reads the reader goes through: it gives the tree of each pipeline that the pieces spell.
use Rattle.std.proofs.Common.{◌≡◌, ℕ, List, [], ◌∷◌, None, Some, ap, sym, ◌∙◌, subst, refl}
use Rattle.vr_base.specs.Names.{normal_form}
use Rattle.vr_pipe.specs.declared.trees.Tree.{Tree, roll-Tree, ind-Tree, map-Tree}
use Rattle.vr_pipe.specs.declared.trees.Tree.TheOpen.{Tree-F}
use Rattle.vr_pipe.specs.declared.trees.Tree.TheVariants.{Program, If, Feed, Then, rolls-Program, rolls-If, rolls-Feed, rolls-Then}
use Rattle.vr_pipe.specs.declared.parsing.Frame.{Frame}
use Rattle.vr_pipe.specs.declared.parsing.Frame.TheVariants.{Fed, Before, Taken, Other}
use Rattle.vr_pipe.specs.declared.parsing.Focus.TheVariants.{Place, Ended, Placed, Branch}
use Rattle.vr_pipe.specs.Trees.{PipeTree, program, if_then, if_else, feed, sequence, pipe_tree}
use Rattle.vr_pipe.specs.Pieces.{Piece, name, if_word, else_word, bar, semicolon, opening, closing}
use Rattle.vr_pipe.specs.Grammar.{IsPlace, IsFeed, IsSequence, a_path, an_if, an_else, a_place, a_bar, a_feed, a_trailing, a_semicolon}
use Rattle.vr_pipe.specs.Parser.{run}
use Rattle.vr_pipe.proofs.TreeLemmas.{pipeline_program, pipeline_test, pipeline_choice, pipeline_feed, pipeline_then}
use Rattle.vr_pipe.proofs.ParserSoundness.{IsFresh}

abbrev pub tree_of : PipeTree → Tree
tree_of (program path) = Program path
tree_of (if_then path e) = If path (tree_of e) None
tree_of (if_else path e f) = If path (tree_of e) (Some (tree_of f))
tree_of (feed p s) = Feed (tree_of p) (tree_of s)
tree_of (sequence s e) = Then (tree_of s) (tree_of e)

pub pipe_tree-tree_of : (e : PipeTree) → pipe_tree (tree_of e) ≡ e
pipe_tree-tree_of (program path) = pipeline_program path
pipe_tree-tree_of (if_then path e) = pipeline_test path (tree_of e) ∙ ap (if_then path) (pipe_tree-tree_of e)
pipe_tree-tree_of (if_else path e f) = pipeline_choice path (tree_of e) (tree_of f) ∙ ap (λ x. if_else path x (pipe_tree (tree_of f))) (pipe_tree-tree_of e) ∙ ap (if_else path e) (pipe_tree-tree_of f)
pipe_tree-tree_of (feed p s) = pipeline_feed (tree_of p) (tree_of s) ∙ ap (λ x. feed x (pipe_tree (tree_of s))) (pipe_tree-tree_of p) ∙ ap (feed p) (pipe_tree-tree_of s)
pipe_tree-tree_of (sequence s e) = pipeline_then (tree_of s) (tree_of e) ∙ ap (λ x. sequence x (pipe_tree (tree_of e))) (pipe_tree-tree_of s) ∙ ap (sequence s) (pipe_tree-tree_of e)

-- the tree of what a tree is seen as is that tree
abbrev IsSame : Tree → Type 0
IsSame t = tree_of (pipe_tree t) ≡ t

-- one level of a tree, with a proof beside each part
same_level : (x : Tree-F ((t : Tree) × IsSame t)) → IsSame (roll-Tree (map-Tree ((t : Tree) × IsSame t) Tree (λ e. e.0) x))
same_level (Tree-F.Program path) = subst IsSame (sym (rolls-Program path)) (ap tree_of (pipeline_program path))
same_level (Tree-F.If path (e, h) None) = subst IsSame (sym (rolls-If path e None)) (ap tree_of (pipeline_test path e) ∙ ap (λ x. If path x None) h)
same_level (Tree-F.If path (e, h) (Some (f, k))) =
    subst IsSame (sym (rolls-If path e (Some f))) (ap tree_of (pipeline_choice path e f) ∙ ap (λ x. If path x (Some (tree_of (pipe_tree f)))) h ∙ ap (λ x. If path e (Some x)) k)
same_level (Tree-F.Feed (p, h) (s, k)) =
    subst IsSame (sym (rolls-Feed p s)) (ap tree_of (pipeline_feed p s) ∙ ap (λ x. Feed x (tree_of (pipe_tree s))) h ∙ ap (Feed p) k)
same_level (Tree-F.Then (s, h) (e, k)) =
    subst IsSame (sym (rolls-Then s e)) (ap tree_of (pipeline_then s e) ∙ ap (λ x. Then x (tree_of (pipe_tree e))) h ∙ ap (Then s) k)

pub tree_of-pipe_tree : (t : Tree) → tree_of (pipe_tree t) ≡ t
tree_of-pipe_tree = ind-Tree IsSame (λ x y is. subst (λ z. IsSame (roll-Tree z)) is (same_level y))

-- no else comes
abbrev pub EndsPlace : List Piece → Type 0
EndsPlace (else_word ∷ ps) = ⊥
EndsPlace ps = Unit {0}

-- a semicolon, a brace or the end comes
abbrev pub EndsFeed : List Piece → Type 0
EndsFeed [] = Unit {0}
EndsFeed (semicolon ∷ ps) = Unit {0}
EndsFeed (closing ∷ ps) = Unit {0}
EndsFeed (p ∷ ps) = ⊥

-- a brace or the end comes
abbrev pub EndsSequence : List Piece → Type 0
EndsSequence [] = Unit {0}
EndsSequence (closing ∷ ps) = Unit {0}
EndsSequence (p ∷ ps) = ⊥

-- a place comes
abbrev pub BeginsPlace : List Piece → Type 0
BeginsPlace (name word ∷ ps) = Unit {0}
BeginsPlace (if_word ∷ ps) = Unit {0}
BeginsPlace ps = ⊥

pub feed_ends_place : (to : List Piece) → EndsFeed to → EndsPlace to
feed_ends_place [] h = tt
feed_ends_place (semicolon ∷ ps) h = tt
feed_ends_place (closing ∷ ps) h = tt
feed_ends_place (name word ∷ ps) h = absurd h
feed_ends_place (if_word ∷ ps) h = absurd h
feed_ends_place (else_word ∷ ps) h = absurd h
feed_ends_place (bar ∷ ps) h = absurd h
feed_ends_place (opening ∷ ps) h = absurd h

pub sequence_ends_feed : (to : List Piece) → EndsSequence to → EndsFeed to
sequence_ends_feed [] h = tt
sequence_ends_feed (closing ∷ ps) h = tt
sequence_ends_feed (semicolon ∷ ps) h = absurd h
sequence_ends_feed (name word ∷ ps) h = absurd h
sequence_ends_feed (if_word ∷ ps) h = absurd h
sequence_ends_feed (else_word ∷ ps) h = absurd h
sequence_ends_feed (bar ∷ ps) h = absurd h
sequence_ends_feed (opening ∷ ps) h = absurd h

place_begins : {e : PipeTree} {from to : List Piece} → IsPlace e from to → BeginsPlace from
place_begins (a_path word) = tt
place_begins (an_if word h) = tt
place_begins (an_else word h k) = tt

feed_begins : {e : PipeTree} {from to : List Piece} → IsFeed e from to → BeginsPlace from
feed_begins (a_place h) = place_begins h
feed_begins (a_bar h k) = place_begins h

sequence_begins : {e : PipeTree} {from to : List Piece} → IsSequence e from to → BeginsPlace from
sequence_begins (a_feed h) = feed_begins h
sequence_begins (a_trailing h) = feed_begins h
sequence_begins (a_semicolon h k) = feed_begins h

pub branch_ends : (path : List ℕ) (e : Tree) (fs : List Frame) (to : List Piece) → EndsPlace to → run (Branch path e) fs to ≡ run (Placed (If path e None)) fs to
branch_ends path e fs [] h = refl
branch_ends path e fs (name word ∷ ps) h = refl
branch_ends path e fs (if_word ∷ ps) h = refl
branch_ends path e fs (else_word ∷ ps) h = absurd h
branch_ends path e fs (bar ∷ ps) h = refl
branch_ends path e fs (semicolon ∷ ps) h = refl
branch_ends path e fs (opening ∷ ps) h = refl
branch_ends path e fs (closing ∷ ps) h = refl

pub fed_ends : (p s : Tree) (fs : List Frame) (to : List Piece) → EndsFeed to → run (Placed s) (Fed p ∷ fs) to ≡ run (Placed (Feed p s)) fs to
fed_ends p s fs [] h = refl
fed_ends p s fs (semicolon ∷ ps) h = refl
fed_ends p s fs (closing ∷ ps) h = refl
fed_ends p s fs (name word ∷ ps) h = absurd h
fed_ends p s fs (if_word ∷ ps) h = absurd h
fed_ends p s fs (else_word ∷ ps) h = absurd h
fed_ends p s fs (bar ∷ ps) h = absurd h
fed_ends p s fs (opening ∷ ps) h = absurd h

pub before_ends : (s e : Tree) (fs : List Frame) (to : List Piece) → EndsSequence to → run (Placed e) (Before s ∷ fs) to ≡ run (Placed (Then s e)) fs to
before_ends s e fs [] h = refl
before_ends s e fs (closing ∷ ps) h = refl
before_ends s e fs (semicolon ∷ ps) h = absurd h
before_ends s e fs (name word ∷ ps) h = absurd h
before_ends s e fs (if_word ∷ ps) h = absurd h
before_ends s e fs (else_word ∷ ps) h = absurd h
before_ends s e fs (bar ∷ ps) h = absurd h
before_ends s e fs (opening ∷ ps) h = absurd h

pub ended_ends : (s : Tree) (fs : List Frame) (to : List Piece) → EndsSequence to → run (Ended s) fs to ≡ run (Placed s) fs to
ended_ends s fs [] h = refl
ended_ends s fs (closing ∷ ps) h = refl
ended_ends s fs (semicolon ∷ ps) h = absurd h
ended_ends s fs (name word ∷ ps) h = absurd h
ended_ends s fs (if_word ∷ ps) h = absurd h
ended_ends s fs (else_word ∷ ps) h = absurd h
ended_ends s fs (bar ∷ ps) h = absurd h
ended_ends s fs (opening ∷ ps) h = absurd h

ended_begins : (s : Tree) (fs : List Frame) (from : List Piece) → BeginsPlace from → run (Ended s) fs from ≡ run Place (Before s ∷ fs) from
ended_begins s fs [] h = absurd h
ended_begins s fs (name word ∷ ps) h = refl
ended_begins s fs (if_word ∷ ps) h = refl
ended_begins s fs (else_word ∷ ps) h = absurd h
ended_begins s fs (bar ∷ ps) h = absurd h
ended_begins s fs (semicolon ∷ ps) h = absurd h
ended_begins s fs (opening ∷ ps) h = absurd h
ended_begins s fs (closing ∷ ps) h = absurd h

-- after frames with nothing fed a semicolon ends the place alone
semicolon_ends : (s : Tree) (fs : List Frame) (to : List Piece) → IsFresh fs → run (Placed s) fs (semicolon ∷ to) ≡ run (Ended s) fs to
semicolon_ends s [] to h = refl
semicolon_ends s (Fed p ∷ fs) to h = absurd h
semicolon_ends s (Before q ∷ fs) to h = refl
semicolon_ends s (Taken path ∷ fs) to h = refl
semicolon_ends s (Other path e ∷ fs) to h = refl

mutual
  pub place_runs : {e : PipeTree} {from to : List Piece} → IsPlace e from to → EndsPlace to → (fs : List Frame) → run Place fs from ≡ run (Placed (tree_of e)) fs to
  place_runs (a_path word) ends fs = refl
  place_runs {to = to} (an_if {e} {inner} word h) ends fs =
      sequence_runs h tt (Taken (normal_form word) ∷ fs) tt ∙ branch_ends (normal_form word) (tree_of e) fs to ends
  place_runs {to = to} (an_else {e} {f} {inner} {other} word h k) ends fs =
      sequence_runs h tt (Taken (normal_form word) ∷ fs) tt ∙ sequence_runs k tt (Other (normal_form word) (tree_of e) ∷ fs) tt

  pub feed_runs : {e : PipeTree} {from to : List Piece} → IsFeed e from to → EndsFeed to → (fs : List Frame) → run Place fs from ≡ run (Placed (tree_of e)) fs to
  feed_runs {to = to} (a_place h) ends fs = place_runs h (feed_ends_place to ends) fs
  feed_runs {to = to} (a_bar {p} {s} h k) ends fs =
      place_runs h tt fs ∙ feed_runs k ends (Fed (tree_of p) ∷ fs) ∙ fed_ends (tree_of p) (tree_of s) fs to ends

  pub sequence_runs : {e : PipeTree} {from to : List Piece} → IsSequence e from to → EndsSequence to → (fs : List Frame) → IsFresh fs → run Place fs from ≡ run (Placed (tree_of e)) fs to
  sequence_runs {to = to} (a_feed h) ends fs fresh = feed_runs h (sequence_ends_feed to ends) fs
  sequence_runs {e} {from} {to} (a_trailing h) ends fs fresh =
      feed_runs h tt fs ∙ semicolon_ends (tree_of e) fs to fresh ∙ ended_ends (tree_of e) fs to ends
  sequence_runs {to = to} (a_semicolon {s} {e} {from} {next} h k) ends fs fresh =
      feed_runs h tt fs ∙ semicolon_ends (tree_of s) fs next fresh ∙ ended_begins (tree_of s) fs next (sequence_begins k)
      ∙ sequence_runs k ends (Before (tree_of s) ∷ fs) tt ∙ before_ends (tree_of s) (tree_of e) fs to ends

-- the reader gives the tree of what the pieces spell
pub run_complete : {e : PipeTree} {ps : List Piece} → IsSequence e ps [] → run Place [] ps ≡ Some (tree_of e)
run_complete h = sequence_runs h tt [] tt
