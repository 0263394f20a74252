-- How a reader goes through the words and signs of a text with a stack of what stands open, the
-- innermost first, up to the first fault.
use Rattle.std.specs.Prelude.{◌≡◌, ℕ, Bool, true, false, List, [], ◌∷◌, length, Option, None, Some, option_and_then, MatchOption, Result, Ok}
use Rattle.vr_base.specs.Checks.{◌>>=◌, or_fault, result_map}
use Rattle.vr_base.specs.Names.{normal_form}
use Rattle.vr_pipe.specs.declared.faults.PipeFault.{PipeFault}
use Rattle.vr_pipe.specs.declared.faults.PipeFault.TheVariants.{Expected}
use Rattle.vr_pipe.specs.declared.trees.Tree.{Tree}
use Rattle.vr_pipe.specs.declared.trees.Tree.TheVariants.{Program, If, Feed, Then}
use Rattle.vr_pipe.specs.declared.parsing.Frame.{Frame}
use Rattle.vr_pipe.specs.declared.parsing.Frame.TheVariants.{Fed, Before, Taken, Other}
use Rattle.vr_pipe.specs.declared.parsing.Focus.{Focus}
use Rattle.vr_pipe.specs.declared.parsing.Focus.TheVariants.{Place, Ended, Test, Opening, Placed, Branch, Otherwise}
use Rattle.vr_pipe.specs.declared.parsing.Closed.{Closed}
use Rattle.vr_pipe.specs.declared.parsing.Closed.TheVariants.{Whole, Inside}
use Rattle.vr_pipe.specs.declared.parsing.Parser.{Parser}
use Rattle.vr_pipe.specs.Pieces.{Piece, name, if_word, else_word, bar, semicolon, opening, closing, pieces_at}
use Rattle.vr_pipe.specs.Faults.{capped, Gives}
use Rattle.vr_pipe.specs.Found.{Found, nothing_found, found_with}

-- a feed that ends here, with what was fed into its last place
abbrev pub join : Tree → List Frame → Tree × List Frame
join s [] = (s, [])
join s (Fed p ∷ fs) = join (Feed p s) fs
join s (f ∷ fs) = (s, f ∷ fs)

-- a sequence that ends here, and what that makes whole
abbrev pub close : Tree → List Frame → Closed × List Frame
close e [] = (Whole e, [])
close e (Fed p ∷ fs) = close (Feed p e) fs
close e (Before s ∷ fs) = close (Then s e) fs
close e (Taken path ∷ fs) = (Inside (Branch path e), fs)
close e (Other path taken ∷ fs) = (Inside (Placed (If path taken (Some e))), fs)

-- a brace ends the innermost braces alone
abbrev pub inside_focus : Closed × List Frame → Option (Focus × List Frame)
inside_focus (Whole e, fs) = None
inside_focus (Inside focus, fs) = Some (focus, fs)

-- the end of the text ends the pipeline alone
abbrev pub whole_tree : Closed × List Frame → Option Tree
whole_tree (Whole e, fs) = Some e
whole_tree (Inside focus, fs) = None

-- where a place must come
abbrev pub place : List Frame → Piece → Option (Focus × List Frame)
place fs (name word) = Some (Placed (Program (normal_form word)), fs)
place fs if_word = Some (Test, fs)
place fs _ = None

-- after a place
abbrev pub after_place : Tree → List Frame → Piece → Option (Focus × List Frame)
after_place p fs bar = Some (Place, Fed p ∷ fs)
after_place p fs semicolon = Some (Ended (join p fs).0, (join p fs).1)
after_place p fs closing = inside_focus (close p fs)
after_place p fs _ = None

-- where a brace must open
abbrev pub open_brace : Frame → List Frame → Piece → Option (Focus × List Frame)
open_brace f fs opening = Some (Place, f ∷ fs)
open_brace f fs _ = None

-- a place that is fed into what comes next was taken off the innermost frames, or there was none
abbrev pub PopsFed : List Frame → List Frame → Option Tree → Type 0
PopsFed old new fed =
    MatchOption fed
    ((s : Tree) → join s old ≡ (s, new))
    (λ p. (s : Tree) → join s old ≡ join (Feed p s) new)

-- what is open after one more piece, unless no pipeline goes on with it
abbrev pub next : Focus → List Frame → Piece → Option (Focus × List Frame)
next Place fs p = place fs p
next (Ended s) fs closing = inside_focus (close s fs)
next (Ended s) fs p = place (Before s ∷ fs) p
next Test fs (name word) = Some (Opening (normal_form word), fs)
next Test fs _ = None
next (Opening path) fs p = open_brace (Taken path) fs p
next (Placed t) fs p = after_place t fs p
next (Branch path e) fs else_word = Some (Otherwise path e, fs)
next (Branch path e) fs p = after_place (If path e None) fs p
next (Otherwise path e) fs p = open_brace (Other path e) fs p

-- the tree at the text's end, unless it ends too early
abbrev pub end_of : Focus → List Frame → Option Tree
end_of (Ended s) fs = whole_tree (close s fs)
end_of (Placed t) fs = whole_tree (close t fs)
end_of (Branch path e) fs = whole_tree (close (If path e None) fs)
end_of _ fs = None

-- the tree that the pieces give, whatever their words and limits
abbrev pub run : Focus → List Frame → List Piece → Option Tree
run focus fs [] = end_of focus fs
run focus fs (p ∷ ps) = option_and_then (λ state. run state.0 state.1 ps) (next focus fs p)

-- whether a path of an if must come
abbrev pub is_test : Focus → Bool
is_test Test = true
is_test _ = false

-- How far a text was read: what was read last, what stands open round it, and the paths so far.
pub record State : Type 0 where
  pub focus : Focus
  pub frames : List Frame
  pub found : Found

-- the state of the parser that the code keeps
abbrev pub state_of : Parser → State
state_of p = record { focus = p.focus; frames = p.frames; found = p.paths }

-- The state that was returned is the answer's, unless memory ran out.
abbrev pub GivesState : Result Parser PipeFault → Result State PipeFault → Type 0
GivesState result answer = Gives (result_map state_of result) answer

-- the state after a piece at an offset, where this is open after it
abbrev pub state_with : ℕ → Bool → Found → Piece → Option (Focus × List Frame)
    → Result State PipeFault
state_with at tested found p after = do
  state ← or_fault (Expected (capped at)) after
  found ← found_with at tested found p
  Ok (record { focus = state.0; frames = state.1; found = found })

-- the state after a piece at an offset
abbrev pub advance : ℕ → State → Piece → Result State PipeFault
advance at state p =
    state_with at (is_test state.focus) state.found p (next state.focus state.frames p)

-- the tree and what was found, at the end of a text of a length
abbrev pub finish : ℕ → Found → Option Tree → Result (Tree × Found) PipeFault
finish end found tree = do
  tree ← or_fault (Expected (capped end)) tree
  Ok (tree, found)

-- what the pieces from a state on give, in a text of a length
abbrev pub parse_from : ℕ → State → List (ℕ × Piece) → Result (Tree × Found) PipeFault
parse_from end state [] = finish end state.found (end_of state.focus state.frames)
parse_from end state (p ∷ ps) = do
  after ← advance p.0 state p.1
  parse_from end after ps

-- the state before the first piece, where a place must come
abbrev pub at_start : State
at_start = record { focus = Place; frames = []; found = nothing_found }

-- what a text gives, or its first fault
abbrev pub parse : List ℕ → Result (Tree × Found) PipeFault
parse text = parse_from (length text) at_start (pieces_at text)

-- The tree of the pipeline that a text spells, or the text's first fault:
-- proofs/Laws has it by the grammar.
unfoldable pub pipe_of : List ℕ → Result Tree PipeFault
pipe_of text = result_map (λ parsed. parsed.0) (parse text)
