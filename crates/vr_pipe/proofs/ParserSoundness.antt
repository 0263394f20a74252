-- What the reader has gone through is read by the grammar: where it gives a tree, the pieces spell the tree.
use Rattle.std.proofs.Common.{ℕ, List, [], ◌∷◌, Option, None, Some}
use Rattle.std.specs.Prelude.{IfSome, option_and_then}
use Rattle.vr_base.specs.Names.{normal_form}
use Rattle.vr_pipe.specs.declared.trees.Tree.{Tree}
use Rattle.vr_pipe.specs.declared.trees.Tree.TheVariants.{Program, If, Feed, Then}
use Rattle.vr_pipe.specs.declared.parsing.Frame.{Frame}
use Rattle.vr_pipe.specs.declared.parsing.Frame.TheVariants.{Fed, Before, Taken, Other}
use Rattle.vr_pipe.specs.declared.parsing.Focus.{Focus}
use Rattle.vr_pipe.specs.declared.parsing.Focus.TheVariants.{Place, Ended, Test, Opening, Placed, Branch, Otherwise}
use Rattle.vr_pipe.specs.Trees.{pipe_tree}
use Rattle.vr_pipe.specs.Pieces.{Piece, name, if_word, else_word, bar, semicolon, opening, closing}
use Rattle.vr_pipe.specs.Grammar.{IsPlace, IsFeed, IsSequence, a_path, an_if, an_else, a_place, a_bar, a_feed, a_trailing, a_semicolon}
use Rattle.vr_pipe.specs.Parser.{join, close, inside_focus, whole_tree, place, after_place, next, end_of, run}
use Rattle.vr_pipe.proofs.TreeLemmas.{pipeline_program, pipeline_test, pipeline_choice, pipeline_feed, pipeline_then}

-- no place is fed into what comes next
abbrev pub IsFresh : List Frame → Type 0
IsFresh [] = Unit {0}
IsFresh (Fed p ∷ fs) = ⊥
IsFresh (f ∷ fs) = Unit {0}

-- the open frames were read, from the start of the text up to a place
pub data Line : List Frame → List Piece → List Piece → Type 0 where
  line_start : {all : List Piece} → Line [] all all
  line_fed : {p : Tree} {fs : List Frame} {all from at : List Piece} → Line fs all from → IsPlace (pipe_tree p) from (bar ∷ at) → Line (Fed p ∷ fs) all at
  line_before : {s : Tree} {fs : List Frame} {all from at : List Piece} → IsFresh fs → Line fs all from → IsFeed (pipe_tree s) from (semicolon ∷ at) → Line (Before s ∷ fs) all at
  line_taken : {fs : List Frame} {all at : List Piece} (word : List ℕ) → Line fs all (if_word ∷ name word ∷ opening ∷ at) → Line (Taken (normal_form word) ∷ fs) all at
  line_other : {e : Tree} {fs : List Frame} {all inner at : List Piece} (word : List ℕ) → Line fs all (if_word ∷ name word ∷ opening ∷ inner)
      → IsSequence (pipe_tree e) inner (closing ∷ else_word ∷ opening ∷ at) → Line (Other (normal_form word) e ∷ fs) all at

-- the state was read, from the start of the text up to a place
pub data Reads : Focus → List Frame → List Piece → List Piece → Type 0 where
  at_place : {fs : List Frame} {all at : List Piece} → Line fs all at → Reads Place fs all at
  at_ended : {s : Tree} {fs : List Frame} {all from at : List Piece} → IsFresh fs → Line fs all from → IsFeed (pipe_tree s) from (semicolon ∷ at) → Reads (Ended s) fs all at
  at_test : {fs : List Frame} {all at : List Piece} → Line fs all (if_word ∷ at) → Reads Test fs all at
  at_opening : {fs : List Frame} {all at : List Piece} (word : List ℕ) → Line fs all (if_word ∷ name word ∷ at) → Reads (Opening (normal_form word)) fs all at
  at_placed : {p : Tree} {fs : List Frame} {all from at : List Piece} → Line fs all from → IsPlace (pipe_tree p) from at → Reads (Placed p) fs all at
  at_branch : {e : Tree} {fs : List Frame} {all inner at : List Piece} (word : List ℕ) → Line fs all (if_word ∷ name word ∷ opening ∷ inner)
      → IsSequence (pipe_tree e) inner (closing ∷ at) → Reads (Branch (normal_form word) e) fs all at
  at_otherwise : {e : Tree} {fs : List Frame} {all inner at : List Piece} (word : List ℕ) → Line fs all (if_word ∷ name word ∷ opening ∷ inner)
      → IsSequence (pipe_tree e) inner (closing ∷ else_word ∷ at) → Reads (Otherwise (normal_form word) e) fs all at

-- the state after a piece, where there is one, was read
abbrev pub IsRead : List Piece → List Piece → Option (Focus × List Frame) → Type 0
IsRead all at state = IfSome state (λ s. Reads s.0 s.1 all at)

read_program : {to : List Piece} (word : List ℕ) → IsPlace (pipe_tree (Program (normal_form word))) (name word ∷ to) to
read_program word = rw (pipeline_program (normal_form word)) (a_path word)

read_if : {inner to : List Piece} (e : Tree) (word : List ℕ) → IsSequence (pipe_tree e) inner (closing ∷ to)
    → IsPlace (pipe_tree (If (normal_form word) e None)) (if_word ∷ name word ∷ opening ∷ inner) to
read_if e word h = rw (pipeline_test (normal_form word) e) (an_if word h)

read_else : {inner other to : List Piece} (e f : Tree) (word : List ℕ) → IsSequence (pipe_tree e) inner (closing ∷ else_word ∷ opening ∷ other)
    → IsSequence (pipe_tree f) other (closing ∷ to) → IsPlace (pipe_tree (If (normal_form word) e (Some f))) (if_word ∷ name word ∷ opening ∷ inner) to
read_else e f word h k = rw (pipeline_choice (normal_form word) e f) (an_else word h k)

read_feed : {from at to : List Piece} (p s : Tree) → IsPlace (pipe_tree p) from (bar ∷ at) → IsFeed (pipe_tree s) at to → IsFeed (pipe_tree (Feed p s)) from to
read_feed p s h k = rw (pipeline_feed p s) (a_bar h k)

read_then : {from at to : List Piece} (s e : Tree) → IsFeed (pipe_tree s) from (semicolon ∷ at) → IsSequence (pipe_tree e) at to → IsSequence (pipe_tree (Then s e)) from to
read_then s e h k = rw (pipeline_then s e) (a_semicolon h k)

-- a feed that ends here
pub record Joins (all to : List Piece) (s : Tree) (fs : List Frame) : Type 0 where
  pub from : List Piece
  pub fresh : IsFresh fs
  pub line : Line fs all from
  pub read : IsFeed (pipe_tree s) from to

joins : {all from to : List Piece} (fs : List Frame) (s : Tree) → Line fs all from → IsFeed (pipe_tree s) from to → Joins all to (join s fs).0 (join s fs).1
joins [] s l h = record { from = _; fresh = tt; line = l; read = h }
joins (Fed p ∷ fs) s (line_fed l k) h = joins fs (Feed p s) l (read_feed p s k h)
joins (Before q ∷ fs) s l h = record { from = _; fresh = tt; line = l; read = h }
joins (Taken path ∷ fs) s l h = record { from = _; fresh = tt; line = l; read = h }
joins (Other path e ∷ fs) s l h = record { from = _; fresh = tt; line = l; read = h }

-- a sequence that a brace ends
sequence_braced : {all from at : List Piece} (fs : List Frame) (e : Tree) → IsFresh fs → Line fs all from → IsSequence (pipe_tree e) from (closing ∷ at) → IsRead all at (inside_focus (close e fs))
sequence_braced [] e new l h = tt
sequence_braced (Fed p ∷ fs) e new l h = absurd new
sequence_braced (Before s ∷ fs) e new (line_before fresh l k) h = sequence_braced fs (Then s e) fresh l (read_then s e k h)
sequence_braced (Taken path ∷ fs) e new (line_taken word l) h = at_branch word l h
sequence_braced (Other path e ∷ fs) f new (line_other word l k) h = at_placed l (read_else e f word k h)

feed_braced : {all from at : List Piece} (fs : List Frame) (s : Tree) → Line fs all from → IsFeed (pipe_tree s) from (closing ∷ at) → IsRead all at (inside_focus (close s fs))
feed_braced [] s l h = tt
feed_braced (Fed p ∷ fs) s (line_fed l k) h = feed_braced fs (Feed p s) l (read_feed p s k h)
feed_braced (Before q ∷ fs) s l h = sequence_braced (Before q ∷ fs) s tt l (a_feed h)
feed_braced (Taken path ∷ fs) s l h = sequence_braced (Taken path ∷ fs) s tt l (a_feed h)
feed_braced (Other path e ∷ fs) s l h = sequence_braced (Other path e ∷ fs) s tt l (a_feed h)

-- the tree, where there is one, is what the whole text spells
abbrev pub IsSpelled : List Piece → Option Tree → Type 0
IsSpelled all tree = IfSome tree (λ e. IsSequence (pipe_tree e) all [])

-- a sequence that the text's end ends
sequence_whole : {all from : List Piece} (fs : List Frame) (e : Tree) → IsFresh fs → Line fs all from → IsSequence (pipe_tree e) from [] → IsSpelled all (whole_tree (close e fs))
sequence_whole [] e new line_start h = h
sequence_whole (Fed p ∷ fs) e new l h = absurd new
sequence_whole (Before s ∷ fs) e new (line_before fresh l k) h = sequence_whole fs (Then s e) fresh l (read_then s e k h)
sequence_whole (Taken path ∷ fs) e new l h = tt
sequence_whole (Other path e ∷ fs) f new l h = tt

feed_whole : {all from : List Piece} (fs : List Frame) (s : Tree) → Line fs all from → IsFeed (pipe_tree s) from [] → IsSpelled all (whole_tree (close s fs))
feed_whole [] s l h = sequence_whole [] s tt l (a_feed h)
feed_whole (Fed p ∷ fs) s (line_fed l k) h = feed_whole fs (Feed p s) l (read_feed p s k h)
feed_whole (Before q ∷ fs) s l h = sequence_whole (Before q ∷ fs) s tt l (a_feed h)
feed_whole (Taken path ∷ fs) s l h = tt
feed_whole (Other path e ∷ fs) s l h = tt

place_reads : {all at : List Piece} (fs : List Frame) (p : Piece) → Line fs all (p ∷ at) → IsRead all at (place fs p)
place_reads fs (name word) l = at_placed l (read_program word)
place_reads fs if_word l = at_test l
place_reads fs else_word l = tt
place_reads fs bar l = tt
place_reads fs semicolon l = tt
place_reads fs opening l = tt
place_reads fs closing l = tt

after_place_read : {all from at : List Piece} (fs : List Frame) (t : Tree) (p : Piece) → Line fs all from → IsPlace (pipe_tree t) from (p ∷ at) → IsRead all at (after_place t fs p)
after_place_read fs t (name word) l h = tt
after_place_read fs t if_word l h = tt
after_place_read fs t else_word l h = tt
after_place_read fs t bar l h = at_place (line_fed l h)
after_place_read fs t semicolon l h = let j = joins fs t l (a_place h) in at_ended j.fresh j.line j.read
after_place_read fs t opening l h = tt
after_place_read fs t closing l h = feed_braced fs t l (a_place h)

-- one more piece
pub next_read : {all at : List Piece} {focus : Focus} {fs : List Frame} (p : Piece) → Reads focus fs all (p ∷ at) → IsRead all at (next focus fs p)
next_read {fs = fs} p (at_place l) = place_reads fs p l
next_read {fs = fs} closing (at_ended {s} fresh l h) = sequence_braced fs s fresh l (a_trailing h)
next_read {fs = fs} (name word) (at_ended {s} fresh l h) = place_reads (Before s ∷ fs) (name word) (line_before fresh l h)
next_read {fs = fs} if_word (at_ended {s} fresh l h) = place_reads (Before s ∷ fs) if_word (line_before fresh l h)
next_read else_word (at_ended fresh l h) = tt
next_read bar (at_ended fresh l h) = tt
next_read semicolon (at_ended fresh l h) = tt
next_read opening (at_ended fresh l h) = tt
next_read (name word) (at_test l) = at_opening word l
next_read if_word (at_test l) = tt
next_read else_word (at_test l) = tt
next_read bar (at_test l) = tt
next_read semicolon (at_test l) = tt
next_read opening (at_test l) = tt
next_read closing (at_test l) = tt
next_read opening (at_opening word l) = at_place (line_taken word l)
next_read (name w) (at_opening word l) = tt
next_read if_word (at_opening word l) = tt
next_read else_word (at_opening word l) = tt
next_read bar (at_opening word l) = tt
next_read semicolon (at_opening word l) = tt
next_read closing (at_opening word l) = tt
next_read {fs = fs} p (at_placed {p = t} l h) = after_place_read fs t p l h
next_read else_word (at_branch word l h) = at_otherwise word l h
next_read {fs = fs} (name w) (at_branch {e} word l h) = after_place_read fs (If (normal_form word) e None) (name w) l (read_if e word h)
next_read {fs = fs} if_word (at_branch {e} word l h) = after_place_read fs (If (normal_form word) e None) if_word l (read_if e word h)
next_read {fs = fs} bar (at_branch {e} word l h) = after_place_read fs (If (normal_form word) e None) bar l (read_if e word h)
next_read {fs = fs} semicolon (at_branch {e} word l h) = after_place_read fs (If (normal_form word) e None) semicolon l (read_if e word h)
next_read {fs = fs} opening (at_branch {e} word l h) = after_place_read fs (If (normal_form word) e None) opening l (read_if e word h)
next_read {fs = fs} closing (at_branch {e} word l h) = after_place_read fs (If (normal_form word) e None) closing l (read_if e word h)
next_read opening (at_otherwise word l h) = at_place (line_other word l h)
next_read (name w) (at_otherwise word l h) = tt
next_read if_word (at_otherwise word l h) = tt
next_read else_word (at_otherwise word l h) = tt
next_read bar (at_otherwise word l h) = tt
next_read semicolon (at_otherwise word l h) = tt
next_read closing (at_otherwise word l h) = tt

-- the text's end
end_read : {all : List Piece} {focus : Focus} {fs : List Frame} → Reads focus fs all [] → IsSpelled all (end_of focus fs)
end_read (at_place l) = tt
end_read {fs = fs} (at_ended {s} fresh l h) = sequence_whole fs s fresh l (a_trailing h)
end_read (at_test l) = tt
end_read (at_opening word l) = tt
end_read {fs = fs} (at_placed {p = t} l h) = feed_whole fs t l (a_place h)
end_read {fs = fs} (at_branch {e} word l h) = feed_whole fs (If (normal_form word) e None) l (a_place (read_if e word h))
end_read (at_otherwise word l h) = tt

chained : {A B : Type 0} (P : A → Type 0) (Q : B → Type 0) (f : A → Option B) (o : Option A) → IfSome o P → ((x : A) → P x → IfSome (f x) Q) → IfSome (option_and_then f o) Q
chained P Q f None h k = tt
chained P Q f (Some x) h k = k x h

pub run_sound : {all : List Piece} {focus : Focus} {fs : List Frame} (ps : List Piece) → Reads focus fs all ps → IsSpelled all (run focus fs ps)
run_sound [] h = end_read h
run_sound {all} {focus} {fs} (p ∷ ps) h = chained (λ s. Reads s.0 s.1 all ps) (λ e. IsSequence (pipe_tree e) all []) (λ s. run s.0 s.1 ps) (next focus fs p) (next_read p h) (λ s k. run_sound ps k)
