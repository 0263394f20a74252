-- What is spelled is given, and the first fault is answered: no text has two.
use Rattle.std.proofs.Common.{◌≡◌, ℕ, ◌≤◌, List, [], ◌∷◌, ◌++◌, length, Option, None, Some, Result, Ok, Err, All, ap, sym, ◌∙◌, subst, refl, arith, append_assoc, inl, inr}
use Rattle.std.proofs.lemmas.List.{append-nil}
use Rattle.std.proofs.lemmas.List.Elements.{All-head, All-tail, All-cons}
use Rattle.vr_pipe.specs.declared.faults.PipeFault.{PipeFault}
use Rattle.vr_pipe.specs.declared.faults.PipeFault.TheVariants.{Word, Expected, TooDeep, TooMany, OutOfMemory}
use Rattle.vr_pipe.specs.declared.trees.Tree.{Tree}
use Rattle.vr_pipe.specs.declared.parsing.Focus.TheVariants.{Place}
use Rattle.vr_pipe.specs.Trees.{PipeTree, pipe_tree}
use Rattle.vr_pipe.specs.Pieces.{Piece, name, if_word, else_word, bar, semicolon, opening, closing, IsPathWord, programs_in, ifs_in, without_offsets}
use Rattle.vr_pipe.specs.Grammar.{IsSequence}
use Rattle.vr_pipe.specs.Faults.{IsWhole, IsPrefix, IsWithin, IsFine, IsWrong, HasFaultIn}
use Rattle.vr_base.specs.Checks.{◌>>=◌}
use Rattle.vr_pipe.specs.Found.{Found}
use Rattle.vr_pipe.specs.Parser.{end_of, run, State, advance, finish, parse_from, at_start}
use Rattle.vr_pipe.proofs.ParserCompleteness.{tree_of, run_complete}
use Rattle.vr_pipe.proofs.ParserAnswers.{Kept, Advances, advances, kept_fine, kept_at_start, given_is_spelled}

prefix_of : (xs ys : List Piece) → IsPrefix (xs ++ ys) → IsPrefix xs
prefix_of xs ys h = let P : List Piece → Type 0 = λ ps. IsWhole ps in (ys ++ h.0, subst P (append_assoc xs ys h.0) h.1)

words_of : (xs ys : List Piece) → All IsPathWord (xs ++ ys) → All IsPathWord xs
words_of [] ys h = λ n d k. absurd (omega arith)
words_of (x ∷ xs) ys h = All-cons IsPathWord x xs (All-head IsPathWord x (xs ++ ys) h) (words_of xs ys (All-tail IsPathWord x (xs ++ ys) h))

last_word : (xs : List Piece) (p : Piece) → All IsPathWord (xs ++ p ∷ []) → IsPathWord p
last_word [] p h = All-head IsPathWord p [] h
last_word (x ∷ xs) p h = last_word xs p (All-tail IsPathWord x (xs ++ p ∷ []) h)

fewer_programs : (xs ys : List Piece) → length (programs_in xs) ≤ length (programs_in (xs ++ ys))
fewer_programs [] ys = omega arith
fewer_programs (if_word ∷ []) ys = omega arith
fewer_programs (if_word ∷ name word ∷ xs) ys = fewer_programs xs ys
fewer_programs (if_word ∷ if_word ∷ xs) ys = fewer_programs (if_word ∷ xs) ys
fewer_programs (if_word ∷ else_word ∷ xs) ys = fewer_programs xs ys
fewer_programs (if_word ∷ bar ∷ xs) ys = fewer_programs xs ys
fewer_programs (if_word ∷ semicolon ∷ xs) ys = fewer_programs xs ys
fewer_programs (if_word ∷ opening ∷ xs) ys = fewer_programs xs ys
fewer_programs (if_word ∷ closing ∷ xs) ys = fewer_programs xs ys
fewer_programs (name word ∷ xs) ys = omega (arith, fewer_programs xs ys)
fewer_programs (else_word ∷ xs) ys = fewer_programs xs ys
fewer_programs (bar ∷ xs) ys = fewer_programs xs ys
fewer_programs (semicolon ∷ xs) ys = fewer_programs xs ys
fewer_programs (opening ∷ xs) ys = fewer_programs xs ys
fewer_programs (closing ∷ xs) ys = fewer_programs xs ys

fewer_ifs : (xs ys : List Piece) → ifs_in xs ≤ ifs_in (xs ++ ys)
fewer_ifs [] ys = omega arith
fewer_ifs (if_word ∷ xs) ys = omega (arith, fewer_ifs xs ys)
fewer_ifs (name word ∷ xs) ys = fewer_ifs xs ys
fewer_ifs (else_word ∷ xs) ys = fewer_ifs xs ys
fewer_ifs (bar ∷ xs) ys = fewer_ifs xs ys
fewer_ifs (semicolon ∷ xs) ys = fewer_ifs xs ys
fewer_ifs (opening ∷ xs) ys = fewer_ifs xs ys
fewer_ifs (closing ∷ xs) ys = fewer_ifs xs ys

-- where nothing is wrong with pieces, nothing is with the first of them
fine_of : (xs ys : List Piece) → IsFine (xs ++ ys) → IsFine xs
fine_of xs ys h = record {
  prefix = prefix_of xs ys h.prefix;
  words = words_of xs ys h.words;
  within = record { programs = omega (arith, h.within.programs, fewer_programs xs ys); ifs = omega (arith, h.within.ifs, fewer_ifs xs ys) };
}

not_wrong : (f : PipeFault) (done : List Piece) (at : ℕ) (p : Piece) → IsFine (done ++ p ∷ []) → IsWrong f done at p → ⊥
not_wrong (Expected n) done at p fine h = h.1 fine.prefix
not_wrong (Word n) done at p fine h = h.2 (last_word done p fine.words)
not_wrong (TooMany n) done at p fine h = h.3 fine.within
not_wrong (TooDeep n) done at p fine h = h
not_wrong OutOfMemory done at p fine h = h

-- a piece has one fault
one_wrong : (f g : PipeFault) (done : List Piece) (at : ℕ) (p : Piece) → IsWrong f done at p → IsWrong g done at p → f ≡ g
one_wrong (Expected n) (Expected m) done at p h k = ap Expected (h.0 ∙ sym k.0)
one_wrong (Expected n) (Word m) done at p h k = absurd (h.1 k.1)
one_wrong (Expected n) (TooMany m) done at p h k = absurd (h.1 k.1)
one_wrong (Expected n) (TooDeep m) done at p h k = absurd k
one_wrong (Expected n) OutOfMemory done at p h k = absurd k
one_wrong (Word n) (Expected m) done at p h k = absurd (k.1 h.1)
one_wrong (Word n) (Word m) done at p h k = ap Word (h.0 ∙ sym k.0)
one_wrong (Word n) (TooMany m) done at p h k = absurd (h.2 k.2)
one_wrong (Word n) (TooDeep m) done at p h k = absurd k
one_wrong (Word n) OutOfMemory done at p h k = absurd k
one_wrong (TooMany n) (Expected m) done at p h k = absurd (k.1 h.1)
one_wrong (TooMany n) (Word m) done at p h k = absurd (k.2 h.2)
one_wrong (TooMany n) (TooMany m) done at p h k = ap TooMany (h.0 ∙ sym k.0)
one_wrong (TooMany n) (TooDeep m) done at p h k = absurd k
one_wrong (TooMany n) OutOfMemory done at p h k = absurd k
one_wrong (TooDeep n) g done at p h k = absurd h
one_wrong OutOfMemory g done at p h k = absurd h

-- the reader comes through pieces with which nothing is wrong
pub record Along (end : ℕ) (s : State) (before rest : List (ℕ × Piece)) (done : List Piece) : Type 0 where
  pub state : State
  pub kept : Kept done state
  pub goes : parse_from end s (before ++ rest) ≡ parse_from end state rest

along_same : (end : ℕ) (s : State) (before rest : List (ℕ × Piece)) (a b : List Piece) → a ≡ b → Along end s before rest a → Along end s before rest b
along_same end s before rest a b e h = let P : List Piece → Type 0 = λ x. Along end s before rest x in subst P e h

along_step : (end : ℕ) (s : State) (p : ℕ × Piece) (before rest : List (ℕ × Piece)) (done : List Piece) → IsFine (done ++ p.1 ∷ [])
    → ((t : State) → Kept (done ++ p.1 ∷ []) t → Along end t before rest ((done ++ p.1 ∷ []) ++ without_offsets before))
    → (r : Result State PipeFault) → advance p.0 s p.1 ≡ r → Advances p.0 done p.1 r → Along end s (p ∷ before) rest ((done ++ p.1 ∷ []) ++ without_offsets before)
along_step end s p before rest done fine go (Ok t) e h = let a = go t h in
    record { state = a.state; kept = a.kept; goes = ap (λ r. r >>= λ u. parse_from end u (before ++ rest)) e ∙ a.goes }
along_step end s p before rest done fine go (Err f) e h = absurd (not_wrong f done p.0 p.1 fine h)

along : (end : ℕ) (before rest : List (ℕ × Piece)) (done : List Piece) (s : State) → Kept done s → IsFine (done ++ without_offsets before) → Along end s before rest (done ++ without_offsets before)
along end [] rest done s k fine = along_same end s [] rest _ _ (sym (append-nil done)) (record { state = s; kept = k; goes = refl })
along end (p ∷ before) rest done s k fine =
    let same : done ++ p.1 ∷ without_offsets before ≡ (done ++ p.1 ∷ []) ++ without_offsets before = sym (append_assoc done (p.1 ∷ []) (without_offsets before)) in
    let whole : IsFine ((done ++ p.1 ∷ []) ++ without_offsets before) = subst IsFine same fine in
    along_same end s (p ∷ before) rest _ _ (sym same)
    (along_step end s p before rest done (fine_of (done ++ p.1 ∷ []) (without_offsets before) whole)
    (λ t kept. along end before rest (done ++ p.1 ∷ []) t kept whole) (advance p.0 s p.1) refl (advances p.0 done s p.1 k))

stop_read : (end : ℕ) (f : PipeFault) (done : List Piece) (at : ℕ) (p : Piece) (after : List (ℕ × Piece)) → IsWrong f done at p → (r : Result State PipeFault) → Advances at done p r
    → (r >>= λ t. parse_from end t after) ≡ Err f
stop_read end f done at p after wrong (Ok t) h = absurd (not_wrong f done at p (kept_fine (done ++ p ∷ []) t h) wrong)
stop_read end f done at p after wrong (Err g) h = ap Err (one_wrong g f done at p h wrong)

end_none : (ps : List Piece) (s : State) → Kept ps s → (IsWhole ps → ⊥) → (o : Option Tree) → end_of s.focus s.frames ≡ o → o ≡ None
end_none ps s k early None e = refl
end_none ps s k early (Some tree) e = absurd (early (pipe_tree tree, given_is_spelled ps tree (ap (run Place []) (sym (append-nil ps)) ∙ k.leads [] ∙ e)))

-- the first fault is the one that the reader answers
pub fault_read : (end : ℕ) (all : List (ℕ × Piece)) (f : PipeFault) → HasFaultIn end all f → parse_from end at_start all ≡ Err f
fault_read end all f (inl stop) =
    let s = stop.4 in
    let a = along end stop.2 ((stop.0, stop.1) ∷ stop.3) [] at_start kept_at_start s.fine in
    ap (parse_from end at_start) s.whole ∙ a.goes
    ∙ stop_read end f (without_offsets stop.2) stop.0 stop.1 stop.3 s.wrong (advance stop.0 a.state stop.1) (advances stop.0 (without_offsets stop.2) a.state stop.1 a.kept)
fault_read end all f (inr early) =
    let a = along end all [] [] at_start kept_at_start early.fine in
    ap (parse_from end at_start) (sym (append-nil all)) ∙ a.goes
    ∙ ap (finish end a.state.found) (end_none (without_offsets all) a.state a.kept early.early (end_of a.state.focus a.state.frames) refl) ∙ ap Err (sym early.fault_is)

-- what is spelled is given
pub spelled_read : (end : ℕ) (all : List (ℕ × Piece)) (e : PipeTree) → IsSequence e (without_offsets all) [] → All IsPathWord (without_offsets all) → IsWithin (without_offsets all)
    → (found : Found) × (parse_from end at_start all ≡ Ok (tree_of e, found))
spelled_read end all e h words within =
    let P : List Piece → Type 0 = λ ps. IsSequence e ps [] in
    let fine : IsFine (without_offsets all) = record { prefix = ([], (e, subst P (sym (append-nil (without_offsets all))) h)); words = words; within = within } in
    let a = along end all [] [] at_start kept_at_start fine in
    let tree : end_of a.state.focus a.state.frames ≡ Some (tree_of e) = sym (a.kept.leads []) ∙ ap (run Place []) (append-nil (without_offsets all)) ∙ run_complete h in
    (a.state.found, ap (parse_from end at_start) (sym (append-nil all)) ∙ a.goes ∙ ap (finish end a.state.found) tree)
