-- The reader gives what the text spells, or its first fault, and nothing else.
use Rattle.std.proofs.Common.{◌≡◌, ℕ, List, [], ◌∷◌, ◌++◌, Option, None, Some, Result, Ok, Err, All, MatchResult, ap, sym, ◌∙◌, subst, refl, arith, append_assoc, inl, inr}
use Rattle.std.specs.Prelude.{IfSome, option_and_then}
use Rattle.std.proofs.lemmas.List.{append-nil, map-append}
use Rattle.vr_pipe.specs.declared.faults.PipeFault.{PipeFault}
use Rattle.vr_pipe.specs.declared.faults.PipeFault.TheVariants.{Word, Expected, TooDeep, TooMany, OutOfMemory}
use Rattle.vr_pipe.specs.declared.trees.Tree.{Tree}
use Rattle.vr_pipe.specs.declared.parsing.Frame.{Frame}
use Rattle.vr_pipe.specs.declared.parsing.Focus.{Focus}
use Rattle.vr_pipe.specs.declared.parsing.Focus.TheVariants.{Place}
use Rattle.vr_pipe.specs.Trees.{pipe_tree}
use Rattle.vr_pipe.specs.Pieces.{Piece, IsPathWord, programs_in, tests_in, without_offsets}
use Rattle.vr_pipe.specs.Grammar.{IsSequence}
use Rattle.vr_pipe.specs.Faults.{IsPrefix, IsWithin, IsFine, IsWrong, HasFaultIn}
use Rattle.vr_base.specs.Checks.{◌>>=◌}
use Rattle.vr_pipe.specs.Found.{Found, found_with}
use Rattle.vr_pipe.specs.Parser.{next, end_of, run, State, is_test, state_with, advance, finish, parse_from, at_start}
use Rattle.vr_pipe.proofs.ParserSoundness.{at_place, line_start, run_sound}
use Rattle.vr_pipe.proofs.ParserCompleteness.{run_complete}
use Rattle.vr_pipe.proofs.ParserViability.{completes}
use Rattle.vr_pipe.proofs.FoundLemmas.{Passes, next_passes, Counted, counted_with, Counting, Complains, counted_within, programs_counted, tests_counted}

-- the pieces so far led the reader to a state
abbrev pub LeadsTo : List Piece → Focus → List Frame → Type 0
LeadsTo done focus fs = (more : List Piece) → run Place [] (done ++ more) ≡ run focus fs more

pub record Kept (done : List Piece) (s : State) : Type 0 where
  pub leads : LeadsTo done s.focus s.frames
  pub counted : Counted done (is_test s.focus) s.found

spelled : (ps : List Piece) (o : Option Tree) (tree : Tree) → IfSome o (λ e. IsSequence (pipe_tree e) ps []) → o ≡ Some tree → IsSequence (pipe_tree tree) ps []
spelled ps o tree h e = let P : Option Tree → Type 0 = λ x. IfSome x (λ t. IsSequence (pipe_tree t) ps []) in subst P e h

-- a tree that the reader gives is spelled
pub given_is_spelled : (ps : List Piece) (tree : Tree) → run Place [] ps ≡ Some tree → IsSequence (pipe_tree tree) ps []
given_is_spelled ps tree e = spelled ps (run Place [] ps) tree (run_sound ps (at_place line_start)) e

pub leads_prefix : (done : List Piece) (focus : Focus) (fs : List Frame) → LeadsTo done focus fs → IsPrefix done
leads_prefix done focus fs h = let c = completes focus fs in
    (c.more, (pipe_tree c.tree, given_is_spelled (done ++ c.more) c.tree (h c.more ∙ c.gives)))

pub kept_fine : (done : List Piece) (s : State) → Kept done s → IsFine done
kept_fine done s k = record { prefix = leads_prefix done s.focus s.frames k.leads; words = k.counted.words; within = counted_within k.counted }

abbrev go_on : List Piece → Focus × List Frame → Option Tree
go_on ps t = run t.0 t.1 ps

leads_one : (done : List Piece) (focus : Focus) (fs : List Frame) (p : Piece) (more : List Piece) (o : Option (Focus × List Frame)) → LeadsTo done focus fs → next focus fs p ≡ o
    → run Place [] ((done ++ p ∷ []) ++ more) ≡ option_and_then (go_on more) o
leads_one done focus fs p more o h e = ap (run Place []) (append_assoc done (p ∷ []) more) ∙ h (p ∷ more) ∙ ap (option_and_then (go_on more)) e

-- where the reader refuses a piece no pipeline goes on with it
no_prefix : (done : List Piece) (focus : Focus) (fs : List Frame) (p : Piece) → LeadsTo done focus fs → next focus fs p ≡ None → IsPrefix (done ++ p ∷ []) → ⊥
no_prefix done focus fs p h e prefix =
    let gives = run_complete prefix.1.1 in
    let stops = leads_one done focus fs p prefix.0 None h e in
    cc

-- the next state, or what is wrong with the piece
abbrev pub Advances : ℕ → List Piece → Piece → Result State PipeFault → Type 0
Advances at done p r = MatchResult r (λ s. Kept (done ++ p ∷ []) s) (λ f. IsWrong f done at p)

complains_wrong : (at : ℕ) (done : List Piece) (p : Piece) (f : PipeFault) → IsPrefix (done ++ p ∷ []) → Complains f done at p → IsWrong f done at p
complains_wrong at done p (Word n) prefix h = (h.0, prefix, h.1)
complains_wrong at done p (TooMany n) prefix h = (h.0, prefix, h.1, h.2)
complains_wrong at done p (Expected n) prefix h = absurd h
complains_wrong at done p (TooDeep n) prefix h = absurd h
complains_wrong at done p OutOfMemory prefix h = absurd h

counted_advances : (at : ℕ) (done : List Piece) (p : Piece) (t : Focus × List Frame) → LeadsTo (done ++ p ∷ []) t.0 t.1 → (r : Result Found PipeFault) → Counting at done p (is_test t.0) r
    → Advances at done p (r >>= λ found. Ok (record { focus = t.0; frames = t.1; found = found }))
counted_advances at done p t leads (Ok found) h = record { leads = leads; counted = h }
counted_advances at done p t leads (Err f) h = complains_wrong at done p f (leads_prefix (done ++ p ∷ []) t.0 t.1 leads) h

state_advances : (at : ℕ) (done : List Piece) (s : State) (p : Piece) → Kept done s → (o : Option (Focus × List Frame)) → next s.focus s.frames p ≡ o → IfSome o (λ t. Passes (is_test s.focus) p (is_test t.0))
    → Advances at done p (state_with at (is_test s.focus) s.found p o)
state_advances at done s p k None e passes = (refl, no_prefix done s.focus s.frames p k.leads e)
state_advances at done s p k (Some t) e passes =
    counted_advances at done p t (λ more. leads_one done s.focus s.frames p more (Some t) k.leads e) (found_with at (is_test s.focus) s.found p) (counted_with at done s.found passes k.counted)

pub advances : (at : ℕ) (done : List Piece) (s : State) (p : Piece) → Kept done s → Advances at done p (advance at s p)
advances at done s p k = state_advances at done s p k (next s.focus s.frames p) refl (next_passes s.focus s.frames p)

-- What the reader gave at the end of the pieces.
pub record Given (ps : List Piece) (tree : Tree) (found : Found) : Type 0 where
  pub grammar : IsSequence (pipe_tree tree) ps []
  pub words : All IsPathWord ps
  pub within : IsWithin ps
  pub programs : found.programs ≡ programs_in ps
  pub tests : found.tests ≡ tests_in ps

-- what reading means for all the pieces of a text of a length
abbrev pub Means : ℕ → List (ℕ × Piece) → Result (Tree × Found) PipeFault → Type 0
Means end all r = MatchResult r (λ x. Given (without_offsets all) x.0 x.1) (λ f. HasFaultIn end all f)

end_means : (end : ℕ) (all : List (ℕ × Piece)) (s : State) → Kept (without_offsets all) s → (o : Option Tree) → end_of s.focus s.frames ≡ o → Means end all (finish end s.found o)
end_means end all s k None e = inr (record {
  fault_is = refl;
  fine = kept_fine (without_offsets all) s k;
  early = λ w. let gives = run_complete w.1 in let stops : run Place [] (without_offsets all) ≡ None = ap (run Place []) (sym (append-nil (without_offsets all))) ∙ k.leads [] ∙ e in cc;
})
end_means end all s k (Some tree) e = record {
  grammar = given_is_spelled (without_offsets all) tree (ap (run Place []) (sym (append-nil (without_offsets all))) ∙ k.leads [] ∙ e);
  words = k.counted.words;
  within = counted_within k.counted;
  programs = sym (programs_counted k.counted);
  tests = sym (tests_counted k.counted);
}

without-push : (done : List (ℕ × Piece)) (p : ℕ × Piece) → without_offsets done ++ p.1 ∷ [] ≡ without_offsets (done ++ p ∷ [])
without-push done p = sym (map-append (λ (q : ℕ × Piece). q.1) done (p ∷ []))

kept_along : (a b : List Piece) (s : State) → a ≡ b → Kept a s → Kept b s
kept_along a b s e k = let P : List Piece → Type 0 = λ x. Kept x s in subst P e k

mutual_step : (end : ℕ) (ps done : List (ℕ × Piece)) (p : ℕ × Piece) → ((s : State) → Kept (without_offsets (done ++ p ∷ [])) s → Means end ((done ++ p ∷ []) ++ ps) (parse_from end s ps))
    → (s : State) → Kept (without_offsets done) s → (r : Result State PipeFault) → Advances p.0 (without_offsets done) p.1 r → Means end (done ++ p ∷ ps) (r >>= λ t. parse_from end t ps)
mutual_step end ps done p go s k (Ok t) h =
    let P : List (ℕ × Piece) → Type 0 = λ all. Means end all (parse_from end t ps) in
    subst P (append_assoc done (p ∷ []) ps) (go t (kept_along _ _ t (without-push done p) h))
mutual_step end ps done p go s k (Err f) h =
    inl (p.0, p.1, done, ps, record { whole = refl; fine = kept_fine (without_offsets done) s k; wrong = h })

pub reading_means : (end : ℕ) (ps done : List (ℕ × Piece)) (s : State) → Kept (without_offsets done) s → Means end (done ++ ps) (parse_from end s ps)
reading_means end [] done s k =
    let P : List (ℕ × Piece) → Type 0 = λ all. Means end all (parse_from end s []) in
    subst P (sym (append-nil done)) (end_means end done s k (end_of s.focus s.frames) refl)
reading_means end (p ∷ ps) done s k =
    mutual_step end ps done p (λ t kept. reading_means end ps (done ++ p ∷ []) t kept) s k (advance p.0 s p.1) (advances p.0 (without_offsets done) s p.1 k)

pub kept_at_start : Kept [] at_start
kept_at_start = record {
  leads = λ more. refl;
  counted = record {
    words = λ n d h. absurd (omega arith);
    programs = λ more. refl;
    tests = λ more. refl;
    ifs = λ more. omega arith;
    few_programs = omega arith;
    few_ifs = omega arith;
  };
}

-- what reading gives from the start
pub all_means : (end : ℕ) (all : List (ℕ × Piece)) → Means end all (parse_from end at_start all)
all_means end all = reading_means end all [] at_start kept_at_start
