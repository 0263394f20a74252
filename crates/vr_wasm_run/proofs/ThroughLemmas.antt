-- What a row at the innermost place of a term makes of the whole.
use Rattle.std.proofs.Common.{ℕ, zero, suc, ◌≡◌, List, [], ◌∷◌, ◌++◌, length, take, Option, Some, None, if◌then◌else◌, nat_le, refl, ap, sym, ◌∙◌, inl, inr}
use Rattle.std.proofs.lemmas.Bool.Decides.{leb_tells, eqb_tells}
use Rattle.std.proofs.lemmas.List.{append-nil}
use Rattle.vr_wasm_ast.specs.declared.instr.Instr.{Instr}
use Rattle.vr_wasm_ast.specs.Instructions.{instruction_of, instructions_of}
use Rattle.vr_wasm_steps.specs.Rows.{Program, Config, Outcome, stepped, finished, branching, returning, exited, traps_with, no_row, goes, takes_along, in_label, in_frame, walk, step, lost, next_of, next}
use Rattle.vr_wasm_steps.specs.Store.{Store}
use Rattle.vr_wasm_steps.specs.Terms.{Term, end, value, plain, label, frame, plains, unwind}
use Rattle.vr_wasm_stacks.specs.Positions.{Layer, in_label as label_layer, in_frame as frame_layer, Position, close, term_of, IsRooted, jump_from, depth, left}

pub unwind-append : (xs ys : List ℕ) (s : Term) → unwind (xs ++ ys) s ≡ unwind ys (unwind xs s)
unwind-append [] ys s = refl
unwind-append (x ∷ xs) ys s = unwind-append xs ys (value x s)

pub plains-append : (xs ys : List Instr) (s : Term) → plains (instructions_of (xs ++ ys)) s ≡ plains (instructions_of xs) (plains (instructions_of ys) s)
plains-append [] ys s = refl
plains-append (x ∷ xs) ys s = ap (plain (instruction_of x)) (plains-append xs ys s)

module _ {W : Type 0} (p : Program W) (k : Config W) where
  pub walk-unwind : (ls acc vs : List ℕ) (s : Term) → walk p k ls acc (unwind vs s) ≡ walk p k ls (vs ++ acc) s
  unfolding walk
  walk-unwind ls acc [] s = refl
  walk-unwind ls acc (v ∷ vs) s = walk-unwind ls acc vs (value v s)

  walk-inside : (ls vs : List ℕ) (s : Term) → walk p k ls [] (unwind vs s) ≡ walk p k ls vs s
  walk-inside ls vs s = walk-unwind ls [] vs s ∙ ap (λ x. walk p k ls x s) (append-nil vs)

  -- an outcome inside the layers, whose innermost frame has these locals, as an outcome of the whole
  unfoldable pub through : List Layer → List ℕ → Outcome W → Outcome W
  through [] ls o = o
  through (label_layer n onward vs after ∷ layers) ls o = through layers ls (in_label k ls vs n (instructions_of onward) (plains (instructions_of after) end) o)
  through (frame_layer n vs after outer ∷ layers) ls o = through layers outer (in_frame k outer vs n (plains (instructions_of after) end) o)

  pub walk-close : (layers : List Layer) (ls : List ℕ) (s : Term) → IsRooted layers ls → walk p k [] [] (close layers ls s) ≡ through layers ls (walk p k ls [] s)
  unfolding walk close through
  walk-close [] ls s r = ap (λ x. walk p k x [] s) (sym r)
  walk-close (label_layer n onward vs after ∷ layers) ls s r =
      walk-close layers ls (unwind vs (label n (instructions_of onward) s (plains (instructions_of after) end))) r
      ∙ ap (through layers ls) (walk-inside ls vs (label n (instructions_of onward) s (plains (instructions_of after) end)))
  walk-close (frame_layer n vs after outer ∷ layers) ls s r =
      walk-close layers outer (unwind vs (frame n ls s (plains (instructions_of after) end))) r
      ∙ ap (through layers outer) (walk-inside outer vs (frame n ls s (plains (instructions_of after) end)))

  -- what comes next of the whole
  pub next-through : (z : Position) → k.term ≡ term_of z → IsRooted z.layers z.locals
      → next p k ≡ next_of p k k.calls (through z.layers z.locals (walk p k z.locals z.operands (plains (instructions_of z.code) end)))
  next-through z e r =
      ap (λ t. next_of p k k.calls (walk p k [] [] t)) e
      ∙ ap (next_of p k k.calls) (walk-close z.layers z.locals (unwind z.operands (plains (instructions_of z.code) end)) r)
      ∙ ap (λ o. next_of p k k.calls (through z.layers z.locals o)) (walk-inside z.locals z.operands (plains (instructions_of z.code) end))

  pub through-stepped : (layers : List Layer) (ls now : List ℕ) (cost : ℕ) (m : Store) (w : W) (s : Term)
      → next_of p k k.calls (through layers ls (stepped cost m w now s)) ≡ step cost (record { store = m; world = w; term = close layers now s; calls = k.calls })
  unfolding through close
  through-stepped [] ls now cost m w s = refl
  through-stepped (label_layer n onward vs after ∷ layers) ls now cost m w s = through-stepped layers ls now cost m w (unwind vs (label n (instructions_of onward) s (plains (instructions_of after) end)))
  through-stepped (frame_layer n vs after outer ∷ layers) ls now cost m w s = through-stepped layers outer outer cost m w (unwind vs (frame n now s (plains (instructions_of after) end)))

  pub through-traps : (layers : List Layer) (ls : List ℕ) (kind : ℕ) → through layers ls (traps_with kind) ≡ traps_with kind
  unfolding through
  through-traps [] ls kind = refl
  through-traps (label_layer n onward vs after ∷ layers) ls kind = through-traps layers ls kind
  through-traps (frame_layer n vs after outer ∷ layers) ls kind = through-traps layers outer kind

  pub through-exited : (layers : List Layer) (ls : List ℕ) (code : ℕ) (w : W) → through layers ls (exited code w) ≡ exited code w
  unfolding through
  through-exited [] ls code w = refl
  through-exited (label_layer n onward vs after ∷ layers) ls code w = through-exited layers ls code w
  through-exited (frame_layer n vs after outer ∷ layers) ls code w = through-exited layers outer code w

  pub through-no_row : (layers : List Layer) (ls : List ℕ) → through layers ls no_row ≡ no_row
  unfolding through
  through-no_row [] ls = refl
  through-no_row (label_layer n onward vs after ∷ layers) ls = through-no_row layers ls
  through-no_row (frame_layer n vs after outer ∷ layers) ls = through-no_row layers outer

  -- the configuration at another position
  abbrev pub moved : Position → Config W
  moved z = record k { term = term_of z }

  -- a step of cost one to this position, or no row where there is none
  pub data Moves (o : Outcome W) (z : Option Position) : Type 0 where
    moves : (z' : Position) → z ≡ Some z' → next_of p k k.calls o ≡ step 1 (moved z') → Moves o z
    stays : z ≡ None → next_of p k k.calls o ≡ lost → Moves o z

  gone : (layers : List Layer) (ls : List ℕ) → next_of p k k.calls (through layers ls no_row) ≡ lost
  gone layers ls = ap (next_of p k k.calls) (through-no_row layers ls)

  along : (layers : List Layer) (ls : List ℕ) (n : ℕ) (operands vs : List ℕ) (s : Term) (code : List Instr) → s ≡ plains (instructions_of code) end
      → Moves (through layers ls (takes_along k ls n operands vs s)) (if nat_le n (length operands) then Some (record { layers = layers; locals = ls; operands = take n operands ++ vs; code = code }) else None)
  along layers ls n operands vs s code e =
      let found : Option Position = Some (record { layers = layers; locals = ls; operands = take n operands ++ vs; code = code }) in
      let there : Outcome W = goes k ls (unwind vs (unwind (take n operands) s)) in
      elim (leb_tells n (length operands)) [
        | inl t ↦ moves (record { layers = layers; locals = ls; operands = take n operands ++ vs; code = code }) (ap (λ b. if b then found else None) t.0)
            (ap (λ b. next_of p k k.calls (through layers ls (if b then there else no_row))) t.0
            ∙ through-stepped layers ls ls 1 k.store k.world (unwind vs (unwind (take n operands) s))
            ∙ ap (λ x. step 1 (record k { term = close layers ls (unwind vs (unwind (take n operands) x)) })) e
            ∙ ap (λ x. step 1 (record k { term = close layers ls x })) (sym (unwind-append (take n operands) vs (plains (instructions_of code) end))))
        | inr t ↦ stays (ap (λ b. if b then found else None) t.0) (ap (λ b. next_of p k k.calls (through layers ls (if b then there else no_row))) t.0 ∙ gone layers ls)
      ]

  -- a branch
  pub branches : (layers : List Layer) (ls operands : List ℕ) (l : ℕ) → Moves (through layers ls (branching l operands)) (jump_from layers ls operands l)
  unfolding through
  branches [] ls operands l = stays refl refl
  branches (label_layer n onward vs after ∷ layers) ls operands zero =
      along layers ls n operands vs (plains (instructions_of onward) (plains (instructions_of after) end)) (onward ++ after) (sym (plains-append onward after end))
  branches (label_layer n onward vs after ∷ layers) ls operands (suc l) = branches layers ls operands l
  branches (frame_layer n vs after outer ∷ layers) ls operands zero = along layers outer n operands vs (plains (instructions_of after) end) after refl
  branches (frame_layer n vs after outer ∷ layers) ls operands (suc l) = stays refl (gone layers outer)

  -- a return is a branch to the function's own label
  pub returns : (layers : List Layer) (ls operands : List ℕ) → Moves (through layers ls (returning operands)) (jump_from layers ls operands (depth layers))
  unfolding through
  returns [] ls operands = stays refl refl
  returns (label_layer n onward vs after ∷ layers) ls operands = returns layers ls operands
  returns (frame_layer n vs after outer ∷ layers) ls operands = along layers outer n operands vs (plains (instructions_of after) end) after refl

  -- the end of a block or a function
  pub ends : (layer : Layer) (layers : List Layer) (ls operands : List ℕ) → Moves (through (layer ∷ layers) ls (finished operands)) (left (layer ∷ layers) ls operands)
  unfolding through
  ends (label_layer n onward vs after) layers ls operands =
      moves (record { layers = layers; locals = ls; operands = operands ++ vs; code = after }) refl
      (through-stepped layers ls ls 1 k.store k.world (unwind vs (unwind operands (plains (instructions_of after) end)))
      ∙ ap (λ x. step 1 (record k { term = close layers ls x })) (sym (unwind-append operands vs (plains (instructions_of after) end))))
  ends (frame_layer n vs after outer) layers ls operands =
      let found : Option Position = Some (record { layers = layers; locals = outer; operands = operands ++ vs; code = after }) in
      let there : Outcome W = goes k outer (unwind vs (unwind operands (plains (instructions_of after) end))) in
      elim (eqb_tells (length operands) n) [
        | inl t ↦ moves (record { layers = layers; locals = outer; operands = operands ++ vs; code = after }) (ap (λ b. if b then found else None) t.0)
            (ap (λ b. next_of p k k.calls (through layers outer (if b then there else no_row))) t.0
            ∙ through-stepped layers outer outer 1 k.store k.world (unwind vs (unwind operands (plains (instructions_of after) end)))
            ∙ ap (λ x. step 1 (record k { term = close layers outer x })) (sym (unwind-append operands vs (plains (instructions_of after) end))))
        | inr t ↦ stays (ap (λ b. if b then found else None) t.0) (ap (λ b. next_of p k k.calls (through layers outer (if b then there else no_row))) t.0 ∙ gone layers outer)
      ]
