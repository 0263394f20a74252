-- Where a branch lands in the two stacks.
use Rattle.std.proofs.Common.{ℕ, zero, suc, ◌+◌, ◌-◌, ◌≡◌, ◌≤◌, ◌<◌, List, [], ◌∷◌, ◌++◌, length, take, drop, reverse, get_or, Option, Some, None, IsSome, if◌then◌else◌, refl, ap, sym, ◌∙◌, subst, arith, inl, inr}
use Rattle.std.proofs.lemmas.Bool.Decides.{leb_tells}
use Rattle.std.proofs.lemmas.List.{take-append-drop, take-take, take-append-le, drop-append-le, length-append, length-take-le, length-take, length-drop, length-reverse, reverse-append, reverse-reverse, take_more, drop_at}
use Rattle.vr_wasm_ast.specs.declared.instr.Instr.{Instr}
use Rattle.vr_wasm_stacks.specs.declared.control.Control.{Control}
use Rattle.vr_wasm_stacks.specs.declared.control.Control.TheVariants.{Block, Call}
use Rattle.vr_wasm_stacks.specs.Flat.{height, operands, locals, layers, position, continuation, calls, Rises, Keeps}
use Rattle.vr_wasm_stacks.specs.Positions.{Position, Layer, taken_along, jump_from, jump}
use Rattle.vr_wasm_stacks.proofs.CountLemmas.{length-operands, height_within}
use Rattle.vr_wasm_stacks.proofs.FlatLemmas.{last_operands, position-above, rises_above}

-- how many values a branch to an entry takes along, where its part of the values begins, where the branch goes on, and how many frames it leaves
abbrev pub arity_of : Control → ℕ
arity_of (Block n target rest h) = n
arity_of (Call n rest b h caller outer) = n

abbrev pub base_of : Control → ℕ
base_of (Block n target rest h) = h
base_of (Call n rest b h caller outer) = b

abbrev pub goes_on : Control → List Instr
goes_on (Block n target rest h) = target.now
goes_on (Call n rest b h caller outer) = rest.now

abbrev pub frames_left : Control → ℕ
frames_left (Block n target rest h) = 0
frames_left (Call n rest b h caller outer) = 1

-- what is kept below the entry
abbrev pub KeepsBelow : List Control → ℕ → ℕ → Control → Type 0
KeepsBelow es place base (Block n target rest h) = Keeps es place base
KeepsBelow es place base (Call n rest b h caller outer) = Keeps es caller outer

-- a branch with these operands lands at z, below the entry x
pub record Landing (es : List Control) (st ops : List ℕ) (place base : ℕ) (x : Control) (below : List Control) (z : Position) : Type 0 where
  pub enough : arity_of x ≤ length ops
  pub under : base_of x ≤ height es
  pub lower : height below ≤ base_of x
  pub rises : Rises below (take (base_of x) st)
  pub lands : z ≡ record { layers = layers below (take (base_of x) st); locals = locals below (take (base_of x) st); operands = take (arity_of x) ops ++ operands below (take (base_of x) st); code = goes_on x }
  pub keeps : KeepsBelow below place base x
  pub counted : frames_left x + calls below ≡ calls es

-- it is there, and the values are enough
taken : (ls : List Layer) (locs : List ℕ) (n : ℕ) (ops vs : List ℕ) (code : List Instr) (z : Position) → taken_along ls locs n ops vs code ≡ Some z
    → (n ≤ length ops) × (z ≡ record { layers = ls; locals = locs; operands = take n ops ++ vs; code = code })
taken ls locs n ops vs code z e =
    let found : Option Position = Some (record { layers = ls; locals = locs; operands = take n ops ++ vs; code = code }) in
    elim (leb_tells n (length ops)) [
      | inl t ↦
          let same : found ≡ Some z = sym (ap (λ b. if b then found else None) t.0) ∙ e in
          (t.1, cc)
      | inr t ↦
          let none : None ≡ Some z = sym (ap (λ b. if b then found else None) t.0) ∙ e in
          absurd (cc)
    ]

-- the target is what stands before the rest, and the rest
whole : (target rest : List Instr) → drop (length target - length rest) target ≡ rest → continuation target rest ++ rest ≡ target
whole target rest e = ap (λ z. continuation target rest ++ z) (sym e) ∙ take-append-drop (length target - length rest) target

widened : (es : List Control) (st ops : List ℕ) (place base : ℕ) (x : Control) (below : List Control) (z : Position) (h : ℕ) (es' : List Control) → height es ≤ h → h ≤ height es' → calls es ≡ calls es'
    → Landing es (take h st) ops place base x below z → Landing es' st ops place base x below z
widened es st ops place base x below z h es' a b c l =
    let same : take (base_of x) (take h st) ≡ take (base_of x) st = take-take (base_of x) h st (omega (arith, l.under)) in
    record {
      enough = l.enough;
      under = omega (arith, l.under);
      lower = l.lower;
      rises = subst (Rises below) same l.rises;
      lands = l.lands ∙ ap (λ s. record { layers = layers below s; locals = locals below s; operands = take (arity_of x) ops ++ operands below s; code = goes_on x }) same;
      keeps = l.keeps;
      counted = l.counted ∙ c;
    }

pub landing : (es : List Control) (st ops : List ℕ) (place base l : ℕ) (x : Control) (below : List Control) (z : Position)
    → Rises es st → Keeps es place base → jump_from (layers es st) (locals es st) ops l ≡ Some z → drop l es ≡ x ∷ below → Landing es st ops place base x below z
landing [] st ops place base l x below z r k e d = absurd (cc)
landing (Block n target rest h ∷ es) st ops place base zero x below z r k e d =
    let t = taken (layers es (take h st)) (locals es (take h st)) n ops (operands es (take h st)) (continuation target.now rest.now ++ rest.now) z e in
    let P : List Control → Type 0 = λ all. elim all as (λ _. Type 0) [ [] ↦ Unit {0} | y ∷ ys ↦ Landing (Block n target rest h ∷ es) st ops place base y ys z ] in
    subst P d (record {
      enough = t.0;
      under = omega arith;
      lower = r.1;
      rises = r.2;
      lands = t.1 ∙ ap (λ code. record { layers = layers es (take h st); locals = locals es (take h st); operands = take n ops ++ operands es (take h st); code = code }) (whole target.now rest.now k.0);
      keeps = k.1;
      counted = omega arith;
    })
landing (Block n target rest h ∷ es) st ops place base (suc l) x below z r k e d =
    widened es st ops place base x below z h (Block n target rest h ∷ es) r.1 (omega arith) refl (landing es (take h st) ops place base l x below z r.2 k.1 e d)
landing (Call n rest b h caller outer ∷ es) st ops place base zero x below z r k e d =
    let t = taken (layers es (take b st)) (locals es (take b st)) n ops (operands es (take b st)) rest.now z e in
    let P : List Control → Type 0 = λ all. elim all as (λ _. Type 0) [ [] ↦ Unit {0} | y ∷ ys ↦ Landing (Call n rest b h caller outer ∷ es) st ops place base y ys z ] in
    subst P d (record {
      enough = t.0;
      under = r.1;
      lower = r.2;
      rises = r.3;
      lands = t.1;
      keeps = k.2;
      counted = refl;
    })
landing (Call n rest b h caller outer ∷ es) st ops place base (suc l) x below z r k e d = absurd (cc)

-- what the stacks are after a branch
pub record Landed (es : List Control) (st : List ℕ) (place base : ℕ) (x : Control) (below : List Control) (z : Position) : Type 0 where
  pub enough : base_of x + arity_of x ≤ length st
  pub lands : position below (take (base_of x) st ++ drop (length st - arity_of x) st) (goes_on x) ≡ z
  pub rises : Rises below (take (base_of x) st ++ drop (length st - arity_of x) st)
  pub keeps : KeepsBelow below place base x
  pub counted : frames_left x + calls below ≡ calls es

landed_of : (es : List Control) (st : List ℕ) (place base : ℕ) (x : Control) (below : List Control) (z : Position) → Rises es st → Landing es st (operands es st) place base x below z → Landed es st place base x below z
landed_of es st place base x below z r l =
    let size : length (operands es st) ≡ length st - height es = length-operands es st in
    let within : height es ≤ length st = height_within es st r in
    let low : List ℕ = take (base_of x) st in
    let moved : List ℕ = drop (length st - arity_of x) st in
    let long : length low ≡ base_of x = length-take-le (base_of x) st (omega (arith, l.under)) in
    let same : take (height below) (low ++ moved) ≡ take (height below) low = take-append-le (height below) low moved (omega (arith, l.lower)) in
    let ops : operands below (low ++ moved) ≡ take (arity_of x) (operands es st) ++ operands below low =
    ap reverse (drop-append-le (height below) low moved (omega (arith, l.lower)))
    ∙ reverse-append (drop (height below) low) moved
    ∙ ap (λ s. reverse s ++ operands below low) (last_operands es st (arity_of x) r l.enough)
    ∙ ap (λ s. s ++ operands below low) (reverse-reverse (take (arity_of x) (operands es st))) in
    record {
      enough = omega (arith, l.under, l.enough);
      lands =
          position-above below low (low ++ moved) (goes_on x) l.rises same
          ∙ ap (λ s. record { layers = layers below low; locals = locals below low; operands = s; code = goes_on x }) ops
          ∙ sym l.lands;
      rises = rises_above below low (low ++ moved) l.rises same (omega (arith, length-append low moved, l.lower));
      keeps = l.keeps;
      counted = l.counted;
    }

-- the entry that was read at a place
pub entry_read : (cs : List Control) (place at : ℕ) (found x : Control) → found ≡ get_or cs place found → place ≡ at → found ≡ x → x ≡ get_or cs at x
entry_read cs place at found x is same known = subst (λ y. y ≡ get_or cs at y) known (is ∙ ap (λ k. get_or cs k found) same)

-- the entry of a label, with the entries below it
pub entry_at : (cs : List Control) (l : ℕ) (x : Control) → l < length cs → x ≡ get_or cs (length cs - 1 - l) x → drop l (reverse cs) ≡ x ∷ reverse (take (length cs - 1 - l) cs)
entry_at cs l x less e =
    let at : ℕ = length cs - 1 - l in
    let split : cs ≡ (take at cs ++ x ∷ []) ++ drop (at + 1) cs =
    sym (take-append-drop (at + 1) cs) ∙ ap (λ z. z ++ drop (at + 1) cs) (take_more cs at x (omega arith) ∙ ap (λ y. take at cs ++ y ∷ []) (sym e)) in
    let turned : reverse cs ≡ reverse (drop (at + 1) cs) ++ (x ∷ reverse (take at cs)) =
    ap reverse split ∙ reverse-append (take at cs ++ x ∷ []) (drop (at + 1) cs) ∙ ap (λ z. reverse (drop (at + 1) cs) ++ z) (reverse-append (take at cs) (x ∷ [])) in
    ap (drop l) turned ∙ drop_at (reverse (drop (at + 1) cs)) (x ∷ reverse (take at cs)) l (length-reverse (drop (at + 1) cs) ∙ length-drop (at + 1) cs ∙ omega arith)

-- the label is there
within : (es : List Control) (st ops : List ℕ) (l : ℕ) (z : Position) → jump_from (layers es st) (locals es st) ops l ≡ Some z → l < length es
within [] st ops l z e = absurd (cc)
within (Block n target rest h ∷ es) st ops zero z e = omega arith
within (Block n target rest h ∷ es) st ops (suc l) z e = omega (arith, within es (take h st) ops l z e)
within (Call n rest b h caller outer ∷ es) st ops zero z e = omega arith
within (Call n rest b h caller outer ∷ es) st ops (suc l) z e = absurd (cc)

some_of : (o : Option Position) → IsSome o → (z : Position) × (o ≡ Some z)
some_of (Some z) h = (z, refl)
some_of None h = absurd (cc)

-- The stacks before a branch from the position z, and the same after it: the entry x and what stands above it are
-- gone, and the values are those below it and those that are taken along.
pub record Branched (z : Position) (cs : List Control) (st : List ℕ) (place base l : ℕ) (x : Control) (cs' : List Control) (st' : List ℕ) : Type 0 where
  pub lands : jump z l ≡ Some (position (reverse cs') st' (goes_on x))
  pub rises : Rises (reverse cs') st'
  pub keeps : KeepsBelow (reverse cs') place base x
  pub counted : frames_left x + calls (reverse cs') ≡ calls (reverse cs)
  pub fewer : length cs' ≤ length cs
  pub few : length st' ≤ length st

module _ (z : Position) (cs : List Control) (st : List ℕ) (code : List Instr) (place base l : ℕ)
    (same : position (reverse cs) st code ≡ z) (rises : Rises (reverse cs) st) (keeps : Keeps (reverse cs) place base) (some : IsSome (jump z l)) where
  target : (z' : Position) × (jump (position (reverse cs) st code) l ≡ Some z')
  target = let t = some_of (jump z l) some in (t.0, ap (λ y. jump y l) same ∙ t.1)

  pub label_within : l < length cs
  label_within = omega (arith, within (reverse cs) st (operands (reverse cs) st) l target.0 target.1, length-reverse cs)

  landed : (x : Control) → x ≡ get_or cs (length cs - 1 - l) x → Landed (reverse cs) st place base x (reverse (take (length cs - 1 - l) cs)) target.0
  landed x e =
      landed_of (reverse cs) st place base x (reverse (take (length cs - 1 - l) cs)) target.0 rises
      (landing (reverse cs) st (operands (reverse cs) st) place base l x (reverse (take (length cs - 1 - l) cs)) target.0 rises keeps target.1 (entry_at cs l x label_within e))

  pub enough_values : (x : Control) → x ≡ get_or cs (length cs - 1 - l) x → base_of x + arity_of x ≤ length st
  enough_values x e = (landed x e).enough

  pub frame_there : (x : Control) → x ≡ get_or cs (length cs - 1 - l) x → frames_left x ≤ calls (reverse cs)
  frame_there x e = omega (arith, (landed x e).counted)

  pub branched : (x : Control) (cs' : List Control) (st' : List ℕ) → x ≡ get_or cs (length cs - 1 - l) x → cs' ≡ take (length cs - 1 - l) cs
      → st' ≡ take (base_of x) st ++ drop (length st - arity_of x) st → Branched z cs st place base l x cs' st'
  branched x cs' st' e c s =
      let it = landed x e in
      record {
        lands = ap (λ y. jump y l) (sym same) ∙ target.1 ∙ ap Some (sym (ap (λ y. position (reverse y) st' (goes_on x)) c ∙ ap (λ y. position (reverse (take (length cs - 1 - l) cs)) y (goes_on x)) s ∙ it.lands));
        rises = subst (λ y. Rises (reverse y) st') (sym c) (subst (Rises (reverse (take (length cs - 1 - l) cs))) (sym s) it.rises);
        keeps = subst (λ y. KeepsBelow (reverse y) place base x) (sym c) it.keeps;
        counted = ap (λ y. frames_left x + calls (reverse y)) c ∙ it.counted;
        fewer = omega (arith, ap length c, length-take (length cs - 1 - l) cs);
        few = omega (arith, it.enough, ap length s, length-append (take (base_of x) st) (drop (length st - arity_of x) st), length-take (base_of x) st, length-drop (length st - arity_of x) st);
      }
