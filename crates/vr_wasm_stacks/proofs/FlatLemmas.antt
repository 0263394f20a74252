-- The operands and the locals in the list of values.
use Rattle.std.proofs.Common.{ℕ, ◌+◌, ◌-◌, ◌≡◌, ◌≤◌, ◌<◌, List, [], ◌∷◌, ◌++◌, length, take, drop, reverse, get_or, set, slice_get, Some, refl, ap, sym, ◌∙◌, subst, arith}
use Rattle.std.proofs.lemmas.List.{length-take-le, length-drop, length-reverse, length-set, reverse-append, reverse-reverse, take-append-drop, take_at, drop_at, drop-drop, take-take, drop-take, get_or-take, get_or-drop, drop-set-lt, drop-set-add, take-set-le, take_more}
use Rattle.std.proofs.lemmas.Option.{slice_get_read}
use Rattle.std.proofs.Math.Seq.{take-set-lt, take-length}
use Rattle.std.specs.List.{swap_remove}
use Rattle.vr_wasm_ast.specs.declared.instr.Instr.{Instr}
use Rattle.vr_wasm_stacks.specs.declared.control.Control.{Control}
use Rattle.vr_wasm_stacks.specs.declared.control.Control.TheVariants.{Block, Call}
use Rattle.vr_wasm_stacks.specs.Flat.{height, operands, locals, layers, position, continuation, Rises, Keeps}
use Rattle.vr_wasm_stacks.specs.Positions.{Position, in_label, in_frame, with_operands, with_locals, IsRooted}
use Rattle.vr_wasm_stacks.proofs.CountLemmas.{length-operands, height_within}

take-reverse : (n : ℕ) (xs : List ℕ) → n ≤ length xs → take n (reverse xs) ≡ reverse (drop (length xs - n) xs)
take-reverse n xs h =
    ap (λ z. take n (reverse z)) (sym (take-append-drop (length xs - n) xs))
    ∙ ap (take n) (reverse-append (take (length xs - n) xs) (drop (length xs - n) xs))
    ∙ take_at (reverse (drop (length xs - n) xs)) (reverse (take (length xs - n) xs)) n (length-reverse (drop (length xs - n) xs) ∙ length-drop (length xs - n) xs ∙ omega arith)

drop-reverse : (n : ℕ) (xs : List ℕ) → n ≤ length xs → drop n (reverse xs) ≡ reverse (take (length xs - n) xs)
drop-reverse n xs h =
    ap (λ z. drop n (reverse z)) (sym (take-append-drop (length xs - n) xs))
    ∙ ap (drop n) (reverse-append (take (length xs - n) xs) (drop (length xs - n) xs))
    ∙ drop_at (reverse (drop (length xs - n) xs)) (reverse (take (length xs - n) xs)) n (length-reverse (drop (length xs - n) xs) ∙ length-drop (length xs - n) xs ∙ omega arith)

-- without the last n operands
pub operands-take : (es : List Control) (st : List ℕ) (n : ℕ) → Rises es st → n ≤ length (operands es st) → operands es (take (length st - n) st) ≡ drop n (operands es st)
operands-take es st n r enough =
    let size : length (drop (height es) st) ≡ length st - height es = length-drop (height es) st in
    let few : n ≤ length (drop (height es) st) = omega (arith, length-operands es st) in
    let within : height es ≤ length st = height_within es st r in
    let m : ℕ = length st - height es - n in
    let count : length st - n ≡ height es + m = omega arith in
    ap (λ k. reverse (drop (height es) (take k st))) count
    ∙ ap reverse (drop-take (height es) m st)
    ∙ ap (λ k. reverse (take k (drop (height es) st))) (omega arith)
    ∙ sym (drop-reverse n (drop (height es) st) few)

-- the last n operands
pub last_operands : (es : List Control) (st : List ℕ) (n : ℕ) → Rises es st → n ≤ length (operands es st) → drop (length st - n) st ≡ reverse (take n (operands es st))
last_operands es st n r enough =
    let size : length (drop (height es) st) ≡ length st - height es = length-drop (height es) st in
    let few : n ≤ length (drop (height es) st) = omega (arith, length-operands es st) in
    let within : height es ≤ length st = height_within es st r in
    sym (ap reverse (take-reverse n (drop (height es) st) few)
    ∙ reverse-reverse (drop (length (drop (height es) st) - n) (drop (height es) st))
    ∙ drop-drop (length (drop (height es) st) - n) (height es) st
    ∙ ap (λ k. drop k st) (omega arith))

-- ---- values above the height change

pub layers-above : (es : List Control) (st st' : List ℕ) → Rises es st → take (height es) st' ≡ take (height es) st → layers es st' ≡ layers es st
layers-above [] st st' r e = refl
layers-above (Block n target rest h ∷ es) st st' r e = ap (λ z. in_label n (continuation target.now rest.now) (operands es z) rest.now ∷ layers es z) e
layers-above (Call n rest b h place outer ∷ es) st st' r e =
    ap (λ z. in_frame n (operands es z) rest.now (locals es z) ∷ layers es z) (sym (take-take b h st' r.1) ∙ ap (take b) e ∙ take-take b h st r.1)

pub locals-above : (es : List Control) (st st' : List ℕ) → take (height es) st' ≡ take (height es) st → locals es st' ≡ locals es st
locals-above [] st st' e = refl
locals-above (Block n target rest h ∷ es) st st' e = ap (locals es) e
locals-above (Call n rest b h place outer ∷ es) st st' e = ap (drop b) e

pub rises_above : (es : List Control) (st st' : List ℕ) → Rises es st → take (height es) st' ≡ take (height es) st → height es ≤ length st' → Rises es st'
rises_above [] st st' r e l = tt
rises_above (Block n target rest h ∷ es) st st' r e l = (l, r.1, subst (Rises es) (sym e) r.2)
rises_above (Call n rest b h place outer ∷ es) st st' r e l =
    (l, r.1, r.2, subst (Rises es) (sym (sym (take-take b h st' r.1) ∙ ap (take b) e ∙ take-take b h st r.1)) r.3)

pub position-above : (es : List Control) (st st' : List ℕ) (code : List Instr) → Rises es st → take (height es) st' ≡ take (height es) st
    → position es st' code ≡ with_operands (position es st code) (operands es st')
position-above es st st' code r e =
    ap (λ x. record { layers = x; locals = locals es st'; operands = operands es st'; code = code }) (layers-above es st st' r e)
    ∙ ap (λ x. record { layers = layers es st; locals = x; operands = operands es st'; code = code }) (locals-above es st st' e)

-- ---- locals

-- local i of the innermost frame is at base + i, below the innermost operands, and another value there changes it alone
pub record IsLocal (es : List Control) (st : List ℕ) (base i : ℕ) : Type 0 where
  pub below : base + i < height es
  pub value : (x : ℕ) → x ≡ get_or st (base + i) x → slice_get (locals es st) i ≡ Some x
  pub changed : (v : ℕ) → locals es (set st (base + i) v) ≡ set (locals es st) i v
  pub same_layers : (v : ℕ) → layers es (set st (base + i) v) ≡ layers es st
  pub rises : (v : ℕ) → Rises es (set st (base + i) v)

pub local_at : (es : List Control) (place base i : ℕ) (st : List ℕ) → Keeps es place base → Rises es st → i < length (locals es st) → IsLocal es st base i
local_at [] place base i st k r c = absurd (omega arith)
local_at (Block n target rest h ∷ es) place base i st k r c =
    let inner : IsLocal es (take h st) base i = local_at es place base i (take h st) k.1 r.2 c in
    let small : base + i < h = omega (arith, inner.below, r.1) in
    let cut : (v : ℕ) → take h (set st (base + i) v) ≡ set (take h st) (base + i) v = λ v. take-set-lt h st (base + i) v small in
    record {
      below = small;
      value = λ x e. inner.value x (e ∙ sym (get_or-take h st (base + i) x small));
      changed = λ v. ap (locals es) (cut v) ∙ inner.changed v;
      same_layers = λ v.
          ap (λ z. in_label n (continuation target.now rest.now) (operands es z) rest.now ∷ layers es z) (cut v)
          ∙ ap (λ z. in_label n (continuation target.now rest.now) (reverse z) rest.now ∷ layers es (set (take h st) (base + i) v)) (drop-set-lt (height es) (take h st) (base + i) v inner.below)
          ∙ ap (λ z. in_label n (continuation target.now rest.now) (operands es (take h st)) rest.now ∷ z) (inner.same_layers v);
      rises = λ v. (omega (arith, length-set st (base + i) v, r.0), r.1, subst (Rises es) (sym (cut v)) (inner.rises v));
    }
local_at (Call n rest b h place' outer ∷ es) place base i st k r c =
    let size : length (drop b (take h st)) ≡ length (take h st) - b = length-drop b (take h st) in
    let all : length (take h st) ≡ h = length-take-le h st r.0 in
    let same : base ≡ b = k.1 in
    let small : b + i < h = omega arith in
    let cut : (v : ℕ) → take h (set st (base + i) v) ≡ set (take h st) (b + i) v = λ v. ap (λ z. take h (set st (z + i) v)) same ∙ take-set-lt h st (b + i) v small in
    let under : (v : ℕ) → take b (set st (base + i) v) ≡ take b st = λ v. take-set-le b st (base + i) v (omega arith) in
    record {
      below = omega arith;
      value = λ x e. slice_get_read (drop b (take h st)) (length (drop b (take h st))) i x refl c
          (e ∙ ap (λ z. get_or st (z + i) x) same ∙ sym (get_or-drop b (take h st) i x ∙ get_or-take h st (b + i) x small));
      changed = λ v. ap (drop b) (cut v) ∙ drop-set-add b (take h st) i v;
      same_layers = λ v. ap (λ z. in_frame n (operands es z) rest.now (locals es z) ∷ layers es z) (under v);
      rises = λ v. (omega (arith, length-set st (base + i) v, r.0), r.1, r.2, subst (Rises es) (sym (under v)) r.3);
    }

-- a local set to another value
pub position-set : (es : List Control) (st : List ℕ) (code : List Instr) (base i v : ℕ) → IsLocal es st base i
    → position es (set st (base + i) v) code ≡ with_locals (position es st code) (set (locals es st) i v)
position-set es st code base i v l =
    ap (λ x. record { layers = x; locals = locals es (set st (base + i) v); operands = operands es (set st (base + i) v); code = code }) (l.same_layers v)
    ∙ ap (λ x. record { layers = layers es st; locals = x; operands = operands es (set st (base + i) v); code = code }) (l.changed v)
    ∙ ap (λ x. record { layers = layers es st; locals = set (locals es st) i v; operands = reverse x; code = code }) (drop-set-lt (height es) st (base + i) v l.below)

-- ---- the same of the position that the stacks stand for

pub dropped : (z : Position) (es : List Control) (st : List ℕ) (code : List Instr) (n : ℕ) → position es st code ≡ z → Rises es st → n ≤ length z.operands
    → position es (take (length st - n) st) code ≡ with_operands z (drop n z.operands)
dropped z es st code n e r =
    let P : Position → Type 0 = λ x. n ≤ length x.operands → position es (take (length st - n) st) code ≡ with_operands x (drop n x.operands) in
    let within : height es ≤ length st = height_within es st r in
    subst P e (λ few.
    position-above es st (take (length st - n) st) code r (take-take (height es) (length st - n) st (omega (arith, length-operands es st)))
    ∙ ap (with_operands (position es st code)) (operands-take es st n r few))

pub taken_last : (z : Position) (es : List Control) (st : List ℕ) (code : List Instr) (n : ℕ) → position es st code ≡ z → Rises es st → n ≤ length z.operands
    → drop (length st - n) st ≡ reverse (take n z.operands)
taken_last z es st code n e r =
    let P : Position → Type 0 = λ x. n ≤ length x.operands → drop (length st - n) st ≡ reverse (take n x.operands) in
    subst P e (last_operands es st n r)

pub local_of : (z : Position) (es : List Control) (st : List ℕ) (code : List Instr) (place base i : ℕ) → position es st code ≡ z → Keeps es place base → Rises es st → i < length z.locals
    → IsLocal es st base i
local_of z es st code place base i e k r =
    let P : Position → Type 0 = λ x. i < length x.locals → IsLocal es st base i in
    subst P e (local_at es place base i st k r)

rooted : (es : List Control) (st : List ℕ) → IsRooted (layers es st) (locals es st)
rooted [] st = refl
rooted (Block n target rest h ∷ es) st = rooted es (take h st)
rooted (Call n rest b h place outer ∷ es) st = rooted es (take b st)

pub rooted_at : (z : Position) (es : List Control) (st : List ℕ) (code : List Instr) → position es st code ≡ z → IsRooted z.layers z.locals
rooted_at z es st code e = let P : Position → Type 0 = λ x. IsRooted x.layers x.locals in subst P e (rooted es st)

-- ---- the last value

-- a list is what is left after its last element was taken out, and that
pub last_removed : (xs : List ℕ) (n v : ℕ) → n ≡ length xs - 1 → 0 < length xs → v ≡ get_or xs n v → xs ≡ swap_remove xs n v ++ v ∷ []
last_removed xs n v e some is =
    sym (take-length xs)
    ∙ ap (λ k. take k xs) (omega arith)
    ∙ take_more xs (length xs - 1) v (omega arith)
    ∙ ap (λ x. take (length xs - 1) xs ++ x ∷ []) (ap (λ k. get_or xs k v) (sym e) ∙ sym is)
    ∙ ap (λ x. x ++ v ∷ []) (sym (take-set-le (length xs - 1) xs n (get_or xs (length xs - 1) v) (omega arith)))
