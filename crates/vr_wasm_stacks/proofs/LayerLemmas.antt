-- Into a frame, and out of the innermost layer at its end.
use Rattle.std.proofs.Common.{ℕ, ◌+◌, ◌-◌, ◌≡◌, ◌≤◌, ◌<◌, List, [], ◌∷◌, ◌++◌, length, take, drop, reverse, replicate, get_or, Option, Some, None, IsSome, if◌then◌else◌, refl, ap, sym, ◌∙◌, subst, arith, inl, inr}
use Rattle.std.proofs.lemmas.Bool.Decides.{eqb_tells}
use Rattle.std.proofs.lemmas.Bool.{le-leb}
use Rattle.std.proofs.lemmas.List.{take-append-drop, take-take, take-append-le, drop-append-le, length-append, length-replicate, length-take-le, length-reverse, reverse-append, take_all, drop_all}
use Rattle.std.specs.Borrow.{Bor}
use Rattle.vr_wasm_ast.specs.declared.instr.Instr.{Instr}
use Rattle.vr_wasm_stacks.specs.declared.control.Control.{Control}
use Rattle.vr_wasm_stacks.specs.declared.control.Control.TheVariants.{Block, Call}
use Rattle.vr_wasm_stacks.specs.Flat.{height, operands, locals, layers, position, calls, Rises, Keeps}
use Rattle.vr_wasm_stacks.specs.Positions.{Position, in_frame, jump_from, jump, left, leave, depth, called}
use Rattle.vr_wasm_stacks.proofs.CountLemmas.{length-operands, height_within}
use Rattle.vr_wasm_stacks.proofs.FlatLemmas.{operands-take, last_operands, layers-above, locals-above, position-above, rises_above}
use Rattle.vr_wasm_stacks.proofs.JumpLemmas.{entry_at}

-- the entries after a call, whose parameters are the last of so many values
pub called_entries : (old new : List Control) (results : ℕ) (rest : Bor (List Instr)) (params locals frame base len height count : ℕ)
    → len ≡ count → height ≡ count + locals → new ≡ old ++ Call results rest (len - params) height frame base ∷ []
    → reverse new ≡ Call results rest (count - params) (count + locals) frame base ∷ reverse old
called_entries old new results rest params locals frame base len height count same long pushed =
    ap reverse pushed ∙ reverse-append old (Call results rest (len - params) height frame base ∷ [])
    ∙ ap (λ n. Call results rest (n - params) height frame base ∷ reverse old) same ∙ ap (λ h. Call results rest (count - params) h frame base ∷ reverse old) long

-- ---- the innermost frame's place

depth_from : (es : List Control) (st ops : List ℕ) (place base : ℕ) → Keeps es place base → IsSome (jump_from (layers es st) (locals es st) ops (depth (layers es st))) → place + depth (layers es st) + 1 ≡ length es
depth_from [] st ops place base k some = absurd (cc)
depth_from (Block n target rest h ∷ es) st ops place base k some = omega (arith, depth_from es (take h st) ops place base k.1 some)
depth_from (Call n rest b h caller outer ∷ es) st ops place base k some = omega (arith, k.0)

pub depth_of : (z : Position) (cs : List Control) (st : List ℕ) (code : List Instr) (place base : ℕ) → position (reverse cs) st code ≡ z → Keeps (reverse cs) place base
    → IsSome (jump z (depth z.layers)) → place + depth z.layers + 1 ≡ length cs
depth_of z cs st code place base e k =
    let P : Position → Type 0 = λ x. IsSome (jump x (depth x.layers)) → place + depth x.layers + 1 ≡ length cs in
    subst P e (λ some. omega (arith, depth_from (reverse cs) st (operands (reverse cs) st) place base k some, length-reverse cs))

-- ---- out of the innermost layer

-- a block's operands stay
left_block : (n : ℕ) (h : ℕ) (es : List Control) (st : List ℕ) (after : List Instr) → h ≤ length st → height es ≤ h → Rises es (take h st)
    → record { layers = layers es (take h st); locals = locals es (take h st); operands = reverse (drop h st) ++ operands es (take h st); code = after } ≡ position es st after
left_block n h es st after a b r =
    let long : length (take h st) ≡ h = length-take-le h st a in
    let same : take (height es) st ≡ take (height es) (take h st) = sym (take-take (height es) h st b) in
    let ops : operands es st ≡ reverse (drop h st) ++ operands es (take h st) =
    ap (λ x. reverse (drop (height es) x)) (sym (take-append-drop h st))
    ∙ ap reverse (drop-append-le (height es) (take h st) (drop h st) (omega arith))
    ∙ reverse-append (drop (height es) (take h st)) (drop h st) in
    sym (position-above es (take h st) st after r same ∙ ap (λ x. record { layers = layers es (take h st); locals = locals es (take h st); operands = x; code = after }) ops)

-- the entry that the code looks at is the innermost one
innermost : (cs : List Control) (x : Control) → 0 < length cs → x ≡ get_or cs (length cs - 1) x → reverse cs ≡ x ∷ reverse (take (length cs - 1) cs)
innermost cs x some e =
    let same : length cs - 1 - 0 ≡ length cs - 1 = omega arith in
    entry_at cs 0 x some (e ∙ ap (λ k. get_or cs k x) (sym same)) ∙ ap (λ k. x ∷ reverse (take k cs)) same

left_none : (es : List Control) (st : List ℕ) → IsSome (left (layers es st) (locals es st) (operands es st)) → 0 < length es
left_none [] st some = absurd (cc)
left_none (x ∷ es) st some = omega arith

pub leave_within : (z : Position) (cs : List Control) (st : List ℕ) (code : List Instr) → position (reverse cs) st code ≡ z → IsSome (leave z) → 0 < length cs
leave_within z cs st code e =
    let P : Position → Type 0 = λ x. IsSome (leave x) → 0 < length cs in
    subst P e (λ some. omega (arith, left_none (reverse cs) st some, length-reverse cs))

-- what is left after a block
pub record LeftBlock (z : Position) (cs : List Control) (st : List ℕ) (place base : ℕ) (after : List Instr) (cs' : List Control) : Type 0 where
  pub lands : leave z ≡ Some (position (reverse cs') st after)
  pub rises : Rises (reverse cs') st
  pub keeps : Keeps (reverse cs') place base
  pub counted : calls (reverse cs') ≡ calls (reverse cs)
  pub fewer : length cs' ≤ length cs

block_gone : (n h : ℕ) (target rest : Bor (List Instr)) (es : List Control) (st : List ℕ) (code : List Instr) → Rises (Block n target rest h ∷ es) st
    → leave (position (Block n target rest h ∷ es) st code) ≡ Some (position es st rest.now)
block_gone n h target rest es st code r = ap Some (left_block n h es st rest.now r.0 r.1 r.2)

rises_below : (n h : ℕ) (target rest : Bor (List Instr)) (es : List Control) (st : List ℕ) → Rises (Block n target rest h ∷ es) st → Rises es st
rises_below n h target rest es st r = rises_above es (take h st) st r.2 (sym (take-take (height es) h st r.1)) (omega (arith, r.0, r.1))

pub left_of_block : (z : Position) (cs : List Control) (st : List ℕ) (code : List Instr) (place base n h : ℕ) (target rest : Bor (List Instr)) (cs' : List Control)
    → position (reverse cs) st code ≡ z → Rises (reverse cs) st → Keeps (reverse cs) place base → 0 < length cs
    → Block n target rest h ≡ get_or cs (length cs - 1) (Block n target rest h) → cs' ≡ take (length cs - 1) cs → LeftBlock z cs st place base rest.now cs'
left_of_block z cs st code place base n h target rest cs' e r k some x c =
    let are : reverse cs ≡ Block n target rest h ∷ reverse cs' = innermost cs (Block n target rest h) some x ∙ ap (λ y. Block n target rest h ∷ reverse y) (sym c) in
    let rises : Rises (Block n target rest h ∷ reverse cs') st = subst (λ y. Rises y st) are r in
    let keeps : Keeps (Block n target rest h ∷ reverse cs') place base = subst (λ y. Keeps y place base) are k in
    record {
      lands = ap leave (sym e ∙ ap (λ y. position y st code) are) ∙ block_gone n h target rest (reverse cs') st code rises;
      rises = rises_below n h target rest (reverse cs') st rises;
      keeps = keeps.1;
      counted = sym (ap calls are);
      fewer = omega (arith, ap length are, length-reverse cs, length-reverse cs');
    }

-- a function with as many operands as it has results: to leave it is to branch to its label
call_gone : (n b h caller outer : ℕ) (rest : Bor (List Instr)) (es : List Control) (st : List ℕ) (code : List Instr) → IsSome (leave (position (Call n rest b h caller outer ∷ es) st code))
    → jump (position (Call n rest b h caller outer ∷ es) st code) 0 ≡ leave (position (Call n rest b h caller outer ∷ es) st code)
call_gone n b h caller outer rest es st code some =
    let ops : List ℕ = operands (Call n rest b h caller outer ∷ es) st in
    let found : List ℕ → Option Position = λ x. Some (record { layers = layers es (take b st); locals = locals es (take b st); operands = x ++ operands es (take b st); code = rest.now }) in
    elim (eqb_tells (length ops) n) [
      | inl t ↦
          ap (λ y. if y then found (take n ops) else None) (le-leb n (length ops) (omega (arith, t.1)))
          ∙ ap found (take_all n ops (omega (arith, t.1)))
          ∙ sym (ap (λ y. if y then found ops else None) t.0)
      | inr t ↦
          let none : IsSome {T = Position} None = subst (λ y. IsSome (if y then found ops else None)) t.0 some in
          absurd (cc)
    ]

pub leave_call : (z : Position) (cs : List Control) (st : List ℕ) (code : List Instr) (n b h caller outer : ℕ) (rest : Bor (List Instr)) → position (reverse cs) st code ≡ z → 0 < length cs
    → Call n rest b h caller outer ≡ get_or cs (length cs - 1) (Call n rest b h caller outer) → IsSome (leave z) → jump z 0 ≡ leave z
leave_call z cs st code n b h caller outer rest e some x =
    let es : List Control = reverse (take (length cs - 1) cs) in
    let are : position (Call n rest b h caller outer ∷ es) st code ≡ z = ap (λ y. position y st code) (sym (innermost cs (Call n rest b h caller outer) some x)) ∙ e in
    let P : Position → Type 0 = λ y. IsSome (leave y) → jump y 0 ≡ leave y in
    subst P are (call_gone n b h caller outer rest es st code)

-- ---- into a frame

pub record IsCalled (z : Position) (es : List Control) (st : List ℕ) (params many results place base : ℕ) (rest : Bor (List Instr)) (body : List Instr) (x : Control) (st' : List ℕ) : Type 0 where
  pub lands : position (x ∷ es) st' body ≡ called z params many results rest.now body
  pub rises : Rises (x ∷ es) st'
  pub keeps : Keeps (x ∷ es) (length es) (length st - params)
  pub counted : calls (x ∷ es) ≡ 1 + calls es
  pub size : length st' ≡ length st + many

pub called_at : (z : Position) (es : List Control) (st : List ℕ) (code : List Instr) (params many results place base : ℕ) (rest : Bor (List Instr)) (body : List Instr)
    → position es st code ≡ z → Rises es st → Keeps es place base → params ≤ length z.operands
    → IsCalled z es st params many results place base rest body (Call results rest (length st - params) (length st + many) place base) (st ++ replicate many 0)
called_at z es st code params many results place base rest body e r k =
    let zeros : List ℕ = replicate many 0 in
    let all : List ℕ = st ++ zeros in
    let start : ℕ = length st - params in
    let x : Control = Call results rest start (length st + many) place base in
    let P : Position → Type 0 = λ y. params ≤ length y.operands → IsCalled y es st params many results place base rest body x all in
    let size : length all ≡ length st + many = length-append st zeros ∙ ap (λ n. length st + n) (length-replicate many 0) in
    subst P e (λ few.
    let above : height es ≤ start = omega (arith, length-operands es st, height_within es st r) in
    let low : take start all ≡ take start st = take-append-le start st zeros (omega arith) in
    let same : take (height es) (take start st) ≡ take (height es) st = take-take (height es) start st above in
    let args : drop start (take (length st + many) all) ≡ reverse (take params (operands es st)) ++ zeros =
    ap (drop start) (take_all (length st + many) all (omega arith)) ∙ drop-append-le start st zeros (omega arith) ∙ ap (λ y. y ++ zeros) (last_operands es st params r few) in
    let none : operands (x ∷ es) all ≡ [] = ap reverse (drop_all (length st + many) all (omega arith)) in
    record {
      lands =
          ap (λ y. record { layers = in_frame results (operands es y) rest.now (locals es y) ∷ layers es y; locals = drop start (take (length st + many) all); operands = operands (x ∷ es) all; code = body }) low
          ∙ ap (λ y. record { layers = in_frame results y rest.now (locals es (take start st)) ∷ layers es (take start st); locals = drop start (take (length st + many) all); operands = operands (x ∷ es) all; code = body }) (operands-take es st params r few)
          ∙ ap (λ y. record { layers = in_frame results (drop params (operands es st)) rest.now y ∷ layers es (take start st); locals = drop start (take (length st + many) all); operands = operands (x ∷ es) all; code = body }) (locals-above es st (take start st) same)
          ∙ ap (λ y. record { layers = in_frame results (drop params (operands es st)) rest.now (locals es st) ∷ y; locals = drop start (take (length st + many) all); operands = operands (x ∷ es) all; code = body }) (layers-above es st (take start st) r same)
          ∙ ap (λ y. record { layers = in_frame results (drop params (operands es st)) rest.now (locals es st) ∷ layers es st; locals = y; operands = operands (x ∷ es) all; code = body }) args
          ∙ ap (λ y. record { layers = in_frame results (drop params (operands es st)) rest.now (locals es st) ∷ layers es st; locals = reverse (take params (operands es st)) ++ zeros; operands = y; code = body }) none;
      rises = (omega arith, omega arith, above, subst (Rises es) (sym low) (rises_above es st (take start st) r same (omega (arith, length-take-le start st (omega arith)))));
      keeps = (refl, refl, k);
      counted = refl;
      size = size;
    })
