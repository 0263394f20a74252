-- What the limits count in a term is what the two stacks have.
use Rattle.std.proofs.Common.{ℕ, ◌+◌, ◌-◌, ◌≡◌, ◌≤◌, List, [], ◌∷◌, length, take, drop, refl, ap, sym, ◌∙◌, arith}
use Rattle.std.proofs.lemmas.List.{length-take-le, length-drop, length-reverse}
use Rattle.vr_wasm_ast.specs.declared.instr.Instr.{Instr}
use Rattle.vr_wasm_ast.specs.Instructions.{Instructions, done, then as then_, instructions_of}
use Rattle.vr_wasm_steps.specs.Terms.{Term, end, value, label, frame, plains, unwind, frames, slots, labels}
use Rattle.vr_wasm_stacks.specs.declared.control.Control.{Control}
use Rattle.vr_wasm_stacks.specs.declared.control.Control.TheVariants.{Block, Call}
use Rattle.vr_wasm_stacks.specs.Positions.{Layer, in_label, in_frame, Position, close, term_of, with_operands}
use Rattle.vr_wasm_stacks.specs.Flat.{height, operands, locals, layers, position, calls, Rises, continuation}

pub slots-plains : (is : Instructions) → slots (plains is end) ≡ 0
slots-plains done = refl
slots-plains (then_ i is) = slots-plains is

pub labels-plains : (is : Instructions) → labels (plains is end) ≡ 0
labels-plains done = refl
labels-plains (then_ i is) = labels-plains is

pub frames-plains : (is : Instructions) → frames (plains is end) ≡ 0
frames-plains done = refl
frames-plains (then_ i is) = frames-plains is

pub slots-unwind : (vs : List ℕ) (s : Term) → slots (unwind vs s) ≡ length vs + slots s
slots-unwind [] s = omega arith
slots-unwind (v ∷ vs) s = slots-unwind vs (value v s) ∙ omega arith

pub labels-unwind : (vs : List ℕ) (s : Term) → labels (unwind vs s) ≡ labels s
labels-unwind [] s = refl
labels-unwind (v ∷ vs) s = labels-unwind vs (value v s)

pub frames-unwind : (vs : List ℕ) (s : Term) → frames (unwind vs s) ≡ frames s
frames-unwind [] s = refl
frames-unwind (v ∷ vs) s = frames-unwind vs (value v s)

pub height_within : (es : List Control) (st : List ℕ) → Rises es st → height es ≤ length st
height_within [] st r = omega arith
height_within (Block n target rest h ∷ es) st r = r.0
height_within (Call n rest b h place outer ∷ es) st r = r.0

pub length-operands : (es : List Control) (st : List ℕ) → length (operands es st) ≡ length st - height es
length-operands es st = length-reverse (drop (height es) st) ∙ length-drop (height es) st

slots-close : (es : List Control) (st : List ℕ) (s : Term) → Rises es st → slots (close (layers es st) (locals es st) s) ≡ height es + slots s
unfolding close
slots-close [] st s r = omega arith
slots-close (Block n target rest h ∷ es) st s r =
    let below : height es ≤ length (take h st) = height_within es (take h st) r.2 in
    slots-close es (take h st) (unwind (operands es (take h st)) (label n (instructions_of (continuation target.now rest.now)) s (plains (instructions_of rest.now) end))) r.2
    ∙ omega (arith, slots-unwind (operands es (take h st)) (label n (instructions_of (continuation target.now rest.now)) s (plains (instructions_of rest.now) end)), length-operands es (take h st), length-take-le h st r.0, slots-plains (instructions_of rest.now), r.1)
slots-close (Call n rest b h place outer ∷ es) st s r =
    let within : b ≤ length st = omega (arith, r.0, r.1) in
    let below : height es ≤ length (take b st) = height_within es (take b st) r.3 in
    slots-close es (take b st) (unwind (operands es (take b st)) (frame n (drop b (take h st)) s (plains (instructions_of rest.now) end))) r.3
    ∙ omega (arith, slots-unwind (operands es (take b st)) (frame n (drop b (take h st)) s (plains (instructions_of rest.now) end)), length-operands es (take b st), length-take-le b st within, length-take-le h st r.0, length-drop b (take h st), slots-plains (instructions_of rest.now), r.1, r.2)

labels-close : (es : List Control) (st : List ℕ) (s : Term) → labels (close (layers es st) (locals es st) s) ≡ length es + labels s
unfolding close
labels-close [] st s = omega arith
labels-close (Block n target rest h ∷ es) st s =
    labels-close es (take h st) (unwind (operands es (take h st)) (label n (instructions_of (continuation target.now rest.now)) s (plains (instructions_of rest.now) end)))
    ∙ omega (arith, labels-unwind (operands es (take h st)) (label n (instructions_of (continuation target.now rest.now)) s (plains (instructions_of rest.now) end)), labels-plains (instructions_of rest.now))
labels-close (Call n rest b h place outer ∷ es) st s =
    labels-close es (take b st) (unwind (operands es (take b st)) (frame n (drop b (take h st)) s (plains (instructions_of rest.now) end)))
    ∙ omega (arith, labels-unwind (operands es (take b st)) (frame n (drop b (take h st)) s (plains (instructions_of rest.now) end)), labels-plains (instructions_of rest.now))

frames-close : (es : List Control) (st : List ℕ) (s : Term) → frames (close (layers es st) (locals es st) s) ≡ calls es + frames s
unfolding close
frames-close [] st s = omega arith
frames-close (Block n target rest h ∷ es) st s =
    frames-close es (take h st) (unwind (operands es (take h st)) (label n (instructions_of (continuation target.now rest.now)) s (plains (instructions_of rest.now) end)))
    ∙ omega (arith, frames-unwind (operands es (take h st)) (label n (instructions_of (continuation target.now rest.now)) s (plains (instructions_of rest.now) end)), frames-plains (instructions_of rest.now))
frames-close (Call n rest b h place outer ∷ es) st s =
    frames-close es (take b st) (unwind (operands es (take b st)) (frame n (drop b (take h st)) s (plains (instructions_of rest.now) end)))
    ∙ omega (arith, frames-unwind (operands es (take b st)) (frame n (drop b (take h st)) s (plains (instructions_of rest.now) end)), frames-plains (instructions_of rest.now))

pub slots_position : (es : List Control) (st : List ℕ) (code : List Instr) → Rises es st → slots (term_of (position es st code)) ≡ length st
slots_position es st code r =
    slots-close es st (unwind (operands es st) (plains (instructions_of code) end)) r
    ∙ omega (arith, slots-unwind (operands es st) (plains (instructions_of code) end), slots-plains (instructions_of code), length-operands es st, height_within es st r)

pub labels_position : (es : List Control) (st : List ℕ) (code : List Instr) → labels (term_of (position es st code)) ≡ length es
labels_position es st code =
    labels-close es st (unwind (operands es st) (plains (instructions_of code) end))
    ∙ omega (arith, labels-unwind (operands es st) (plains (instructions_of code) end), labels-plains (instructions_of code))

pub frames_position : (es : List Control) (st : List ℕ) (code : List Instr) → frames (term_of (position es st code)) ≡ calls es
frames_position es st code =
    frames-close es st (unwind (operands es st) (plains (instructions_of code) end))
    ∙ omega (arith, frames-unwind (operands es st) (plains (instructions_of code) end), frames-plains (instructions_of code))

-- the same of the position that the stacks stand for
pub slots_at : (z : Position) (es : List Control) (st : List ℕ) (code : List Instr) → position es st code ≡ z → Rises es st → slots (term_of z) ≡ length st
slots_at z es st code e r = ap (λ x. slots (term_of x)) (sym e) ∙ slots_position es st code r

pub labels_at : (z : Position) (es : List Control) (st : List ℕ) (code : List Instr) → position es st code ≡ z → labels (term_of z) ≡ length es
labels_at z es st code e = ap (λ x. labels (term_of x)) (sym e) ∙ labels_position es st code

pub frames_at : (z : Position) (es : List Control) (st : List ℕ) (code : List Instr) → position es st code ≡ z → frames (term_of z) ≡ calls es
frames_at z es st code e = ap (λ x. frames (term_of x)) (sym e) ∙ frames_position es st code

-- ---- one more value

slots-inside : (layers : List Layer) (ls : List ℕ) (s t : Term) → slots (close layers ls s) + slots t ≡ slots (close layers ls t) + slots s
unfolding close
slots-inside [] ls s t = omega arith
slots-inside (in_label n next vs after ∷ layers) ls s t =
    let in_s : Term = label n (instructions_of next) s (plains (instructions_of after) end) in
    let in_t : Term = label n (instructions_of next) t (plains (instructions_of after) end) in
    omega (arith, slots-inside layers ls (unwind vs in_s) (unwind vs in_t), slots-unwind vs in_s, slots-unwind vs in_t)
slots-inside (in_frame n vs after outer ∷ layers) ls s t =
    let in_s : Term = frame n ls s (plains (instructions_of after) end) in
    let in_t : Term = frame n ls t (plains (instructions_of after) end) in
    omega (arith, slots-inside layers outer (unwind vs in_s) (unwind vs in_t), slots-unwind vs in_s, slots-unwind vs in_t)

-- with other operands
pub slots_with : (z : Position) (vs : List ℕ) → slots (term_of (with_operands z vs)) + length z.operands ≡ slots (term_of z) + length vs
slots_with z vs =
    let s : Term = unwind vs (plains (instructions_of z.code) end) in
    let t : Term = unwind z.operands (plains (instructions_of z.code) end) in
    omega (arith, slots-inside z.layers z.locals s t, slots-unwind vs (plains (instructions_of z.code) end), slots-unwind z.operands (plains (instructions_of z.code) end))

pub slots_pushed : (z z' : Position) (v : ℕ) → z ≡ with_operands z' (v ∷ z'.operands) → slots (term_of z) ≡ slots (term_of z') + 1
slots_pushed z z' v e = omega (arith, ap (λ x. slots (term_of x)) e, slots_with z' (v ∷ z'.operands))

pub slots_dropped : (z z' : Position) (n : ℕ) → z' ≡ with_operands z (drop n z.operands) → n ≤ length z.operands → slots (term_of z) ≡ slots (term_of z') + n
slots_dropped z z' n e few = omega (arith, ap (λ x. slots (term_of x)) e, slots_with z (drop n z.operands), length-drop n z.operands)
