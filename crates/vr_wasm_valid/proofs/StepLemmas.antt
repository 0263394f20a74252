-- What is found for an instruction, conditions on it, and one instruction after another.
use Rattle.std.proofs.Common.{◌≡◌, ℕ, List, ◌∷◌, ◌↔◌, ◌+◌, ◌<◌, ◌≤◌, length, drop, get_or, Option, Some, Result, Ok, Err, Bool, true, false, IsTrue, refl, sym, subst, ap, add-one, drop-cons}
use Rattle.std.proofs.lemmas.List.{drop_all}
use Rattle.vr_wasm_ast.specs.declared.tree.ValType.{ValType}
use Rattle.vr_wasm_ast.specs.declared.instr.Instr.{Instr}
use Rattle.vr_wasm_ast.specs.Instructions.{Instruction, Instructions, then, instruction_of, instructions_of}
use Rattle.vr_wasm_valid.specs.Context.{Context}
use Rattle.vr_wasm_valid.specs.Shape.{Shape, Rule, Checks, Fits, Moves, Steps, Sticks}
use Rattle.vr_wasm_valid.specs.Steps.{Finds, Given, Takes, Types, Step}
use Rattle.vr_wasm_valid.proofs.ShapeLemmas.{fits_along}

-- ---- conditions, and what is found

checks_as : {E : Type 0} {r : Result Bool E} {a b : Shape} {R S : Rule}
    → ((fine : Bool) → Moves fine a b R → Moves fine a b S) → Checks r a b R → Checks r a b S
checks_as {r = Ok fine} f w = record { moves = f fine w.moves }
checks_as {r = Err e} f w = record { moves = w.moves }

-- a condition in other words
pub moves_given : {P Q : Type 0} {fine : Bool} {a b : Shape} {R : Rule} → (P ↔ Q)
    → Moves fine a b (Given P R)
    → Moves fine a b (Given Q R)
moves_given w m = record {
  steps = λ holds. record {
    back = λ ts f.
        let e = (m.steps holds).back ts f in
        (e.0, e.1, record { met = w.0 e.2.met; step = e.2.step });
    on = λ earlier ts f r. (m.steps holds).on earlier ts f (record { met = w.1 r.met; step = r.step });
  };
  sticks = λ fails. record {
    none = λ earlier ts f r. (m.sticks fails).none earlier ts f (record { met = w.1 r.met; step = r.step });
  };
}

pub checks_given : {E : Type 0} {P Q : Type 0} {r : Result Bool E} {a b : Shape} {R : Rule} → (P ↔ Q)
    → Checks r a b (Given P R) → Checks r a b (Given Q R)
checks_given w = checks_as (λ fine m. moves_given w m)

-- two conditions, of which the second isn't looked at where the first doesn't hold
pub both_hold : {P Q : Type 0} {first second fine : Bool} → (IsTrue first ↔ P) → (IsTrue second ↔ Q)
    → first ≡ true
    → fine ≡ second → IsTrue fine ↔ (P × Q)
both_hold v w holds is = (
  (λ h. (v.0 holds, w.0 (cc (h, is)))),
  (λ p. let second = w.1 p.1 in cc (second, is)),
)

pub first_fails : {P Q : Type 0} {first fine : Bool} → (IsTrue first ↔ P) → first ≡ false → fine ≡ false
    → IsTrue fine ↔ (P × Q)
first_fails v fails is = (
  (λ h. let never : ⊥ = cc (h, is) in absurd never),
  (λ p. let never : ⊥ = cc (v.1 p.0, fails) in absurd never),
)

pub checks_given_both : {E : Type 0} {C P Q : Type 0} {r : Result Bool E} {a b : Shape} {R : Rule}
    → (C ↔ (P × Q))
    → Checks r a b (Given C R) → Checks r a b (Given P (Given Q R))
checks_given_both w = checks_as (λ fine m. record {
  steps = λ holds. record {
    back = λ ts f.
        let e = (m.steps holds).back ts f in
        let met = w.0 e.2.met in
        (e.0, e.1, record { met = met.0; step = record { met = met.1; step = e.2.step } });
    on = λ earlier ts f r.
        (m.steps holds).on earlier ts f (record { met = w.1 (r.met, r.step.met); step = r.step.step });
  };
  sticks = λ fails. record {
    none = λ earlier ts f r.
        (m.sticks fails).none earlier ts f (record { met = w.1 (r.met, r.step.met); step = r.step.step });
  };
})

-- a condition that holds
pub moves_met : {P : Type 0} {fine : Bool} {a b : Shape} {R : Rule} → P → Moves fine a b R
    → Moves fine a b (Given P R)
moves_met p m = record {
  steps = λ holds. record {
    back = λ ts f.
        let e = (m.steps holds).back ts f in
        (e.0, e.1, record { met = p; step = e.2 });
    on = λ earlier ts f r. (m.steps holds).on earlier ts f r.step;
  };
  sticks = λ fails. record { none = λ earlier ts f r. (m.sticks fails).none earlier ts f r.step };
}

pub checks_met : {E : Type 0} {P : Type 0} {r : Result Bool E} {a b : Shape} {R : Rule} → P
    → Checks r a b R
    → Checks r a b (Given P R)
checks_met p = checks_as (λ fine m. moves_met p m)

pub moves_found : {A : Type 0} {o : Option A} {k : A} {fine : Bool} {a b : Shape} {R : A → Rule}
    → o ≡ Some k
    → Moves fine a b (R k) → Moves fine a b (Finds o R)
moves_found {A} {k = k} {R = R} e m = record {
  steps = λ holds. record {
    back = λ ts f.
        let s = (m.steps holds).back ts f in
        (s.0, s.1, record { item = k; here = e; step = s.2 });
    on = λ earlier ts f w.
        let same : w.item ≡ k = cc (e, w.here) in
        let P : A → Type 0 = λ x. R x earlier ts in
        (m.steps holds).on earlier ts f (subst P same w.step);
  };
  sticks = λ fails. record {
    none = λ earlier ts f w.
        let same : w.item ≡ k = cc (e, w.here) in
        let P : A → Type 0 = λ x. R x earlier ts in
        (m.sticks fails).none earlier ts f (subst P same w.step);
  };
}

pub checks_found : {E A : Type 0} {o : Option A} {k : A} {r : Result Bool E} {a b : Shape} {R : A → Rule} → o ≡ Some k
    → Checks r a b (R k) → Checks r a b (Finds o R)
checks_found e = checks_as (λ fine m. moves_found e m)

-- the same with the operands and the result in other words
pub takes_as : {E : Type 0} {i j o p : List ValType} {r : Result Bool E} {a b : Shape} → i ≡ j → o ≡ p
    → Checks r a b (Takes i o) → Checks r a b (Takes j p)
takes_as {j = j} {o = o} {r = r} {a = a} {b = b} e d w =
    let P : List ValType → Type 0 = λ x. Checks r a b (Takes x o) in
    let Q : List ValType → Type 0 = λ x. Checks r a b (Takes j x) in
    subst Q d (subst P e w)

-- ---- one instruction after another

-- a typing of the rest from an instance of the shape is a typing of the whole from one of the first shape, and back
pub record Goes (c : Context) (rest : Instructions) (now : Shape) (whole : Instructions) (first : Shape)
    : Type 0 where
  pub to : (earlier ts : List ValType) → Fits first earlier → Types c whole earlier ts
      → (later : List ValType) × Fits now later × Types c rest later ts
  pub back : (later ts : List ValType) → Fits now later → Types c rest later ts
      → (earlier : List ValType) × Fits first earlier × Types c whole earlier ts

goes_next : {c : Context} {i : Instruction} {rest whole : Instructions} {a b first : Shape}
    → Goes c (then i rest) a whole first → Steps a b (Step c i) → Goes c rest b whole first
goes_next g s = record {
  to = λ earlier ts f t.
      let e = g.to earlier ts f t in
      (e.2.0, s.on e.0 e.2.0 e.1 e.2.1, e.2.2);
  back = λ later ts f t.
      let e = s.back later f in
      g.back e.0 ts e.1 (later, e.2, t);
}

sequence_next : (body : List Instr) (i : ℕ) (d : Instr) → i < length body
    → instructions_of (drop i body) ≡ then (instruction_of (get_or body i d)) (instructions_of (drop (i + 1) body))
sequence_next body i d within =
    let next : drop i body ≡ get_or body i d ∷ drop (i + 1) body = rw (add-one, drop-cons body i d) in
    ap instructions_of next

-- the typings from the instruction at this place on
from_place : {c d : Context} {items : List Instr} {instr : Instr} {a first : Shape} (body : List Instr) (i : ℕ) → c ≡ d
    → items ≡ body → i < length items → instr ≡ get_or items i instr
    → Goes d (instructions_of (drop i body)) a (instructions_of body) first
    → Goes c (then (instruction_of instr) (instructions_of (drop (i + 1) body))) a (instructions_of body) first
from_place {c} {d} {items} {instr} {a} {first} body i same e within at g =
    let whole = instructions_of body in
    let P : List Instr → Type 0 = λ x. i < length x in
    let Q : List Instr → Type 0 = λ x. instr ≡ get_or x i instr in
    let R : Context → Type 0 = λ x. Goes x (instructions_of (drop i body)) a whole first in
    let S : Instructions → Type 0 = λ x. Goes c x a whole first in
    let U : Instr → Type 0 = λ x. S (then (instruction_of x) (instructions_of (drop (i + 1) body))) in
    subst U (sym (subst Q e at))
    (subst S (sequence_next body i instr (subst P e within)) (subst R (sym same) g))

-- the instruction at this place has a typing, and the check goes on with what comes after it
pub goes_past : {c d : Context} {items : List Instr} {instr : Instr} {a b first : Shape} {fine : Bool}
    (body : List Instr) (i : ℕ) → c ≡ d → items ≡ body → i < length items → instr ≡ get_or items i instr
    → Goes d (instructions_of (drop i body)) a (instructions_of body) first → fine ≡ true
    → Moves fine a b (Step c (instruction_of instr))
    → Goes d (instructions_of (drop (i + 1) body)) b (instructions_of body) first
goes_past {b = b} {first = first} body i same e within at g holds m =
    let rest = instructions_of (drop (i + 1) body) in
    let P : Context → Type 0 = λ x. Goes x rest b (instructions_of body) first in
    subst P same (goes_next (from_place body i same e within at g) (m.steps holds))

-- it has none, so the whole has none
pub goes_nowhere : {c d : Context} {items : List Instr} {instr : Instr} {a b first : Shape} {fine : Bool}
    (body : List Instr) (i : ℕ) → c ≡ d → items ≡ body → i < length items → instr ≡ get_or items i instr
    → Goes d (instructions_of (drop i body)) a (instructions_of body) first → fine ≡ false
    → Moves fine a b (Step c (instruction_of instr)) → Sticks first (Types d (instructions_of body))
goes_nowhere body i same e within at g fails m = record {
  none = λ earlier ts f t.
      let P : Context → Type 0 = λ x. Types x (instructions_of body) earlier ts in
      let later = (from_place body i same e within at g).to earlier ts f (subst P (sym same) t) in
      (m.sticks fails).none later.0 later.2.0 later.1 later.2.1;
}

-- the end of the sequence
pub goes_to_end : {d : Context} {items : List Instr} {a first : Shape} (body : List Instr) (i : ℕ)
    → items ≡ body
    → length items ≤ i → Goes d (instructions_of (drop i body)) a (instructions_of body) first
    → Steps first a (Types d (instructions_of body))
goes_to_end {d} {items} {a} {first} body i e past g =
    let P : List Instr → Type 0 = λ x. length x ≤ i in
    let Q : List Instr → Type 0 = λ x. Goes d (instructions_of x) a (instructions_of body) first in
    let end = subst Q (drop_all i body (subst P e past)) g in
    record {
      back = λ ts f. end.back ts ts f refl;
      on = λ earlier ts f t. let last = end.to earlier ts f t in fits_along a last.2 last.1;
    }
