-- A typing that passes the test is the same as a chain of steps by the rules.
use Rattle.std.proofs.Common.{◌≡◌, List, [], ◌∷◌, ◌++◌, ◌↔◌, Option, None, Some, Result, Ok, Err, IfOk, Bool, IsTrue, reverse, refl, sym, subst}
use Rattle.std.specs.Prelude.{IsSomeAnd}
use Rattle.vr_wasm_ast.specs.declared.tree.ValType.{ValType}
use Rattle.vr_wasm_ast.specs.declared.tree.ValType.TheVariants.{I32}
use Rattle.vr_wasm_ast.specs.Instructions.{Instruction, Instructions, unreachable, nop, block, loop, if_, br, br_if, br_table, return_, call, call_indirect, drop, select, local_get, local_set, local_tee, global_get, global_set, load, store, memory_size, memory_grow, memory_copy, memory_fill, i32_const, i64_const, numeric, done, then}
use Rattle.vr_wasm_valid.specs.Context.{Context, Spaces, inside_block, inside_function, result_list}
use Rattle.vr_wasm_valid.specs.Shape.{Rule}
use Rattle.vr_wasm_valid.specs.Steps.{Drops, Finds, Given, Leaves, LeadsTo, Selects, Step, Takes, Types}
use Rattle.vr_wasm_valid.specs.Typing.{Typing, ends, at, Inner, plain, one, two, first_of, last_of, Changes, Begins, DropsOne, SelectsOne, HasTyping, Passes, PassesAt}

-- ---- tests and rules of instructions without others inside them

from_takes : (taken given below after : List ValType) → after ≡ given ++ below
    → Changes taken given (taken ++ below) after
from_takes [] given below after e = e
from_takes (t ∷ taken) given below after e = (refl, from_takes taken given below after e)

to_takes : (taken given before after : List ValType) → Changes taken given before after
    → Takes taken given before after
to_takes [] given before after r = record { below = before; taken_off = refl; put_on = r }
to_takes (t ∷ taken) given [] after r = absurd r
to_takes (t ∷ taken) given (b ∷ before) after r =
    let e = to_takes taken given before after r.1 in
    record { below = e.below; taken_off = cc (e.taken_off, r.0); put_on = e.put_on }

takes : {taken given before after : List ValType}
    → Changes taken given before after ↔ Takes taken given before after
takes {taken} {given} {before} {after} = (
  to_takes taken given before after,
  (λ r.
      let P : List ValType → Type 0 = λ x. Changes taken given x after in
      subst P (sym r.taken_off) (from_takes taken given r.below after r.put_on)),
)

from_leaves : (taken below : List ValType) → Begins taken (taken ++ below)
from_leaves [] below = tt
from_leaves (t ∷ taken) below = (refl, from_leaves taken below)

to_leaves : (taken before after : List ValType) → Begins taken before → Leaves taken before after
to_leaves [] before after r = record { below = before; taken_off = refl }
to_leaves (t ∷ taken) [] after r = absurd r
to_leaves (t ∷ taken) (b ∷ before) after r =
    let e = to_leaves taken before after r.1 in
    record { below = e.below; taken_off = cc (e.taken_off, r.0) }

leaves : {taken before after : List ValType} → Begins taken before ↔ Leaves taken before after
leaves {taken} {before} {after} = (
  to_leaves taken before after,
  (λ r.
      let P : List ValType → Type 0 = λ x. Begins taken x in
      subst P (sym r.taken_off) (from_leaves taken r.below)),
)

to_drops : (before after : List ValType) → DropsOne before after → Drops before after
to_drops [] after r = absurd r
to_drops (t ∷ below) after r =
    record { dropped = t; step = record { below = below; taken_off = refl; put_on = sym r } }

drops : {before after : List ValType} → DropsOne before after ↔ Drops before after
drops {before} {after} = (
  to_drops before after,
  (λ r.
      let P : List ValType → Type 0 = λ x. DropsOne x after in
      subst P (sym r.step.taken_off) (sym r.step.put_on)),
)

to_selects : (before after : List ValType) → SelectsOne before after → Selects before after
to_selects [] after r = absurd r
to_selects (c ∷ []) after r = absurd r
to_selects (c ∷ t ∷ before) after r =
    record { selected = t; step = to_takes (I32 ∷ t ∷ t ∷ []) (t ∷ []) (c ∷ t ∷ before) after r }

selects : {before after : List ValType} → SelectsOne before after ↔ Selects before after
selects {before} {after} = (
  to_selects before after,
  (λ r.
      let P : List ValType → Type 0 = λ x. SelectsOne x after in
      subst P (sym r.step.taken_off) (refl, (refl, (refl, r.step.put_on)))),
)

to_finds : {A : Type 0} (o : Option A) (P : A → Type 0) (R : A → Rule) (before after : List ValType)
    → ((x : A) → P x → R x before after) → IsSomeAnd o P → Finds o R before after
to_finds None P R before after f r = absurd r
to_finds (Some x) P R before after f r = record { item = x; here = refl; step = f x r }

finds : {A : Type 0} {o : Option A} {P : A → Type 0} {R : A → Rule} {before after : List ValType}
    → ((x : A) → P x ↔ R x before after) → IsSomeAnd o P ↔ Finds o R before after
finds {A} {o} {P} {R} {before} {after} w = (
  to_finds o P R before after (λ x. (w x).0),
  (λ r. let Q : Option A → Type 0 = λ x. IsSomeAnd x P in subst Q (sym r.here) ((w r.item).1 r.step)),
)

given : {C P : Type 0} {R : Rule} {before after : List ValType} → (P ↔ R before after)
    → (C × P) ↔ Given C R before after
given w = ((λ p. record { met = p.0; step = w.0 p.1 }), (λ r. (r.met, w.1 r.step)))

given_two : {C D P : Type 0} {R : Rule} {before after : List ValType} → (P ↔ R before after)
    → (C × D × P) ↔ Given C (Given D R) before after
given_two w = (
  (λ p. record { met = p.0; step = record { met = p.1; step = w.0 p.2 } }),
  (λ r. (r.met, r.step.met, w.1 r.step.step)),
)

-- it has no instructions inside it
abbrev IsPlain : Instruction → Type 0
IsPlain (block t body) = ⊥
IsPlain (loop t body) = ⊥
IsPlain (if_ t taken other) = ⊥
IsPlain i = Unit {0}

rule : (c : Context) (i : Instruction) (inner : Inner) (before after : List ValType) → IsPlain i
    → PassesAt c i inner before after ↔ Step c i before after
rule c unreachable inner before after p = leaves
rule c nop inner before after p = takes
rule c (br l) inner before after p = finds (λ label. leaves)
rule c (br_if l) inner before after p = finds (λ label. takes)
rule c (br_table ls l) inner before after p = finds (λ label. given leaves)
rule c return_ inner before after p = leaves
rule c (call f) inner before after p = finds (λ sort. takes)
rule c (call_indirect n) inner before after p = given (finds (λ sort. takes))
rule c drop inner before after p = drops
rule c select inner before after p = selects
rule c (local_get n) inner before after p = finds (λ t. takes)
rule c (local_set n) inner before after p = finds (λ t. takes)
rule c (local_tee n) inner before after p = finds (λ t. takes)
rule c (global_get n) inner before after p = finds (λ g. takes)
rule c (global_set n) inner before after p = finds (λ g. given takes)
rule c (load op exponent offset) inner before after p = finds (λ a. given_two takes)
rule c (store op exponent offset) inner before after p = finds (λ a. given_two takes)
rule c memory_size inner before after p = given takes
rule c memory_grow inner before after p = given takes
rule c memory_copy inner before after p = given takes
rule c memory_fill inner before after p = given takes
rule c (i32_const z) inner before after p = takes
rule c (i64_const z) inner before after p = takes
rule c (numeric op) inner before after p = finds (λ n. takes)
rule c i inner before after p = absurd p

-- ---- sequences, and instructions with others inside them

types_along : {a b x y : List ValType} (c : Context) (is : Instructions) → a ≡ x → b ≡ y
    → Types c is a b
    → Types c is x y
types_along {a} {b} {x} {y} c is e d r =
    let P : List ValType → Type 0 = λ u. Types c is u b in
    let Q : List ValType → Type 0 = λ u. Types c is x u in
    subst Q d (subst P e r)

-- a typing from these types to those passes the test
abbrev PassesFrom : Context → Instructions → List ValType → List ValType → Type 0
PassesFrom c is before after = (t : Typing) × (first_of t ≡ before) × (last_of t ≡ after) × Passes c is t

mutual
  passes : (c : Context) (is : Instructions) (before after : List ValType) → Types c is before after
      → PassesFrom c is before after
  passes c done before after r = (ends before, refl, r, tt)
  passes c (then i is) before after r =
      let rest = passes c is r.0 after r.2 in
      let here = passes_at c i before r.0 r.1 in
      let P : List ValType → Type 0 = λ x. PassesAt c i here.0 before x in
      (at before here.0 rest.0, refl, rest.2, (subst P (sym rest.1) here.1, rest.3))

  passes_at : (c : Context) (i : Instruction) (before after : List ValType) → Step c i before after
      → (inner : Inner) × PassesAt c i inner before after
  passes_at c (block t body) before after r =
      let x = passes (inside_block t c) body [] (result_list t) r.met in
      (one x.0, ((x.1, x.2), x.3, takes.1 r.step))
  passes_at c (loop t body) before after r =
      let x = passes (inside_block None c) body [] (result_list t) r.met in
      (one x.0, ((x.1, x.2), x.3, takes.1 r.step))
  passes_at c (if_ t taken other) before after r =
      let x = passes (inside_block t c) taken [] (result_list t) r.met in
      let y = passes (inside_block t c) other [] (result_list t) r.step.met in
      (two x.0 y.0, ((x.1, x.2), x.3, (y.1, y.2), y.3, takes.1 r.step.step))
  passes_at c i before after r = (plain, (rule c i plain before after tt).1 r)

mutual
  types : (c : Context) (is : Instructions) (t : Typing) → Passes c is t
      → Types c is (first_of t) (last_of t)
  types c done (ends ts) p = refl
  types c done (at ts inner rest) p = absurd p
  types c (then i is) (ends ts) p = absurd p
  types c (then i is) (at ts inner rest) p =
      (first_of rest, step c i inner ts (first_of rest) p.0, types c is rest p.1)

  step : (c : Context) (i : Instruction) (inner : Inner) (before after : List ValType)
      → PassesAt c i inner before after
      → Step c i before after
  step c (block t body) plain before after p = absurd p
  step c (block t body) (two x y) before after p = absurd p
  step c (block t body) (one x) before after p =
      let inside = types_along (inside_block t c) body p.0.0 p.0.1 (types (inside_block t c) body x p.1) in
      record { met = inside; step = takes.0 p.2 }
  step c (loop t body) plain before after p = absurd p
  step c (loop t body) (two x y) before after p = absurd p
  step c (loop t body) (one x) before after p =
      let inside = types_along (inside_block None c) body p.0.0 p.0.1 (types (inside_block None c) body x p.1) in
      record { met = inside; step = takes.0 p.2 }
  step c (if_ t taken other) plain before after p = absurd p
  step c (if_ t taken other) (one x) before after p = absurd p
  step c (if_ t taken other) (two x y) before after p = record {
    met = types_along (inside_block t c) taken p.0.0 p.0.1 (types (inside_block t c) taken x p.1);
    step = record {
      met = types_along (inside_block t c) other p.2.0 p.2.1 (types (inside_block t c) other y p.3);
      step = takes.0 p.4;
    };
  }
  step c i inner before after p = (rule c i inner before after tt).0 p

-- there is a chain of steps to the result exactly where there is a typing
pub LeadsTo-HasTyping : (c : Context) (body : Instructions)
    → LeadsTo c body c.returns ↔ HasTyping c body
LeadsTo-HasTyping c body = (
  (λ r. let x = passes c body [] (result_list c.returns) r in (x.0, (x.1, x.2), x.3)),
  (λ h. types_along c body h.1.0 h.1.1 (types c body h.0 h.2)),
)

-- the same of the check of a function's body
pub body_checked : {E : Type 0} (s : Spaces) (locals : List ValType) (body : Instructions)
    {returns result : Option ValType}
    {labels : List (Option ValType)} (r : Result Bool E) → returns ≡ result → labels ≡ []
    → IfOk r (λ fine. IsTrue fine ↔
    LeadsTo (record { spaces = s; locals = locals; returns = returns; labels = returns ∷ reverse labels })
    body returns)
    → IfOk r (λ fine. IsTrue fine ↔ HasTyping (inside_function s locals result) body)
body_checked s locals body (Err e) same none w = w
body_checked s locals body {returns} {result} (Ok fine) same none w =
    let P : List (Option ValType) → Type 0 = λ x.
    IsTrue fine ↔
    LeadsTo (record { spaces = s; locals = locals; returns = returns; labels = returns ∷ reverse x })
    body returns
    in
    let Q : Option ValType → Type 0 = λ x. IsTrue fine ↔ LeadsTo (inside_function s locals x) body x in
    let v = subst Q same (subst P none w) in
    let law = LeadsTo-HasTyping (inside_function s locals result) body in
    ((λ holds. law.0 (v.0 holds)), (λ h. v.1 (law.1 h)))
