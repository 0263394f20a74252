-- An expression is a constant of the wanted type exactly where it is one constant instruction of that type.
use Rattle.std.proofs.Common.{◌≡◌, ◌≢◌, ℕ, ◌≤◌, ◌<◌, get_or, arith, List, [], ◌∷◌, ◌↔◌, Option, Some, Bool, true, false, IsTrue, slice_get, length, refl, sym, subst, ap, ◌∙◌}
use Rattle.std.specs.Prelude.{IsSomeAnd, IsFalse, option_and_then}
use Rattle.std.proofs.lemmas.Option.{option_and_then_some}
use Rattle.vr_wasm_ast.specs.declared.tree.GlobalType.{GlobalType}
use Rattle.vr_wasm_ast.specs.declared.tree.ValType.{ValType}
use Rattle.vr_wasm_ast.specs.declared.tree.ValType.TheVariants.{I32, I64}
use Rattle.vr_wasm_ast.specs.declared.instr.Instr.{Instr}
use Rattle.vr_wasm_ast.specs.Instructions.{Instruction, global_get, i32_const, i64_const, done, then, instruction_of, instructions_of}
use Rattle.vr_wasm_valid.specs.Constant.{constant_type_of, global_constant_type, unless_set}
use Rattle.vr_wasm_valid.specs.Context.{inside_constant}
use Rattle.vr_wasm_valid.specs.Parts.{IsConstant, IsConstantExpression}
use Rattle.vr_wasm_valid.specs.Steps.{Finds, LeadsTo, Takes}
use Rattle.vr_wasm_valid.proofs.TypingLemmas.{LeadsTo-HasTyping}

gives : (t : ValType) → Takes [] (t ∷ []) [] (t ∷ [])
gives t = record { below = []; taken_off = refl; put_on = refl }

-- an instruction that gives one type alone
given : {t wanted : ValType} {middle : List ValType} → Takes [] (t ∷ []) [] middle
    → middle ≡ wanted ∷ [] → t ≡ wanted
given r e = let below : [] ≡ r.below = r.taken_off in cc (below, r.put_on, e)

unset_is : (g : GlobalType) (wanted : ValType) (b : Bool) → g.variable ≡ b
    → unless_set b g.value ≡ Some wanted
    → IsFalse g.variable × (g.value ≡ wanted)
unset_is g wanted true v e = let never : ⊥ = cc e in absurd never
unset_is g wanted false v e = (v, cc e)

is_unset : (g : GlobalType) (wanted : ValType) (b : Bool) → g.variable ≡ b → IsFalse g.variable
    → g.value ≡ wanted
    → unless_set b g.value ≡ Some wanted
is_unset g wanted true v f e = let never : ⊥ = cc (v, f) in absurd never
is_unset g wanted false v f e = cc e

-- one constant instruction has a typing where it leads to the wanted type
typed_alone : (globals : List GlobalType) (wanted : ValType) (i : Instruction) → IsConstant globals i
    → LeadsTo (inside_constant globals wanted) (then i done) (Some wanted)
    → IsConstantExpression globals wanted (then i done)
typed_alone globals wanted i p r =
    record { constant = p; typed = (LeadsTo-HasTyping (inside_constant globals wanted) (then i done)).0 r }

steps_alone : (globals : List GlobalType) (wanted : ValType) (i : Instruction)
    → IsConstantExpression globals wanted (then i done)
    → LeadsTo (inside_constant globals wanted) (then i done) (Some wanted)
steps_alone globals wanted i p = (LeadsTo-HasTyping (inside_constant globals wanted) (then i done)).1 p.typed

global_typed : (globals : List GlobalType) (wanted : ValType) (n : ℕ)
    → global_constant_type globals n ≡ Some wanted
    → IsConstantExpression globals wanted (then (global_get n) done)
global_typed globals wanted n e =
    option_and_then_some (λ (g : GlobalType). unless_set g.variable g.value) (slice_get globals n) wanted e
    (λ g at f.
    let unset = unset_is g wanted g.variable refl f in
    let P : Option GlobalType → Type 0 = λ x. IsSomeAnd x (λ g. IsFalse g.variable) in
    let last = ap (λ (t : ValType). t ∷ []) unset.1 in
    let step : Finds (slice_get globals n) (λ (g : GlobalType). Takes [] (g.value ∷ [])) [] (g.value ∷ []) =
    record { item = g; here = at; step = gives g.value } in
    typed_alone globals wanted (global_get n) (subst P (sym at) unset.0) (g.value ∷ [], step, last))

typed_global : (globals : List GlobalType) (wanted : ValType) (n : ℕ)
    → IsConstantExpression globals wanted (then (global_get n) done)
    → global_constant_type globals n ≡ Some wanted
typed_global globals wanted n p =
    let r = steps_alone globals wanted (global_get n) p in
    let g = r.1.item in
    let P : Option GlobalType → Type 0 = λ x. IsSomeAnd x (λ g. IsFalse g.variable) in
    let f : Option GlobalType → Option ValType =
    λ x. option_and_then (λ (g : GlobalType). unless_set g.variable g.value) x in
    ap f r.1.here ∙ is_unset g wanted g.variable refl (subst P r.1.here p.constant) (given r.1.step r.2)

constant_typed : (globals : List GlobalType) (wanted : ValType) (i : Instruction)
    → constant_type_of globals i ≡ Some wanted → IsConstantExpression globals wanted (then i done)
constant_typed globals wanted (i32_const z) e =
    typed_alone globals wanted (i32_const z) tt (I32 ∷ [], gives I32, ap (λ (t : ValType). t ∷ []) (cc e))
constant_typed globals wanted (i64_const z) e =
    typed_alone globals wanted (i64_const z) tt (I64 ∷ [], gives I64, ap (λ (t : ValType). t ∷ []) (cc e))
constant_typed globals wanted (global_get n) e = global_typed globals wanted n e
constant_typed globals wanted i e = let never : ⊥ = cc e in absurd never

pub typed_constant : (globals : List GlobalType) (wanted : ValType) (i : Instruction)
    → IsConstantExpression globals wanted (then i done) → constant_type_of globals i ≡ Some wanted
typed_constant globals wanted (i32_const z) p =
    let r = steps_alone globals wanted (i32_const z) p in let e : I32 ≡ wanted = given r.1 r.2 in cc e
typed_constant globals wanted (i64_const z) p =
    let r = steps_alone globals wanted (i64_const z) p in let e : I64 ≡ wanted = given r.1 r.2 in cc e
typed_constant globals wanted (global_get n) p = typed_global globals wanted n p
typed_constant globals wanted i p = absurd p.constant

-- what the test of one instruction says of the expression that it is alone in
pub one_tested : {is : List Instr} {i : Instr} {fine : Bool} {found : Option ValType} (globals : List GlobalType)
    (wanted : ValType) → is ≡ i ∷ [] → found ≡ constant_type_of globals (instruction_of i)
    → (IsTrue fine ↔ (found ≡ Some wanted))
    → IsTrue fine ↔ IsConstantExpression globals wanted (instructions_of is)
one_tested {i = i} {fine = fine} globals wanted at f w =
    let P : List Instr → Type 0 =
    λ x. IsTrue fine ↔ IsConstantExpression globals wanted (instructions_of x) in
    subst P (sym at) (
      (λ holds. constant_typed globals wanted (instruction_of i) (sym f ∙ w.0 holds)),
      (λ p. w.1 (f ∙ typed_constant globals wanted (instruction_of i) p)),
    )

pub only_item : {X : Type 0} (xs : List X) (x : X) → 1 ≤ length xs → length xs < 2
    → x ≡ get_or xs 0 x → xs ≡ x ∷ []
only_item [] x low high at = let never : ⊥ = omega arith in absurd never
only_item (y ∷ []) x low high at = cc at
only_item (y ∷ z ∷ zs) x low high at = let never : ⊥ = omega arith in absurd never

constant_is_one : (globals : List GlobalType) (wanted : ValType) (is : List Instr)
    → IsConstantExpression globals wanted (instructions_of is) → length is ≡ 1
constant_is_one globals wanted [] p = absurd p.constant
constant_is_one globals wanted (i ∷ []) p = refl
constant_is_one globals wanted (i ∷ j ∷ is) p = absurd p.constant

-- an expression of another length is none
pub not_one : (globals : List GlobalType) (wanted : ValType) (is : List Instr) → length is ≢ 1
    → IsTrue false ↔ IsConstantExpression globals wanted (instructions_of is)
not_one globals wanted is n = (
  (λ holds. let never : ⊥ = cc holds in absurd never),
  (λ p. absurd (n (constant_is_one globals wanted is p))),
)
