-- Typings of terms: values put back, sequences put before a term, and what lies below the operands.
use Rattle.std.proofs.Common.{ℕ, ◌≡◌, List, [], ◌∷◌, ◌++◌, append_assoc, append-nil, length, refl, ap, sym, ◌∙◌, subst, Option, Some, None}
use Rattle.vr_wasm_ast.specs.declared.tree.ValType.{ValType}
use Rattle.vr_wasm_ast.specs.declared.tree.ValType.TheVariants.{I32}
use Rattle.vr_wasm_ast.specs.Instructions.{Instruction, Instructions, unreachable, nop, block, loop, if_, br, br_if, br_table, return_, call, call_indirect, drop, select, local_get, local_set, local_tee, global_get, global_set, load, store, memory_size, memory_grow, memory_copy, memory_fill, i32_const, i64_const, numeric, done, then as then_}
use Rattle.vr_wasm_steps.specs.Rows.{arity}
use Rattle.vr_wasm_steps.specs.Terms.{Term, end, value, plains, unwind}
use Rattle.vr_wasm_valid.specs.Context.{Context, result_list}
use Rattle.vr_wasm_valid.specs.Shape.{Rule}
use Rattle.vr_wasm_valid.specs.Steps.{Takes, Leaves, Drops, Selects, Finds, Given, Step, Types}
use Rattle.vr_wasm_progress.specs.Typed.{Fits, TermTypes}

-- ---- terms

pub along : (c : Context) (s : Term) (x y after : List ValType) → x ≡ y → TermTypes c s x after
    → TermTypes c s y after
along c s x y after e t = subst (λ (u : List ValType). TermTypes c s u after) e t

-- values put back before a term
pub unwound : (c : Context) (ts : List ValType) (vs : List ℕ) (s : Term) (before after : List ValType)
    → Fits ts vs → TermTypes c s (ts ++ before) after → TermTypes c (unwind vs s) before after
unwound c [] [] s before after f t = t
unwound c [] (v ∷ vs) s before after f t = absurd f
unwound c (u ∷ ts) [] s before after f t = absurd f
unwound c (u ∷ ts) (v ∷ vs) s before after f t =
    unwound c ts vs (value v s) before after f.1 (u, f.0, t)

-- all the values that there are
pub all_unwound : (c : Context) (ts : List ValType) (vs : List ℕ) (s : Term) (after : List ValType)
    → Fits ts vs → TermTypes c s ts after → TermTypes c (unwind vs s) [] after
all_unwound c ts vs s after f t =
    unwound c ts vs s [] after f (along c s ts (ts ++ []) after (sym (append-nil ts)) t)

-- instructions put before a term
pub plains_typed : (c : Context) (is : Instructions) (s : Term) (before middle after : List ValType)
    → Types c is before middle → TermTypes c s middle after → TermTypes c (plains is s) before after
plains_typed c done s before middle after k t = along c s middle before after (sym k) t
plains_typed c (then_ i is) s before middle after k t =
    (k.0, k.1, plains_typed c is s k.0 middle after k.2 t)

-- instructions alone
pub body_typed : (c : Context) (is : Instructions) (after : List ValType) → Types c is [] after
    → TermTypes c (plains is end) [] after
body_typed c is after k = plains_typed c is end [] after after k refl

pub result_length : (o : Option ValType) → length (result_list o) ≡ arity o
result_length None = refl
result_length (Some t) = refl

-- ---- what lies below the operands stays there

-- a rule that holds with more operands below too
Stays : Rule → Type 0
Stays R = (before after below : List ValType) → R before after → R (before ++ below) (after ++ below)

takes_above : (taken given : List ValType) → Stays (Takes taken given)
unfolding Stays
takes_above taken given before after below r = record {
  below = r.below ++ below;
  taken_off = ap (λ (x : List ValType). x ++ below) r.taken_off ∙ append_assoc taken r.below below;
  put_on = ap (λ (x : List ValType). x ++ below) r.put_on ∙ append_assoc given r.below below;
}

leaves_above : (taken : List ValType) → Stays (Leaves taken)
unfolding Stays
leaves_above taken before after below r = record {
  below = r.below ++ below;
  taken_off = ap (λ (x : List ValType). x ++ below) r.taken_off ∙ append_assoc taken r.below below;
}

found_above : {A : Type 0} (found : Option A) (R : A → Rule) → ((x : A) → Stays (R x)) → Stays (Finds found R)
unfolding Stays
found_above found R stays before after below r =
    record { item = r.item; here = r.here; step = stays r.item before after below r.step }

given_above : (P : Type 0) (R : Rule) → Stays R → Stays (Given P R)
unfolding Stays
given_above P R stays before after below r = record { met = r.met; step = stays before after below r.step }

drops_above : Stays Drops
unfolding Stays
drops_above before after below r =
    record { dropped = r.dropped; step = takes_above (r.dropped ∷ []) [] before after below r.step }

selects_above : Stays Selects
unfolding Stays
selects_above before after below r = record {
  selected = r.selected;
  step = takes_above (I32 ∷ r.selected ∷ r.selected ∷ []) (r.selected ∷ []) before after below r.step;
}

step_above : (c : Context) (i : Instruction) → Stays (Step c i)
step_above c unreachable = leaves_above []
step_above c nop = takes_above [] []
step_above c (block t body) = given_above _ _ (takes_above _ _)
step_above c (loop t body) = given_above _ _ (takes_above _ _)
step_above c (if_ t taken other) = given_above _ _ (given_above _ _ (takes_above _ _))
step_above c (br l) = found_above _ _ (λ label. leaves_above _)
step_above c (br_if l) = found_above _ _ (λ label. takes_above _ _)
step_above c (br_table ls l) = found_above _ _ (λ label. given_above _ _ (leaves_above _))
step_above c return_ = leaves_above _
step_above c (call f) = found_above _ _ (λ sort. takes_above _ _)
step_above c (call_indirect n) = given_above _ _ (found_above _ _ (λ sort. takes_above _ _))
step_above c drop = drops_above
step_above c select = selects_above
step_above c (local_get n) = found_above _ _ (λ t. takes_above _ _)
step_above c (local_set n) = found_above _ _ (λ t. takes_above _ _)
step_above c (local_tee n) = found_above _ _ (λ t. takes_above _ _)
step_above c (global_get n) = found_above _ _ (λ g. takes_above _ _)
step_above c (global_set n) = found_above _ _ (λ g. given_above _ _ (takes_above _ _))
step_above c (load op exponent offset) =
    found_above _ _ (λ a. given_above _ _ (given_above _ _ (takes_above _ _)))
step_above c (store op exponent offset) =
    found_above _ _ (λ a. given_above _ _ (given_above _ _ (takes_above _ _)))
step_above c memory_size = given_above _ _ (takes_above _ _)
step_above c memory_grow = given_above _ _ (takes_above _ _)
step_above c memory_copy = given_above _ _ (takes_above _ _)
step_above c memory_fill = given_above _ _ (takes_above _ _)
step_above c (i32_const z) = takes_above _ _
step_above c (i64_const z) = takes_above _ _
step_above c (numeric op) = found_above _ _ (λ n. takes_above _ _)

pub types_above : (c : Context) (is : Instructions) (before after below : List ValType)
    → Types c is before after → Types c is (before ++ below) (after ++ below)
unfolding Stays
types_above c done before after below r = ap (λ (x : List ValType). x ++ below) r
types_above c (then_ i is) before after below r =
    (r.0 ++ below, step_above c i before r.0 below r.1, types_above c is r.0 after below r.2)
