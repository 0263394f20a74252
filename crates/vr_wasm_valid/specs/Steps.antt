-- The rules of the instructions (WebAssembly Core 1.0, section 3.3) as relations between
-- the operand types before and after, the last operand first. A typing that passes the
-- test is a chain of such steps.
use Rattle.std.specs.Prelude.{◌≡◌, ◌≤◌, List, [], ◌∷◌, ◌++◌, Option, None, Some, IsTrue, slice_get}
use Rattle.vr_wasm_ast.specs.declared.tree.ValType.{ValType}
use Rattle.vr_wasm_ast.specs.declared.tree.ValType.TheVariants.{I32, I64}
use Rattle.vr_wasm_ast.specs.Instructions.{Instruction, Instructions, unreachable, nop, block, loop, if_, br, br_if, br_table, return_, call, call_indirect, drop, select, local_get, local_set, local_tee, global_get, global_set, load, store, memory_size, memory_grow, memory_copy, memory_fill, i32_const, i64_const, numeric, done, then}
use Rattle.vr_wasm_ast.specs.Opcodes.{load_of, store_of, numeric_of, numeric_operands, numeric_result}
use Rattle.vr_wasm_valid.specs.Context.{Context, inside_block, function_type, result_list}
use Rattle.vr_wasm_valid.specs.Shape.{Rule}
use Rattle.vr_wasm_valid.specs.Typing.{AllWant, HasMemory, HasTable, arguments_of, results_of}

-- these operands are taken off and those are put on, and what lies below is left untouched
pub record Takes (taken given before after : List ValType) : Type 0 where
  pub below : List ValType
  pub taken_off : before ≡ taken ++ below
  pub put_on : after ≡ given ++ below

-- these are taken off, and the code after it can't be reached, so that any types may follow
pub record Leaves (taken before after : List ValType) : Type 0 where
  pub below : List ValType
  pub taken_off : before ≡ taken ++ below

-- one operand of any type is taken off
pub record Drops (before after : List ValType) : Type 0 where
  pub dropped : ValType
  pub step : Takes (dropped ∷ []) [] before after

-- an i32 and two operands of one type are taken off, and one of that type is put on
pub record Selects (before after : List ValType) : Type 0 where
  pub selected : ValType
  pub step : Takes (I32 ∷ selected ∷ selected ∷ []) (selected ∷ []) before after

-- a step by the rule of what is found, if something is
pub record Finds {A : Type 0} (found : Option A) (R : A → Rule) (before after : List ValType)
    : Type 0 where
  pub item : A
  pub here : found ≡ Some item
  pub step : R item before after

-- a step under a condition
pub record Given (condition : Type 0) (R : Rule) (before after : List ValType) : Type 0 where
  pub met : condition
  pub step : R before after

abbrev mutual
  -- a chain of steps leads from the types before to those after (section 3.3.6)
  pub Types : Context → Instructions → List ValType → List ValType → Type 0
  Types c done before after = before ≡ after
  Types c (then i is) before after =
      (middle : List ValType) × Step c i before middle × Types c is middle after

  -- a step by the rule of the instruction
  pub Step : Context → Instruction → List ValType → List ValType → Type 0
  -- control instructions (section 3.3.5)
  Step c unreachable before after = Leaves [] before after
  Step c nop before after = Takes [] [] before after
  Step c (block t body) before after =
      Given (Types (inside_block t c) body [] (result_list t))
      (Takes [] (result_list t)) before after
  Step c (loop t body) before after =
      Given (Types (inside_block None c) body [] (result_list t))
      (Takes [] (result_list t)) before after
  Step c (if_ t taken other) before after =
      Given (Types (inside_block t c) taken [] (result_list t))
      (Given (Types (inside_block t c) other [] (result_list t))
      (Takes (I32 ∷ []) (result_list t))) before after
  Step c (br l) before after =
      Finds (slice_get c.labels l) (λ label. Leaves (result_list label)) before after
  Step c (br_if l) before after =
      Finds (slice_get c.labels l) (λ label.
      Takes (I32 ∷ result_list label) (result_list label)) before after
  Step c (br_table ls l) before after =
      Finds (slice_get c.labels l) (λ label.
      Given (AllWant c.labels label ls) (Leaves (I32 ∷ result_list label))) before after
  Step c return_ before after = Leaves (result_list c.returns) before after
  Step c (call f) before after =
      Finds (function_type c.spaces f) (λ sort.
      Takes (arguments_of sort) (results_of sort)) before after
  Step c (call_indirect n) before after =
      Given (HasTable c.spaces) (Finds (slice_get c.spaces.types n) (λ sort.
      Takes (I32 ∷ arguments_of sort) (results_of sort))) before after
  -- parametric instructions (section 3.3.2)
  Step c drop before after = Drops before after
  Step c select before after = Selects before after
  -- variable instructions (section 3.3.3)
  Step c (local_get n) before after =
      Finds (slice_get c.locals n) (λ t. Takes [] (t ∷ [])) before after
  Step c (local_set n) before after =
      Finds (slice_get c.locals n) (λ t. Takes (t ∷ []) []) before after
  Step c (local_tee n) before after =
      Finds (slice_get c.locals n) (λ t. Takes (t ∷ []) (t ∷ [])) before after
  Step c (global_get n) before after =
      Finds (slice_get c.spaces.globals n) (λ g. Takes [] (g.value ∷ [])) before after
  Step c (global_set n) before after =
      Finds (slice_get c.spaces.globals n) (λ g.
      Given (IsTrue g.variable) (Takes (g.value ∷ []) [])) before after
  -- memory instructions (section 3.3.4; Core 2.0, section 3.3.7, for the copy and the fill)
  Step c (load op exponent offset) before after =
      Finds (load_of op) (λ a. Given (exponent ≤ a.exponent) (Given (HasMemory c.spaces)
      (Takes (I32 ∷ []) (a.value ∷ [])))) before after
  Step c (store op exponent offset) before after =
      Finds (store_of op) (λ a. Given (exponent ≤ a.exponent) (Given (HasMemory c.spaces)
      (Takes (a.value ∷ I32 ∷ []) []))) before after
  Step c memory_size before after =
      Given (HasMemory c.spaces) (Takes [] (I32 ∷ [])) before after
  Step c memory_grow before after =
      Given (HasMemory c.spaces) (Takes (I32 ∷ []) (I32 ∷ [])) before after
  Step c memory_copy before after =
      Given (HasMemory c.spaces) (Takes (I32 ∷ I32 ∷ I32 ∷ []) []) before after
  Step c memory_fill before after =
      Given (HasMemory c.spaces) (Takes (I32 ∷ I32 ∷ I32 ∷ []) []) before after
  -- numeric instructions (section 3.3.1)
  Step c (i32_const z) before after = Takes [] (I32 ∷ []) before after
  Step c (i64_const z) before after = Takes [] (I64 ∷ []) before after
  Step c (numeric op) before after =
      Finds (numeric_of op) (λ n.
      Takes (numeric_operands n) (numeric_result n ∷ [])) before after

-- a chain of steps leads from no operands to the result alone
abbrev pub LeadsTo : Context → Instructions → Option ValType → Type 0
LeadsTo c is result = Types c is [] (result_list result)
