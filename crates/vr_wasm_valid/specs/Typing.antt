-- Typings of instruction sequences as data, and the test of such data by the rules of WebAssembly
-- Core 1.0, section 3.3. Lists of operand types have the last operand first.
use Rattle.std.specs.Prelude.{◌≡◌, ℕ, ◌<◌, ◌≤◌, List, [], ◌∷◌, ◌++◌, Option, None, Some, IsTrue, All, IsSomeAnd, length, reverse, slice_get}
use Rattle.vr_wasm_ast.specs.declared.tree.FuncType.{FuncType}
use Rattle.vr_wasm_ast.specs.declared.tree.ValType.{ValType}
use Rattle.vr_wasm_ast.specs.declared.tree.ValType.TheVariants.{I32, I64}
use Rattle.vr_wasm_ast.specs.Instructions.{Instruction, Instructions, unreachable, nop, block, loop, if_, br, br_if, br_table, return_, call, call_indirect, drop, select, local_get, local_set, local_tee, global_get, global_set, load, store, memory_size, memory_grow, memory_copy, memory_fill, i32_const, i64_const, numeric, done, then}
use Rattle.vr_wasm_ast.specs.Opcodes.{load_of, store_of, numeric_of, numeric_operands, numeric_result}
use Rattle.vr_wasm_valid.specs.Context.{Context, Spaces, inside_block, function_type, result_of, result_list}

-- the operand types before each instruction of a sequence and at its end, with the typings of the
-- sequences inside each instruction
mutual
  pub data Typing : Type 0 where
    ends : List ValType → Typing
    at : List ValType → Inner → Typing → Typing

  -- of no sequence, of a block's or a loop's, of the two of an `if`
  pub data Inner : Type 0 where
    plain : Inner
    one : Typing → Inner
    two : Typing → Typing → Inner

-- the types before the first instruction
abbrev pub first_of : Typing → List ValType
first_of (ends ts) = ts
first_of (at ts inner rest) = ts

-- the types after the last instruction
abbrev pub last_of : Typing → List ValType
last_of (ends ts) = ts
last_of (at ts inner rest) = last_of rest

-- it begins with no operands, and ends with the result alone
abbrev pub Yields : Typing → Option ValType → Type 0
Yields typing result = (first_of typing ≡ []) × (last_of typing ≡ result_list result)

-- the types before begin with the taken ones, and those after are the rest with
-- the given ones in their place
abbrev pub Changes : List ValType → List ValType → List ValType → List ValType → Type 0
Changes [] given before after = after ≡ given ++ before
Changes (t ∷ taken) given [] after = ⊥
Changes (t ∷ taken) given (b ∷ before) after = (b ≡ t) × Changes taken given before after

-- the types before begin with the taken ones
abbrev pub Begins : List ValType → List ValType → Type 0
Begins [] before = Unit {0}
Begins (t ∷ taken) [] = ⊥
Begins (t ∷ taken) (b ∷ before) = (b ≡ t) × Begins taken before

-- one operand of any type is taken
abbrev pub DropsOne : List ValType → List ValType → Type 0
DropsOne [] after = ⊥
DropsOne (t ∷ before) after = before ≡ after

-- an i32 and two operands of one type are taken, and one of that type is given
abbrev pub SelectsOne : List ValType → List ValType → Type 0
SelectsOne [] after = ⊥
SelectsOne (c ∷ []) after = ⊥
SelectsOne (c ∷ t ∷ before) after = Changes (I32 ∷ t ∷ t ∷ []) (t ∷ []) (c ∷ t ∷ before) after

-- each label wants the same
abbrev pub AllWant : List (Option ValType) → Option ValType → List ℕ → Type 0
AllWant labels label ls = All (λ l. slice_get labels l ≡ Some label) ls

-- what a call takes, the last argument first
abbrev pub arguments_of : FuncType → List ValType
arguments_of sort = reverse sort.params

-- what it gives
abbrev pub results_of : FuncType → List ValType
results_of sort = result_list (result_of sort)

-- there is a table
abbrev pub HasTable : Spaces → Type 0
HasTable s = 0 < length s.tables

-- there is a memory
abbrev pub HasMemory : Spaces → Type 0
HasMemory s = 0 < length s.memories

abbrev mutual
  -- The typing passes the test: each instruction by its rule, at the lists that the
  -- typing gives (section 3.3.6).
  pub Passes : Context → Instructions → Typing → Type 0
  Passes c done (ends ts) = Unit {0}
  Passes c done (at ts inner rest) = ⊥
  Passes c (then i is) (ends ts) = ⊥
  Passes c (then i is) (at ts inner rest) = PassesAt c i inner ts (first_of rest) × Passes c is rest

  -- the rule of the instruction, at the types before it and after it
  pub PassesAt : Context → Instruction → Inner → List ValType → List ValType → Type 0
  -- control instructions (section 3.3.5)
  PassesAt c unreachable inner before after = Begins [] before
  PassesAt c nop inner before after = Changes [] [] before after
  PassesAt c (block t body) plain before after = ⊥
  PassesAt c (block t body) (two x y) before after = ⊥
  PassesAt c (block t body) (one x) before after =
      Yields x t × Passes (inside_block t c) body x × Changes [] (result_list t) before after
  PassesAt c (loop t body) plain before after = ⊥
  PassesAt c (loop t body) (two x y) before after = ⊥
  PassesAt c (loop t body) (one x) before after =
      Yields x t × Passes (inside_block None c) body x × Changes [] (result_list t) before after
  PassesAt c (if_ t taken other) plain before after = ⊥
  PassesAt c (if_ t taken other) (one x) before after = ⊥
  PassesAt c (if_ t taken other) (two x y) before after =
      Yields x t × Passes (inside_block t c) taken x
      × Yields y t × Passes (inside_block t c) other y
      × Changes (I32 ∷ []) (result_list t) before after
  PassesAt c (br l) inner before after =
      IsSomeAnd (slice_get c.labels l) (λ label. Begins (result_list label) before)
  PassesAt c (br_if l) inner before after =
      IsSomeAnd (slice_get c.labels l) (λ label.
      Changes (I32 ∷ result_list label) (result_list label) before after)
  PassesAt c (br_table ls l) inner before after =
      IsSomeAnd (slice_get c.labels l) (λ label.
      AllWant c.labels label ls × Begins (I32 ∷ result_list label) before)
  PassesAt c return_ inner before after = Begins (result_list c.returns) before
  PassesAt c (call f) inner before after =
      IsSomeAnd (function_type c.spaces f) (λ sort.
      Changes (arguments_of sort) (results_of sort) before after)
  PassesAt c (call_indirect n) inner before after =
      HasTable c.spaces × IsSomeAnd (slice_get c.spaces.types n) (λ sort.
      Changes (I32 ∷ arguments_of sort) (results_of sort) before after)
  -- parametric instructions (section 3.3.2)
  PassesAt c drop inner before after = DropsOne before after
  PassesAt c select inner before after = SelectsOne before after
  -- variable instructions (section 3.3.3)
  PassesAt c (local_get n) inner before after =
      IsSomeAnd (slice_get c.locals n) (λ t. Changes [] (t ∷ []) before after)
  PassesAt c (local_set n) inner before after =
      IsSomeAnd (slice_get c.locals n) (λ t. Changes (t ∷ []) [] before after)
  PassesAt c (local_tee n) inner before after =
      IsSomeAnd (slice_get c.locals n) (λ t. Changes (t ∷ []) (t ∷ []) before after)
  PassesAt c (global_get n) inner before after =
      IsSomeAnd (slice_get c.spaces.globals n) (λ g. Changes [] (g.value ∷ []) before after)
  PassesAt c (global_set n) inner before after =
      IsSomeAnd (slice_get c.spaces.globals n) (λ g.
      IsTrue g.variable × Changes (g.value ∷ []) [] before after)
  -- memory instructions (section 3.3.4; Core 2.0, section 3.3.7, for the copy and the fill)
  PassesAt c (load op exponent offset) inner before after =
      IsSomeAnd (load_of op) (λ a.
      (exponent ≤ a.exponent) × HasMemory c.spaces × Changes (I32 ∷ []) (a.value ∷ []) before after)
  PassesAt c (store op exponent offset) inner before after =
      IsSomeAnd (store_of op) (λ a.
      (exponent ≤ a.exponent) × HasMemory c.spaces × Changes (a.value ∷ I32 ∷ []) [] before after)
  PassesAt c memory_size inner before after =
      HasMemory c.spaces × Changes [] (I32 ∷ []) before after
  PassesAt c memory_grow inner before after =
      HasMemory c.spaces × Changes (I32 ∷ []) (I32 ∷ []) before after
  PassesAt c memory_copy inner before after =
      HasMemory c.spaces × Changes (I32 ∷ I32 ∷ I32 ∷ []) [] before after
  PassesAt c memory_fill inner before after =
      HasMemory c.spaces × Changes (I32 ∷ I32 ∷ I32 ∷ []) [] before after
  -- numeric instructions (section 3.3.1)
  PassesAt c (i32_const z) inner before after = Changes [] (I32 ∷ []) before after
  PassesAt c (i64_const z) inner before after = Changes [] (I64 ∷ []) before after
  PassesAt c (numeric op) inner before after =
      IsSomeAnd (numeric_of op) (λ n.
      Changes (numeric_operands n) (numeric_result n ∷ []) before after)

-- some typing of a function's body passes the test, from no operands to the function's result alone
abbrev pub HasTyping : Context → Instructions → Type 0
HasTyping c body = (t : Typing) × Yields t c.returns × Passes c body t
