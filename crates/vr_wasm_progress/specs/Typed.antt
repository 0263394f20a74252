-- Typings of terms and of configurations (WebAssembly Core 1.0, appendix A.5), over the rules of
-- the instructions. Lists of operand types have the last operand first, as lists of operands have.
use Rattle.std.specs.Prelude.{ℕ, ◌^◌, ◌<◌, ◌≡◌, List, [], ◌∷◌, ◌++◌, All, length, map, slice_get, Option, None, Some, IfSome}
use Rattle.std.specs.List.{AllByRecursion}
use Rattle.vr_wasm_ast.specs.declared.tree.FuncType.{FuncType}
use Rattle.vr_wasm_ast.specs.declared.tree.GlobalType.{GlobalType}
use Rattle.vr_wasm_ast.specs.declared.tree.ValType.{ValType}
use Rattle.vr_wasm_ast.specs.Instructions.{call}
use Rattle.vr_wasm_num.specs.Memory.{Contents, IsPaged}
use Rattle.vr_wasm_steps.specs.Effects.{Effect, leaves, trapped, stuck}
use Rattle.vr_wasm_steps.specs.Hosts.{Reply, FitsResults}
use Rattle.vr_wasm_steps.specs.Rows.{Callee, own, outside, type_of, Program, Config, Outcome, stepped, finished, branching, returning, exited, traps_with, no_row, arity, Next, step, over, exits_with, traps, lost}
use Rattle.vr_wasm_steps.specs.Store.{Store, width}
use Rattle.vr_wasm_steps.specs.Terms.{Term, end, value, plain, label, frame}
use Rattle.vr_wasm_valid.specs.Context.{Context, Spaces, function_type, inside_block, inside_function, result_list, result_of}
use Rattle.vr_wasm_valid.specs.Parts.{StartFits}
use Rattle.vr_wasm_valid.specs.Steps.{Step, Types}

-- ---- values

-- a number of this type
abbrev pub Has : ValType → ℕ → Type 0
Has t v = v < 2 ^ width t

-- as many numbers as types, each of its type
abbrev pub Fits : List ValType → List ℕ → Type 0
Fits [] [] = Unit {0}
Fits [] (v ∷ vs) = ⊥
Fits (t ∷ ts) [] = ⊥
Fits (t ∷ ts) (v ∷ vs) = Has t v × Fits ts vs

-- the last of these operands are of these types
abbrev pub Brings : List ValType → List ℕ → Type 0
Brings wanted vs = (below : List ValType) × Fits (wanted ++ below) vs

-- ---- stores and programs

-- the types of the values of globals
abbrev pub global_values : List GlobalType → List ValType
global_values globals = map (λ (g : GlobalType). g.value) globals

-- what may be in a place of a table: nothing, or a function that is there
abbrev pub NamesFunction : Spaces → Option ℕ → Type 0
NamesFunction s entry = IfSome entry (λ f. f < length s.functions)

-- the store has a memory, a table of functions, and a number of its type for each global
pub record StoreFits (s : Spaces) (m : Store) : Type 0 where
  pub memory : IsPaged m.memory
  pub table : All (NamesFunction s) m.table
  pub globals : Fits (global_values s.globals) m.globals

-- the body of a function leads to its result; or the replies of the host's function fit its type
abbrev pub CalleeFits : {W : Type 0} → Spaces → (W → ℕ → List ℕ → Contents → Reply W) → Callee
    → Type 0
CalleeFits s reply (own sort locals body) =
    (declared : List ValType) × (length declared ≡ locals)
    × Types (inside_function s (sort.params ++ declared) (result_of sort)) body
    [] (result_list (result_of sort))
CalleeFits {W} s reply (outside sort which) =
    (w : W) (args : List ℕ) (memory : Contents) → Fits sort.params args
    → FitsResults sort.results memory (reply w which args memory)

-- the function that a program has for one of this type
pub record HasFunction {W : Type 0} (s : Spaces) (p : Program W) (f : ℕ) (sort : FuncType)
    : Type 0 where
  pub callee : Callee
  pub there : slice_get p.functions f ≡ Some callee
  pub typed : type_of callee ≡ sort
  pub one_result : length sort.results ≡ arity (result_of sort)
  pub fits : CalleeFits s p.reply callee

-- the program has the types and the functions that code may name
pub record ProgramFits {W : Type 0} (s : Spaces) (p : Program W) : Type 0 where
  pub types : p.types ≡ s.types
  pub named : (f : ℕ) → f < length s.functions
      → (sort : FuncType) × (function_type s f ≡ Some sort)
  pub functions : (f : ℕ) (sort : FuncType) → function_type s f ≡ Some sort
      → HasFunction s p f sort

-- ---- terms

-- A term leads from operands of some types to operands of others. What stands inside a label or a
-- frame begins with no operands. The continuation of a label leads from what a branch to it takes
-- along to what the label gives.
abbrev pub TermTypes : Context → Term → List ValType → List ValType → Type 0
TermTypes c end before after = before ≡ after
TermTypes c (value v s) before after =
    (t : ValType) × Has t v × TermTypes c s (t ∷ before) after
TermTypes c (plain i s) before after =
    (middle : List ValType) × Step c i before middle × TermTypes c s middle after
TermTypes c (label n next inner s) before after =
    (wanted : Option ValType) × (given : Option ValType) × (arity wanted ≡ n)
    × Types c next (result_list wanted) (result_list given)
    × TermTypes (inside_block wanted c) inner [] (result_list given)
    × TermTypes c s (result_list given ++ before) after
TermTypes c (frame n ls inner s) before after =
    (locals : List ValType) × (result : Option ValType) × (arity result ≡ n) × Fits locals ls
    × TermTypes (inside_function c.spaces locals result) inner [] (result_list result)
    × TermTypes c s (result_list result ++ before) after

-- The term of a whole program: it has ended, or a function that takes and gives nothing is to be
-- called or is running.
abbrev pub IsOutermost : Spaces → Term → Type 0
IsOutermost s end = Unit {0}
IsOutermost s (plain (call f) end) = StartFits s f
IsOutermost s (frame n ls inner end) =
    (n ≡ 0) × (locals : List ValType) × Fits locals ls
    × TermTypes (inside_function s locals None) inner [] []
IsOutermost s term = ⊥

-- ---- what rows make

-- what an instruction does leaves operands of these types
abbrev pub EffectFits : Context → List ValType → Effect → Type 0
EffectFits c after (leaves cost m ls vs) = StoreFits c.spaces m × Fits c.locals ls × Fits after vs
EffectFits c after (trapped kind) = Unit {0}
EffectFits c after stuck = ⊥

-- the outcome of a row in a term that leads to these types
abbrev pub OutcomeFits : {W : Type 0} → Context → List ValType → Outcome W → Type 0
OutcomeFits c after (stepped cost m w ls s) =
    StoreFits c.spaces m × Fits c.locals ls × TermTypes c s [] after
OutcomeFits c after (finished vs) = Fits after vs
OutcomeFits c after (branching l vs) =
    (wanted : Option ValType) × (slice_get c.labels l ≡ Some wanted)
    × Brings (result_list wanted) vs
OutcomeFits c after (returning vs) = Brings (result_list c.returns) vs
OutcomeFits c after (exited code w) = Unit {0}
OutcomeFits c after (traps_with kind) = Unit {0}
OutcomeFits c after no_row = ⊥

-- the outcome of a row of a whole program
abbrev pub WholeFits : {W : Type 0} → Spaces → Outcome W → Type 0
WholeFits s (stepped cost m w ls term) = StoreFits s m × IsOutermost s term
WholeFits s (finished vs) = Unit {0}
WholeFits s (branching l vs) = ⊥
WholeFits s (returning vs) = ⊥
WholeFits s (exited code w) = Unit {0}
WholeFits s (traps_with kind) = Unit {0}
WholeFits s no_row = ⊥

-- ---- configurations

-- the store and the term fit, and each function that is still to be called takes and gives nothing
pub record ConfigFits {W : Type 0} (s : Spaces) (k : Config W) : Type 0 where
  pub store : StoreFits s k.store
  pub term : IsOutermost s k.term
  pub calls : AllByRecursion (StartFits s) k.calls

-- what comes next is a configuration that fits, or the program has ended
abbrev pub NextFits : {W : Type 0} → Spaces → Next W → Type 0
NextFits s (step cost k) = ConfigFits s k
NextFits s over = Unit {0}
NextFits s (exits_with code w) = Unit {0}
NextFits s (traps kind) = Unit {0}
NextFits s lost = ⊥
