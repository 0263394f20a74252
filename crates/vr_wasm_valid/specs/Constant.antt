-- The type of a constant.
use Rattle.std.specs.Prelude.{ℕ, List, Option, None, Some, Bool, true, false, option_and_then, slice_get}
use Rattle.vr_wasm_ast.specs.declared.tree.GlobalType.{GlobalType}
use Rattle.vr_wasm_ast.specs.declared.tree.ValType.{ValType}
use Rattle.vr_wasm_ast.specs.declared.tree.ValType.TheVariants.{I32, I64}
use Rattle.vr_wasm_ast.specs.Instructions.{Instruction, i32_const, i64_const, global_get}

-- the type, of what is never set
abbrev pub unless_set : Bool → ValType → Option ValType
unless_set true t = None
unless_set false t = Some t

-- the type of a global that is never set
abbrev pub global_constant_type : List GlobalType → ℕ → Option ValType
global_constant_type globals n =
    option_and_then (λ (g : GlobalType). unless_set g.variable g.value) (slice_get globals n)

-- the type of a constant instruction
abbrev pub constant_type_of : List GlobalType → Instruction → Option ValType
constant_type_of globals (i32_const z) = Some I32
constant_type_of globals (i64_const z) = Some I64
constant_type_of globals (global_get n) = global_constant_type globals n
constant_type_of globals i = None
