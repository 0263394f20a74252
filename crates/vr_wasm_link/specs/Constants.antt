-- The values of constant expressions (WebAssembly Core 1.0, sections 3.3.7.2 and 4.4.2).
use Rattle.std.specs.Prelude.{ℕ, List, [], map, slice_get, unwrap_or}
use Rattle.vr_wasm_ast.specs.declared.tree.GlobalDef.{GlobalDef}
use Rattle.vr_wasm_ast.specs.Instructions.{Instruction, Instructions, i32_const, i64_const, global_get, done, then, instructions_of}
use Rattle.vr_wasm_num.specs.Integers.{unsigned}

-- The value of a constant, where these are the values of the globals that it may name; 0 of any other instruction, and
-- of a global that isn't there: a valid module has none of these in a constant expression.
abbrev pub instruction_value : List ℕ → Instruction → ℕ
instruction_value globals (i32_const z) = unsigned 32 z
instruction_value globals (i64_const z) = unsigned 64 z
instruction_value globals (global_get n) = unwrap_or (slice_get globals n) 0
instruction_value globals i = 0

-- the value of an expression that is one constant; 0 of any other, of which a valid module has none
abbrev pub constant_value : List ℕ → Instructions → ℕ
constant_value globals done = 0
constant_value globals (then i done) = instruction_value globals i
constant_value globals (then i (then j is)) = 0

-- the first values of the globals of a module that imports none
abbrev pub global_values : List GlobalDef → List ℕ
global_values globals = map (λ (g : GlobalDef). constant_value [] (instructions_of g.init)) globals
