-- Loads that copy a sign.
use Rattle.std.specs.Prelude.{ℕ, ◌<◌, Bool, true, false}
use Rattle.vr_wasm_ast.specs.declared.opcodes.MemoryAccess.{MemoryAccess}
use Rattle.vr_wasm_ast.specs.declared.tree.ValType.{ValType}
use Rattle.vr_wasm_ast.specs.declared.tree.ValType.TheVariants.{I32, I64}

-- the exponent of the natural alignment
abbrev pub natural : ValType → ℕ
natural I32 = 2
natural I64 = 3

abbrev pub IsNarrowIf : Bool → ValType → ℕ → Type 0
IsNarrowIf true t exponent = exponent < natural t
IsNarrowIf false t exponent = Unit {0}

-- fewer bits are read than the type has, where the sign is copied
abbrev pub IsNarrow : MemoryAccess → Type 0
IsNarrow a = IsNarrowIf a.signed a.value a.exponent
