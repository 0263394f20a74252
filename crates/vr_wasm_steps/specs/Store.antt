-- What a running program keeps beside its term (WebAssembly Core 1.0, section 4.2.3), and the numbers of a type.
use Rattle.std.specs.Prelude.{ℕ, ◌^◌, List, [], ◌∷◌, Option, Bool, true, false, if◌then◌else◌, nat_lt}
use Rattle.vr_wasm_ast.specs.declared.tree.ValType.{ValType}
use Rattle.vr_wasm_ast.specs.declared.tree.ValType.TheVariants.{I32, I64}
use Rattle.vr_wasm_num.specs.Memory.{Contents}

pub record Store : Type 0 where
  pub memory : Contents
  -- for each place the index of a function, where one was put there
  pub table : List (Option ℕ)
  pub globals : List ℕ

abbrev pub width : ValType → ℕ
width I32 = 32
width I64 = 64

-- it is a number of this type
abbrev pub is_of : ValType → ℕ → Bool
is_of t v = nat_lt v (2 ^ width t)

-- they are as many numbers as types, each of its type
abbrev pub are_of : List ValType → List ℕ → Bool
are_of [] [] = true
are_of [] (v ∷ vs) = false
are_of (t ∷ ts) [] = false
are_of (t ∷ ts) (v ∷ vs) = if is_of t v then are_of ts vs else false
