-- Instructions that stay in their sequence, and those that leave it.
use Rattle.std.specs.Prelude.{List, [], ◌∷◌}
use Rattle.vr_wasm_ast.specs.declared.instr.Instr.{Instr}
use Rattle.vr_wasm_ast.specs.Instructions.{Instruction, block, loop, if_, br, br_if, br_table, return_, call, call_indirect, instruction_of}

-- an instruction that stays in its sequence
abbrev pub IsPlain : Instruction → Type 0
IsPlain (block t body) = ⊥
IsPlain (loop t body) = ⊥
IsPlain (if_ t taken other) = ⊥
IsPlain (br l) = ⊥
IsPlain (br_if l) = ⊥
IsPlain (br_table js l) = ⊥
IsPlain return_ = ⊥
IsPlain (call f) = ⊥
IsPlain (call_indirect n) = ⊥
IsPlain i = Unit {0}

-- the end of a sequence, or an instruction that leaves it
abbrev pub IsStretchEnd : List Instr → Type 0
IsStretchEnd [] = Unit {0}
IsStretchEnd (i ∷ rest) = IsPlain (instruction_of i) → ⊥
