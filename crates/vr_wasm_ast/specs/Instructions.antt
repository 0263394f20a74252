-- Instructions as data (WebAssembly Core 1.0, section 2.4; Core 2.0, section 2.4.6, for memory.copy
-- and memory.fill), under the standard's names.
use Rattle.std.specs.Prelude.{ℕ, ℤ, List, [], ◌∷◌, Option, map}
use Rattle.vr_wasm_ast.specs.declared.instr.Instr.{Instr, fold-Instr}
use Rattle.vr_wasm_ast.specs.declared.instr.Instr.TheOpen.{Instr-F}
use Rattle.vr_wasm_ast.specs.declared.tree.ValType.{ValType}

mutual
  pub data Instruction : Type 0 where
    unreachable : Instruction
    nop : Instruction
    block : Option ValType → Instructions → Instruction
    loop : Option ValType → Instructions → Instruction
    -- the instructions of the branch that is taken at a number other than
    -- 0, and those of the other one
    if_ : Option ValType → Instructions → Instructions → Instruction
    br : ℕ → Instruction
    br_if : ℕ → Instruction
    -- the labels, and the default label
    br_table : List ℕ → ℕ → Instruction
    return_ : Instruction
    call : ℕ → Instruction
    call_indirect : ℕ → Instruction
    drop : Instruction
    select : Instruction
    local_get : ℕ → Instruction
    local_set : ℕ → Instruction
    local_tee : ℕ → Instruction
    global_get : ℕ → Instruction
    global_set : ℕ → Instruction
    -- the opcode, the exponent of the alignment, and the offset
    load : ℕ → ℕ → ℕ → Instruction
    store : ℕ → ℕ → ℕ → Instruction
    memory_size : Instruction
    memory_grow : Instruction
    memory_copy : Instruction
    memory_fill : Instruction
    i32_const : ℤ → Instruction
    i64_const : ℤ → Instruction
    -- the opcode of an instruction on integers
    numeric : ℕ → Instruction

  -- a sequence of instructions
  pub data Instructions : Type 0 where
    done : Instructions
    then : Instruction → Instructions → Instructions

-- a list of instructions as one sequence
abbrev pub sequence_of : List Instruction → Instructions
sequence_of [] = done
sequence_of (i ∷ is) = then i (sequence_of is)

-- an instruction of the tree, in which those inside it are instructions as data
abbrev pub node_of : Instr-F Instruction → Instruction
node_of Instr-F.Unreachable = unreachable
node_of Instr-F.Nop = nop
node_of (Instr-F.Block t body) = block t (sequence_of body)
node_of (Instr-F.Loop t body) = loop t (sequence_of body)
node_of (Instr-F.If t taken other) = if_ t (sequence_of taken) (sequence_of other)
node_of (Instr-F.Br n) = br n
node_of (Instr-F.BrIf n) = br_if n
node_of (Instr-F.BrTable ns n) = br_table ns n
node_of Instr-F.Return = return_
node_of (Instr-F.Call n) = call n
node_of (Instr-F.CallIndirect n) = call_indirect n
node_of Instr-F.Drop = drop
node_of Instr-F.Select = select
node_of (Instr-F.LocalGet n) = local_get n
node_of (Instr-F.LocalSet n) = local_set n
node_of (Instr-F.LocalTee n) = local_tee n
node_of (Instr-F.GlobalGet n) = global_get n
node_of (Instr-F.GlobalSet n) = global_set n
node_of (Instr-F.Load op exponent offset) = load op exponent offset
node_of (Instr-F.Store op exponent offset) = store op exponent offset
node_of Instr-F.MemorySize = memory_size
node_of Instr-F.MemoryGrow = memory_grow
node_of Instr-F.MemoryCopy = memory_copy
node_of Instr-F.MemoryFill = memory_fill
node_of (Instr-F.I32Const z) = i32_const z
node_of (Instr-F.I64Const z) = i64_const z
node_of (Instr-F.Numeric op) = numeric op

-- an instruction of the tree as data
abbrev pub instruction_of : Instr → Instruction
instruction_of = fold-Instr Instruction node_of

-- a list of instructions of the tree as one sequence
abbrev pub instructions_of : List Instr → Instructions
instructions_of is = sequence_of (map instruction_of is)
