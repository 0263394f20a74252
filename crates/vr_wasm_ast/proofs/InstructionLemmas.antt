-- What each variant of the tree is as data.
use Rattle.std.proofs.Common.{◌≡◌, ℕ, ℤ, List, Option, ap, sym, ◌∙◌}
use Rattle.vr_wasm_ast.specs.declared.tree.ValType.{ValType}
use Rattle.vr_wasm_ast.specs.declared.instr.Instr.{Instr, fold-roll-Instr}
use Rattle.vr_wasm_ast.specs.declared.instr.Instr.TheOpen.{Instr-F}
use Rattle.vr_wasm_ast.specs.declared.instr.Instr.TheVariants.{Unreachable, Nop, Block, Loop, If, Br, BrIf, BrTable, Return, Call, CallIndirect, Drop, Select, LocalGet, LocalSet, LocalTee, GlobalGet, GlobalSet, Load, Store, MemorySize, MemoryGrow, MemoryCopy, MemoryFill, I32Const, I64Const, Numeric, rolls-Unreachable, rolls-Nop, rolls-Block, rolls-Loop, rolls-If, rolls-Br, rolls-BrIf, rolls-BrTable, rolls-Return, rolls-Call, rolls-CallIndirect, rolls-Drop, rolls-Select, rolls-LocalGet, rolls-LocalSet, rolls-LocalTee, rolls-GlobalGet, rolls-GlobalSet, rolls-Load, rolls-Store, rolls-MemorySize, rolls-MemoryGrow, rolls-MemoryCopy, rolls-MemoryFill, rolls-I32Const, rolls-I64Const, rolls-Numeric}
use Rattle.vr_wasm_ast.specs.Instructions.{Instruction, unreachable, nop, block, loop, if_, br, br_if, br_table, return_, call, call_indirect, drop, select, local_get, local_set, local_tee, global_get, global_set, load, store, memory_size, memory_grow, memory_copy, memory_fill, i32_const, i64_const, numeric, node_of, instruction_of, instructions_of}

pub instruction_of-Unreachable : instruction_of Unreachable ≡ unreachable
instruction_of-Unreachable = ap instruction_of (sym rolls-Unreachable) ∙ fold-roll-Instr Instruction node_of Instr-F.Unreachable

pub instruction_of-Nop : instruction_of Nop ≡ nop
instruction_of-Nop = ap instruction_of (sym rolls-Nop) ∙ fold-roll-Instr Instruction node_of Instr-F.Nop

pub instruction_of-Block : (t : Option ValType) (body : List Instr) → instruction_of (Block t body) ≡ block t (instructions_of body)
instruction_of-Block t body = ap instruction_of (sym (rolls-Block t body)) ∙ fold-roll-Instr Instruction node_of (Instr-F.Block t body)

pub instruction_of-Loop : (t : Option ValType) (body : List Instr) → instruction_of (Loop t body) ≡ loop t (instructions_of body)
instruction_of-Loop t body = ap instruction_of (sym (rolls-Loop t body)) ∙ fold-roll-Instr Instruction node_of (Instr-F.Loop t body)

pub instruction_of-If : (t : Option ValType) (taken other : List Instr) → instruction_of (If t taken other) ≡ if_ t (instructions_of taken) (instructions_of other)
instruction_of-If t taken other = ap instruction_of (sym (rolls-If t taken other)) ∙ fold-roll-Instr Instruction node_of (Instr-F.If t taken other)

pub instruction_of-Br : (n : ℕ) → instruction_of (Br n) ≡ br n
instruction_of-Br n = ap instruction_of (sym (rolls-Br n)) ∙ fold-roll-Instr Instruction node_of (Instr-F.Br n)

pub instruction_of-BrIf : (n : ℕ) → instruction_of (BrIf n) ≡ br_if n
instruction_of-BrIf n = ap instruction_of (sym (rolls-BrIf n)) ∙ fold-roll-Instr Instruction node_of (Instr-F.BrIf n)

pub instruction_of-BrTable : (ns : List ℕ) (n : ℕ) → instruction_of (BrTable ns n) ≡ br_table ns n
instruction_of-BrTable ns n = ap instruction_of (sym (rolls-BrTable ns n)) ∙ fold-roll-Instr Instruction node_of (Instr-F.BrTable ns n)

pub instruction_of-Return : instruction_of Return ≡ return_
instruction_of-Return = ap instruction_of (sym rolls-Return) ∙ fold-roll-Instr Instruction node_of Instr-F.Return

pub instruction_of-Call : (n : ℕ) → instruction_of (Call n) ≡ call n
instruction_of-Call n = ap instruction_of (sym (rolls-Call n)) ∙ fold-roll-Instr Instruction node_of (Instr-F.Call n)

pub instruction_of-CallIndirect : (n : ℕ) → instruction_of (CallIndirect n) ≡ call_indirect n
instruction_of-CallIndirect n = ap instruction_of (sym (rolls-CallIndirect n)) ∙ fold-roll-Instr Instruction node_of (Instr-F.CallIndirect n)

pub instruction_of-Drop : instruction_of Drop ≡ drop
instruction_of-Drop = ap instruction_of (sym rolls-Drop) ∙ fold-roll-Instr Instruction node_of Instr-F.Drop

pub instruction_of-Select : instruction_of Select ≡ select
instruction_of-Select = ap instruction_of (sym rolls-Select) ∙ fold-roll-Instr Instruction node_of Instr-F.Select

pub instruction_of-LocalGet : (n : ℕ) → instruction_of (LocalGet n) ≡ local_get n
instruction_of-LocalGet n = ap instruction_of (sym (rolls-LocalGet n)) ∙ fold-roll-Instr Instruction node_of (Instr-F.LocalGet n)

pub instruction_of-LocalSet : (n : ℕ) → instruction_of (LocalSet n) ≡ local_set n
instruction_of-LocalSet n = ap instruction_of (sym (rolls-LocalSet n)) ∙ fold-roll-Instr Instruction node_of (Instr-F.LocalSet n)

pub instruction_of-LocalTee : (n : ℕ) → instruction_of (LocalTee n) ≡ local_tee n
instruction_of-LocalTee n = ap instruction_of (sym (rolls-LocalTee n)) ∙ fold-roll-Instr Instruction node_of (Instr-F.LocalTee n)

pub instruction_of-GlobalGet : (n : ℕ) → instruction_of (GlobalGet n) ≡ global_get n
instruction_of-GlobalGet n = ap instruction_of (sym (rolls-GlobalGet n)) ∙ fold-roll-Instr Instruction node_of (Instr-F.GlobalGet n)

pub instruction_of-GlobalSet : (n : ℕ) → instruction_of (GlobalSet n) ≡ global_set n
instruction_of-GlobalSet n = ap instruction_of (sym (rolls-GlobalSet n)) ∙ fold-roll-Instr Instruction node_of (Instr-F.GlobalSet n)

pub instruction_of-Load : (op exponent offset : ℕ) → instruction_of (Load op exponent offset) ≡ load op exponent offset
instruction_of-Load op exponent offset = ap instruction_of (sym (rolls-Load op exponent offset)) ∙ fold-roll-Instr Instruction node_of (Instr-F.Load op exponent offset)

pub instruction_of-Store : (op exponent offset : ℕ) → instruction_of (Store op exponent offset) ≡ store op exponent offset
instruction_of-Store op exponent offset = ap instruction_of (sym (rolls-Store op exponent offset)) ∙ fold-roll-Instr Instruction node_of (Instr-F.Store op exponent offset)

pub instruction_of-MemorySize : instruction_of MemorySize ≡ memory_size
instruction_of-MemorySize = ap instruction_of (sym rolls-MemorySize) ∙ fold-roll-Instr Instruction node_of Instr-F.MemorySize

pub instruction_of-MemoryGrow : instruction_of MemoryGrow ≡ memory_grow
instruction_of-MemoryGrow = ap instruction_of (sym rolls-MemoryGrow) ∙ fold-roll-Instr Instruction node_of Instr-F.MemoryGrow

pub instruction_of-MemoryCopy : instruction_of MemoryCopy ≡ memory_copy
instruction_of-MemoryCopy = ap instruction_of (sym rolls-MemoryCopy) ∙ fold-roll-Instr Instruction node_of Instr-F.MemoryCopy

pub instruction_of-MemoryFill : instruction_of MemoryFill ≡ memory_fill
instruction_of-MemoryFill = ap instruction_of (sym rolls-MemoryFill) ∙ fold-roll-Instr Instruction node_of Instr-F.MemoryFill

pub instruction_of-I32Const : (z : ℤ) → instruction_of (I32Const z) ≡ i32_const z
instruction_of-I32Const z = ap instruction_of (sym (rolls-I32Const z)) ∙ fold-roll-Instr Instruction node_of (Instr-F.I32Const z)

pub instruction_of-I64Const : (z : ℤ) → instruction_of (I64Const z) ≡ i64_const z
instruction_of-I64Const z = ap instruction_of (sym (rolls-I64Const z)) ∙ fold-roll-Instr Instruction node_of (Instr-F.I64Const z)

pub instruction_of-Numeric : (op : ℕ) → instruction_of (Numeric op) ≡ numeric op
instruction_of-Numeric op = ap instruction_of (sym (rolls-Numeric op)) ∙ fold-roll-Instr Instruction node_of (Instr-F.Numeric op)
