-- What an instruction that stays in its sequence does to the store, the locals and the operands (WebAssembly Core 1.0,
-- sections 4.4.1 to 4.4.4; Core 2.0, section 4.4.7, for copy and fill).
use Rattle.std.specs.Prelude.{ℕ, ◌+◌, ◌-◌, ◌*◌, ◌/◌, ◌%◌, ◌^◌, ◌==◌, nat_lt, nat_le, List, ◌∷◌, length, replicate, slice_get, slice_set, Option, None, Some, Result, Ok, Err, if◌then◌else◌}
use Rattle.std.specs.Option.{option_map}
use Rattle.vr_wasm_ast.specs.declared.tree.ValType.{ValType}
use Rattle.vr_wasm_ast.specs.declared.tree.ValType.TheVariants.{I32, I64}
use Rattle.vr_wasm_ast.specs.declared.opcodes.MemoryAccess.{MemoryAccess}
use Rattle.vr_wasm_ast.specs.declared.opcodes.NumericFamily.{NumericFamily}
use Rattle.vr_wasm_ast.specs.declared.opcodes.NumericFamily.TheVariants as family
use Rattle.vr_wasm_ast.specs.Instructions.{Instruction, unreachable, nop, drop, select, local_get, local_set, local_tee, global_get, global_set, load, store, memory_size, memory_grow, memory_copy, memory_fill, i32_const, i64_const, numeric}
use Rattle.vr_wasm_ast.specs.Opcodes.{load_of, store_of, numeric_of}
use Rattle.vr_wasm_num.specs.declared.trap.Trap.{Trap}
use Rattle.vr_wasm_num.specs.declared.trap.TheConstants.{UNREACHABLE, MEMORY_OUT_OF_BOUNDS}
use Rattle.vr_wasm_num.specs.Integers.{signed, unsigned, unary, binary, compare, converted, bit, Unary, Binary, Compare}
use Rattle.vr_wasm_num.specs.Memory.{Contents, number_of, bytes_of, part, pages_of, with_piece, with_pages}
use Rattle.vr_wasm_num.specs.Opcodes.{i32_unary_of, i64_unary_of, i32_binary_of, i64_binary_of, i32_compare_of, i64_compare_of, conversion_of}
use Rattle.vr_wasm_steps.specs.Store.{Store, width, is_of}

pub data Effect : Type 0 where
  -- its cost, and the store, the locals and the operands after it, the last operand first
  leaves : ℕ → Store → List ℕ → List ℕ → Effect
  trapped : ℕ → Effect
  -- no rule applies
  stuck : Effect

abbrev pub with_memory : Store → Contents → Store
with_memory m memory = record m { memory = memory }

abbrev pub with_globals : Store → List ℕ → Store
with_globals m globals = record m { globals = globals }

-- ---- integers

abbrev pub unary_of : ValType → ℕ → Option Unary
unary_of I32 op = i32_unary_of op
unary_of I64 op = i64_unary_of op

abbrev pub binary_of : ValType → ℕ → Option Binary
binary_of I32 op = i32_binary_of op
binary_of I64 op = i64_binary_of op

abbrev pub compare_of : ValType → ℕ → Option Compare
compare_of I32 op = i32_compare_of op
compare_of I64 op = i64_compare_of op

-- the result in place of the operands, of which these are left
abbrev pub gives : Store → List ℕ → List ℕ → Option (Result ℕ Trap) → Effect
gives m ls vs None = stuck
gives m ls vs (Some (Ok v)) = leaves 1 m ls (v ∷ vs)
gives m ls vs (Some (Err trap)) = trapped trap.kind

-- an instruction on integers of this family, at one operand or two, the last one first
abbrev pub computes : Store → List ℕ → List ℕ → ℕ → NumericFamily → Effect
computes m ls (i ∷ vs) op (family.Unary t) =
    if is_of t i then gives m ls vs (option_map (λ f. Ok (unary f (width t) i)) (unary_of t op))
    else stuck
computes m ls (i ∷ vs) op (family.Test t) =
    if is_of t i
    then gives m ls vs (option_map (λ f. Ok (bit (compare f (width t) i 0))) (compare_of t op))
    else stuck
computes m ls (i ∷ vs) op (family.Conversion from to) =
    if is_of from i then gives m ls vs (option_map (λ f. Ok (converted f i)) (conversion_of op))
    else stuck
computes m ls (j ∷ i ∷ vs) op (family.Binary t) =
    if is_of t i then
    (if is_of t j
    then gives m ls vs (option_map (λ f. binary f (width t) i j) (binary_of t op)) else stuck)
    else stuck
computes m ls (j ∷ i ∷ vs) op (family.Comparison t) =
    if is_of t i then
    (if is_of t j
    then gives m ls vs (option_map (λ f. Ok (bit (compare f (width t) i j))) (compare_of t op))
    else stuck)
    else stuck
computes m ls vs op f = stuck

-- an instruction on integers, where the opcode is one
abbrev pub computed : Store → List ℕ → List ℕ → ℕ → Option NumericFamily → Effect
computed m ls vs op None = stuck
computed m ls vs op (Some f) = computes m ls vs op f

-- ---- memory

-- a number that was read from so many bytes, in the width of its type; so many bytes spell no other number than one
-- of their width
abbrev pub extended : MemoryAccess → ℕ → ℕ
extended a v =
    if a.signed then unsigned (width a.value) (signed (8 * 2 ^ a.exponent) v)
    else v % 2 ^ (8 * 2 ^ a.exponent)

-- so many bytes from a place on are there, or the program traps
abbrev pub if_there : Store → ℕ → ℕ → Effect → Effect
if_there m at len effect =
    if nat_le (at + len) (length m.memory.bytes) then effect else trapped MEMORY_OUT_OF_BOUNDS

abbrev pub loads : Store → List ℕ → List ℕ → ℕ → ℕ → Option MemoryAccess → Effect
loads m ls vs i offset None = stuck
loads m ls vs i offset (Some a) =
    if is_of I32 i then
    if_there m (i + offset) (2 ^ a.exponent)
    (leaves 1 m ls
    (extended a (number_of (part m.memory.bytes (i + offset) (2 ^ a.exponent))) ∷ vs))
    else stuck

abbrev pub stores : Store → List ℕ → List ℕ → ℕ → ℕ → ℕ → Option MemoryAccess → Effect
stores m ls vs i v offset None = stuck
stores m ls vs i v offset (Some a) =
    if is_of I32 i then
    if_there m (i + offset) (2 ^ a.exponent)
    (leaves 1
    (with_memory m (with_piece m.memory (i + offset) (bytes_of (2 ^ a.exponent) v))) ls vs)
    else stuck

-- the size before, or 2 ^ 32 - 1 where the pages are too many
abbrev pub grows : Store → List ℕ → List ℕ → ℕ → Effect
grows m ls vs more =
    if is_of I32 more then
    (if nat_le (pages_of m.memory + more) m.memory.most
    then leaves 1 (with_memory m (with_pages m.memory more)) ls (pages_of m.memory ∷ vs)
    else leaves 1 m ls ((2 ^ 32 - 1) ∷ vs))
    else stuck

-- a row costs one more for each 16 bytes
abbrev pub cost_of : ℕ → ℕ
cost_of len = 1 + len / 16

abbrev pub copies : Store → List ℕ → List ℕ → ℕ → ℕ → ℕ → Effect
copies m ls vs to from len =
    if_there m to len
    (if_there m from len
    (leaves (cost_of len)
    (with_memory m (with_piece m.memory to (part m.memory.bytes from len))) ls vs))

abbrev pub fills : Store → List ℕ → List ℕ → ℕ → ℕ → ℕ → Effect
fills m ls vs at v len =
    if_there m at len
    (leaves (cost_of len) (with_memory m (with_piece m.memory at (replicate len (v % 256)))) ls vs)

-- ---- variables

-- one more operand, where there is one
abbrev pub pushes : Store → List ℕ → List ℕ → Option ℕ → Effect
pushes m ls vs None = stuck
pushes m ls vs (Some v) = leaves 1 m ls (v ∷ vs)

abbrev pub sets_local : Store → List ℕ → List ℕ → ℕ → ℕ → Effect
sets_local m ls vs x v = if nat_lt x (length ls) then leaves 1 m (slice_set ls x v) vs else stuck

abbrev pub sets_global : Store → List ℕ → List ℕ → ℕ → ℕ → Effect
sets_global m ls vs x v =
    if nat_lt x (length m.globals) then leaves 1 (with_globals m (slice_set m.globals x v)) ls vs
    else stuck

-- ---- all of them: the store, the locals and the operands before the instruction

abbrev pub effect : Store → List ℕ → List ℕ → Instruction → Effect
effect m ls vs unreachable = trapped UNREACHABLE
effect m ls vs nop = leaves 1 m ls vs
effect m ls (v ∷ vs) drop = leaves 1 m ls vs
effect m ls (c ∷ b ∷ a ∷ vs) select = leaves 1 m ls ((if c == 0 then b else a) ∷ vs)
effect m ls vs (local_get x) = pushes m ls vs (slice_get ls x)
effect m ls (v ∷ vs) (local_set x) = sets_local m ls vs x v
effect m ls (v ∷ vs) (local_tee x) = sets_local m ls (v ∷ vs) x v
effect m ls vs (global_get x) = pushes m ls vs (slice_get m.globals x)
effect m ls (v ∷ vs) (global_set x) = sets_global m ls vs x v
effect m ls (i ∷ vs) (load op exponent offset) = loads m ls vs i offset (load_of op)
effect m ls (v ∷ i ∷ vs) (store op exponent offset) = stores m ls vs i v offset (store_of op)
effect m ls vs memory_size = leaves 1 m ls (pages_of m.memory ∷ vs)
effect m ls (more ∷ vs) memory_grow = grows m ls vs more
effect m ls (len ∷ from ∷ to ∷ vs) memory_copy = copies m ls vs to from len
effect m ls (len ∷ v ∷ at ∷ vs) memory_fill = fills m ls vs at v len
effect m ls vs (i32_const z) = leaves 1 m ls (unsigned 32 z ∷ vs)
effect m ls vs (i64_const z) = leaves 1 m ls (unsigned 64 z ∷ vs)
effect m ls vs (numeric op) = computed m ls vs op (numeric_of op)
effect m ls vs i = stuck
