-- Terms (WebAssembly Core 1.0, section 4.2.13): values, labels with their continuation and frames with their locals
-- stand inside the sequence.
use Rattle.std.specs.Prelude.{ℕ, ◌+◌, List, [], ◌∷◌, length}
use Rattle.vr_wasm_ast.specs.Instructions.{Instruction, Instructions, done, then}

pub data Term : Type 0 where
  end : Term
  value : ℕ → Term → Term
  plain : Instruction → Term → Term
  -- how many values a branch to it takes along, where the branch goes on, what stands inside it, and what follows it
  label : ℕ → Instructions → Term → Term → Term
  -- how many results it has, its locals, what stands inside it, and what follows it
  frame : ℕ → List ℕ → Term → Term → Term

-- these instructions, and then the term
abbrev pub plains : Instructions → Term → Term
plains done s = s
plains (then i is) s = plain i (plains is s)

-- these values, the last one first, and then the term
abbrev pub unwind : List ℕ → Term → Term
unwind [] s = s
unwind (v ∷ vs) s = unwind vs (value v s)

-- ---- what the limits count

abbrev pub frames : Term → ℕ
frames end = 0
frames (value v s) = frames s
frames (plain i s) = frames s
frames (label n is inner s) = frames inner + frames s
frames (frame n ls inner s) = 1 + frames inner + frames s

-- the operands, and the locals of all frames
abbrev pub slots : Term → ℕ
slots end = 0
slots (value v s) = 1 + slots s
slots (plain i s) = slots s
slots (label n is inner s) = slots inner + slots s
slots (frame n ls inner s) = length ls + slots inner + slots s

-- the labels, one for each function among them
abbrev pub labels : Term → ℕ
labels end = 0
labels (value v s) = labels s
labels (plain i s) = labels s
labels (label n is inner s) = 1 + labels inner + labels s
labels (frame n ls inner s) = 1 + labels inner + labels s
