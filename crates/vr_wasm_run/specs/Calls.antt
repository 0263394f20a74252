-- What a call comes to: the limits that it asks for, the frame that it enters, the host's reply.
use Rattle.std.specs.Prelude.{ℕ, ◌+◌, ◌≡◌, ◌≤◌, List, [], ◌∷◌, length, take, drop, reverse, slice_get, Option, None, Some, IsTrue, if◌then◌else◌, nat_lt, nat_le}
use Rattle.vr_wasm_ast.specs.declared.instr.Instr.{Instr}
use Rattle.vr_wasm_ast.specs.declared.tree.FuncType.{FuncType}
use Rattle.vr_wasm_ast.specs.declared.tree.ValType.{ValType}
use Rattle.vr_wasm_link.specs.declared.functions.Callee.{Callee}
use Rattle.vr_wasm_link.specs.declared.functions.Callee.TheVariants.{Own, Outside}
use Rattle.vr_wasm_num.specs.declared.trap.TheConstants.{TOO_MANY_FRAMES, TOO_MANY_VALUES, TOO_MANY_LABELS}
use Rattle.vr_wasm_num.specs.Memory.{Contents}
use Rattle.vr_wasm_steps.specs.declared.limits.TheConstants.{MAX_FRAMES, MAX_SLOTS, MAX_LABELS}
use Rattle.vr_wasm_steps.specs.Hosts.{Reply, gives_value, gives_nothing, exits}
use Rattle.vr_wasm_steps.specs.Rows.{Callee as Function, own, outside}
use Rattle.vr_wasm_steps.specs.Store.{are_of}
use Rattle.vr_wasm_steps.specs.Terms.{Term, frames, slots, labels}
use Rattle.vr_wasm_stacks.specs.Positions.{Position, term_of, with_operands, with_code, called}
use Rattle.vr_wasm_run.specs.declared.progress.Progress.{Progress}
use Rattle.vr_wasm_run.specs.declared.progress.Progress.TheVariants.{Went, Exited, Trapped, Stopped}

-- ---- functions

-- the number that a host finds for two names and a type
abbrev pub Finds : Type 0
Finds = List ℕ → List ℕ → FuncType → Option ℕ

-- what a host replies, in its world, to the number of a function, the arguments and the memory
abbrev pub Replies : Type 0 → Type 0
Replies W = W → ℕ → List ℕ → Contents → Reply W

-- a function of the module has one result at most and no more locals than may be there; the host
-- has found the other one for its type
abbrev pub IsCallable : Finds → Function → Type 0
IsCallable finds (own sort locals body) = (length sort.results ≤ 1) × (locals ≤ MAX_SLOTS)
IsCallable finds (outside sort which) =
    (from : List ℕ) × (name : List ℕ) × (finds from name sort ≡ Some which)

-- each of the functions is such a one
abbrev pub AreCallable : Finds → List Function → Type 0
AreCallable finds functions =
    (place : ℕ) (f : Function) → slice_get functions place ≡ Some f → IsCallable finds f

-- ---- limits

-- the trap of the first limit that a call would pass, whose frame has so many locals beside the
-- arguments
abbrev pub passed : Term → ℕ → Option ℕ
passed s locals =
    if nat_lt (frames s) MAX_FRAMES then
    (if nat_le (slots s + locals) MAX_SLOTS then
    (if nat_lt (labels s) MAX_LABELS then None else Some TOO_MANY_LABELS)
    else Some TOO_MANY_VALUES)
    else Some TOO_MANY_FRAMES

-- the same of a function of the host, whose results come in place of its arguments
abbrev pub passed_outside : Term → FuncType → Option ℕ
passed_outside s sort =
    if nat_lt (frames s) MAX_FRAMES then
    (if nat_le (slots s + length sort.results) (MAX_SLOTS + length sort.params) then None
    else Some TOO_MANY_VALUES)
    else Some TOO_MANY_FRAMES

-- ---- arguments

-- the last operands, the first of them first
abbrev pub arguments : FuncType → Position → List ℕ
arguments sort z = reverse (take (length sort.params) z.operands)

-- there are as many as the function has parameters; those for the host are of its types, where no
-- limit is passed
abbrev pub HasArguments : Callee → Position → Type 0
HasArguments (Own sort locals body) z = length sort.now.params ≤ length z.operands
HasArguments (Outside sort which) z =
    (length sort.now.params ≤ length z.operands)
    × (passed_outside (term_of z) sort.now ≡ None
    → IsTrue (are_of sort.now.params (arguments sort.now z)))

-- ---- what it comes to

-- into a frame, at the position `there`, where no limit is passed
abbrev pub IsEntered : Option ℕ → Position → Progress → Position → Type 0
IsEntered (Some kind) there progress z' = progress ≡ Trapped kind
IsEntered None there progress z' = (progress ≡ Went 1) × (z' ≡ there)

-- the reply of the host: the position is the one without the arguments, and then the one, the
-- memory and the world after the call
abbrev pub IsReplied : {W : Type 0} → List ValType → Reply W
    → Position → Progress → Position → Contents → W → Type 0
IsReplied (t ∷ []) (gives_value v memory w) z (Went cost) z' memory' w' =
    (cost ≡ 1) × (z' ≡ with_operands z (v ∷ z.operands)) × (memory' ≡ memory) × (w' ≡ w)
IsReplied [] (gives_nothing memory w) z (Went cost) z' memory' w' =
    (cost ≡ 1) × (z' ≡ z) × (memory' ≡ memory) × (w' ≡ w)
IsReplied results (exits code memory w) z (Exited n) z' memory' w' = (n ≡ code) × (w' ≡ w)
IsReplied results reply z Stopped z' memory' w' = Unit {0}
IsReplied results reply z progress z' memory' w' = ⊥

-- the same, where no limit is passed
abbrev pub IsAsked : {W : Type 0} → Option ℕ → List ValType → Reply W
    → Position → Progress → Position → Contents → W → Type 0
IsAsked (Some kind) results reply z progress z' memory' w' = progress ≡ Trapped kind
IsAsked None results reply z progress z' memory' w' =
    IsReplied results reply z progress z' memory' w'

-- without the arguments, before what follows the call
abbrev pub answered_at : FuncType → Position → List Instr → Position
answered_at sort z rest = with_code (with_operands z (drop (length sort.params) z.operands)) rest

-- a call, with these instructions after it: the position, the memory and the world before it and
-- after it
abbrev pub IsCalled : {W : Type 0} → Replies W → Callee → List Instr
    → Position → Contents → W → Progress → Position → Contents → W → Type 0
IsCalled reply (Own sort locals body) rest z memory w progress z' memory' w' =
    IsEntered (passed (term_of z) locals)
    (called z (length sort.now.params) locals (length sort.now.results) rest body.now) progress z'
    × (memory' ≡ memory) × (w' ≡ w)
IsCalled reply (Outside sort which) rest z memory w progress z' memory' w' =
    IsAsked (passed_outside (term_of z) sort.now) sort.now.results
    (reply w which (arguments sort.now z) memory)
    (answered_at sort.now z rest) progress z' memory' w'
