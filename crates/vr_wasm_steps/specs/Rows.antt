-- The step table (WebAssembly Core 1.0, sections 4.4.5 to 4.4.8): what comes next of a configuration.
use Rattle.std.specs.Prelude.{ℕ, suc, zero, ◌+◌, List, [], ◌∷◌, ◌++◌, length, Option, None, Some, Bool, true, false, if◌then◌else◌, nat_lt, nat_le, ◌==◌, slice_get, take, drop, reverse, replicate, unwrap_or}
use Rattle.vr_wasm_ast.specs.declared.tree.FuncType.{FuncType}
use Rattle.vr_wasm_ast.specs.declared.tree.ValType.{ValType}
use Rattle.vr_wasm_ast.specs.declared.tree.ValType.TheVariants.{I32, I64}
use Rattle.vr_wasm_ast.specs.Instructions.{Instruction, Instructions, done, then as then_, block, loop, if_, br, br_if, br_table, return_, call, call_indirect}
use Rattle.vr_wasm_num.specs.declared.trap.TheConstants.{TABLE_OUT_OF_BOUNDS, UNINITIALISED_ELEMENT, CALL_TYPE_MISMATCH, TOO_MANY_FRAMES, TOO_MANY_VALUES, TOO_MANY_LABELS}
use Rattle.vr_wasm_num.specs.Memory.{Contents}
use Rattle.vr_wasm_steps.specs.declared.limits.TheConstants.{MAX_FRAMES, MAX_SLOTS, MAX_LABELS}
use Rattle.vr_wasm_steps.specs.Effects.{Effect, leaves, trapped, stuck, effect, with_memory}
use Rattle.vr_wasm_steps.specs.Hosts.{Reply, gives_value, gives_nothing, exits}
use Rattle.vr_wasm_steps.specs.Store.{Store, are_of}
use Rattle.vr_wasm_steps.specs.Terms.{Term, end, value, plain, label, frame, plains, unwind, frames, slots, labels}

-- ---- programs and configurations

-- a function of the module, with its type, the number of its declared locals and its body; or the host's, with its
-- type and its number
pub data Callee : Type 0 where
  own : FuncType → ℕ → Instructions → Callee
  outside : FuncType → ℕ → Callee

abbrev pub type_of : Callee → FuncType
type_of (own sort locals body) = sort
type_of (outside sort which) = sort

-- the types and the functions of a module, and what the host replies to its world, the number of a function, the
-- arguments and the memory
pub record Program (W : Type 0) : Type 0 where
  pub types : List FuncType
  pub functions : List Callee
  pub reply : W → ℕ → List ℕ → Contents → Reply W

-- the store, the host's world and the term; and the functions that are still to be called from outside
pub record Config (W : Type 0) : Type 0 where
  pub store : Store
  pub world : W
  pub term : Term
  pub calls : List ℕ

-- ---- what a row makes of the sequence that it is in

pub data Outcome (W : Type 0) : Type 0 where
  -- its cost, and the store, the world, the frame's locals and the sequence after it
  stepped : ℕ → Store → W → List ℕ → Term → Outcome W
  -- there are only values, the last one first
  finished : List ℕ → Outcome W
  -- a branch to a label, with the operands, the last one first
  branching : ℕ → List ℕ → Outcome W
  returning : List ℕ → Outcome W
  exited : ℕ → W → Outcome W
  traps_with : ℕ → Outcome W
  no_row : Outcome W

-- one step to this sequence, which leaves the store as it is
abbrev pub goes : {W : Type 0} → Config W → List ℕ → Term → Outcome W
goes k ls s = stepped 1 k.store k.world ls s

-- the operands vs before a sequence become others, unless the values are too many then
abbrev pub settles : {W : Type 0} → Config W → List ℕ → Term → Effect → Outcome W
settles k vs s (leaves cost m ls after) =
    if nat_le (slots k.term + length after) (MAX_SLOTS + length vs)
    then stepped cost m k.world ls (unwind after s) else traps_with TOO_MANY_VALUES
settles k vs s (trapped kind) = traps_with kind
settles k vs s stuck = no_row

-- ---- blocks and branches

abbrev pub arity : Option ValType → ℕ
arity None = 0
arity (Some t) = 1

-- into a label, unless the labels are too many then
abbrev pub enters : {W : Type 0} → Config W → List ℕ → List ℕ → ℕ → Instructions → Instructions
    → Term → Outcome W
enters k ls vs n next body s =
    if nat_lt (labels k.term) MAX_LABELS
    then goes k ls (unwind vs (label n next (plains body end) s)) else traps_with TOO_MANY_LABELS

-- out of a label or a frame with its last n operands, to the sequence s after the operands vs
abbrev pub takes_along : {W : Type 0} → Config W → List ℕ → ℕ → List ℕ → List ℕ → Term → Outcome W
takes_along k ls n operands vs s =
    if nat_le n (length operands) then goes k ls (unwind vs (unwind (take n operands) s))
    else no_row

-- what the row inside a label makes of the sequence that the label is in
abbrev pub in_label : {W : Type 0} → Config W → List ℕ → List ℕ → ℕ → Instructions → Term
    → Outcome W → Outcome W
in_label k ls vs n next s (stepped cost m w now inner) =
    stepped cost m w now (unwind vs (label n next inner s))
in_label k ls vs n next s (finished operands) = goes k ls (unwind vs (unwind operands s))
in_label k ls vs n next s (branching zero operands) = takes_along k ls n operands vs (plains next s)
in_label k ls vs n next s (branching (suc l) operands) = branching l operands
in_label k ls vs n next s (returning operands) = returning operands
in_label k ls vs n next s (exited code w) = exited code w
in_label k ls vs n next s (traps_with kind) = traps_with kind
in_label k ls vs n next s no_row = no_row

-- the same of a frame, whose label is the outermost one inside it
abbrev pub in_frame : {W : Type 0} → Config W → List ℕ → List ℕ → ℕ → Term → Outcome W → Outcome W
in_frame k ls vs n s (stepped cost m w now inner) =
    stepped cost m w ls (unwind vs (frame n now inner s))
in_frame k ls vs n s (finished operands) =
    if length operands == n then goes k ls (unwind vs (unwind operands s)) else no_row
in_frame k ls vs n s (branching zero operands) = takes_along k ls n operands vs s
in_frame k ls vs n s (branching (suc l) operands) = no_row
in_frame k ls vs n s (returning operands) = takes_along k ls n operands vs s
in_frame k ls vs n s (exited code w) = exited code w
in_frame k ls vs n s (traps_with kind) = traps_with kind
in_frame k ls vs n s no_row = no_row

-- ---- calls

-- a reply, in place of the arguments: the operands vs are left
abbrev pub replied : {W : Type 0} → Config W → List ℕ → List ℕ → List ValType → Term → Reply W
    → Outcome W
replied k ls vs (t ∷ []) s (gives_value v memory w) =
    stepped 1 (with_memory k.store memory) w ls (unwind (v ∷ vs) s)
replied k ls vs [] s (gives_nothing memory w) =
    stepped 1 (with_memory k.store memory) w ls (unwind vs s)
replied k ls vs results s (exits code memory w) = exited code w
replied k ls vs results s reply = no_row

-- Each call asks in this order: whether the frames are too many, the values, and the labels. Of the operands before
-- it `before` are there, and vs are those without the index of an indirect call.
abbrev pub calls_own : {W : Type 0} → Config W → List ℕ → ℕ → List ℕ → FuncType → ℕ → Instructions
    → Term → Outcome W
calls_own k ls before vs sort locals body s =
    if nat_lt (frames k.term) MAX_FRAMES then
    (if nat_le (slots k.term + length vs + locals) (MAX_SLOTS + before) then
    (if nat_lt (labels k.term) MAX_LABELS then
    goes k ls
    (unwind (drop (length sort.params) vs)
    (frame (length sort.results) (reverse (take (length sort.params) vs) ++ replicate locals 0)
    (plains body end) s))
    else traps_with TOO_MANY_LABELS)
    else traps_with TOO_MANY_VALUES)
    else traps_with TOO_MANY_FRAMES

abbrev pub calls_outside : {W : Type 0} → Program W → Config W → List ℕ → ℕ → List ℕ → FuncType → ℕ
    → Term → Outcome W
calls_outside p k ls before vs sort which s =
    if nat_lt (frames k.term) MAX_FRAMES then
    (if nat_le (slots k.term + length vs + length sort.results)
    (MAX_SLOTS + before + length sort.params) then
    (if are_of sort.params (reverse (take (length sort.params) vs)) then
    replied k ls (drop (length sort.params) vs) sort.results s
    (p.reply k.world which (reverse (take (length sort.params) vs)) k.store.memory)
    else no_row)
    else traps_with TOO_MANY_VALUES)
    else traps_with TOO_MANY_FRAMES

abbrev pub called : {W : Type 0} → Program W → Config W → List ℕ → ℕ → List ℕ → Term → Option Callee
    → Outcome W
called p k ls before vs s None = no_row
called p k ls before vs s (Some (own sort locals body)) =
    if nat_le (length sort.params) (length vs) then calls_own k ls before vs sort locals body s
    else no_row
called p k ls before vs s (Some (outside sort which)) =
    if nat_le (length sort.params) (length vs) then calls_outside p k ls before vs sort which s
    else no_row

abbrev pub same_type : ValType → ValType → Bool
same_type I32 I32 = true
same_type I32 I64 = false
same_type I64 I32 = false
same_type I64 I64 = true

abbrev pub same_types : List ValType → List ValType → Bool
same_types [] [] = true
same_types [] (u ∷ us) = false
same_types (t ∷ ts) [] = false
same_types (t ∷ ts) (u ∷ us) = if same_type t u then same_types ts us else false

abbrev pub same_sort : FuncType → FuncType → Bool
same_sort a b = if same_types a.params b.params then same_types a.results b.results else false

-- the wanted type, and the function that the table has
abbrev pub called_as : {W : Type 0} → Program W → Config W → List ℕ → ℕ → List ℕ → Term
    → Option FuncType → Option Callee → Outcome W
called_as p k ls before vs s None f = no_row
called_as p k ls before vs s (Some sort) None = no_row
called_as p k ls before vs s (Some sort) (Some f) =
    if same_sort (type_of f) sort then called p k ls before vs s (Some f)
    else traps_with CALL_TYPE_MISMATCH

-- the element of the table
abbrev pub called_by : {W : Type 0} → Program W → Config W → List ℕ → ℕ → List ℕ → Term
    → Option FuncType → Option (Option ℕ) → Outcome W
called_by p k ls before vs s sort None = traps_with TABLE_OUT_OF_BOUNDS
called_by p k ls before vs s sort (Some None) = traps_with UNINITIALISED_ELEMENT
called_by p k ls before vs s sort (Some (Some f)) =
    called_as p k ls before vs s sort (slice_get p.functions f)

-- ---- the row of an instruction

-- before it are the locals ls and the operands vs, the last one first; after it is the sequence s
abbrev pub row : {W : Type 0} → Program W → Config W → List ℕ → List ℕ → Instruction → Term
    → Outcome W
row p k ls vs (block t body) s = enters k ls vs (arity t) done body s
row p k ls vs (loop t body) s = enters k ls vs 0 (then_ (loop t body) done) body s
row p k ls [] (if_ t taken other) s = no_row
row p k ls (v ∷ vs) (if_ t taken other) s =
    enters k ls vs (arity t) done (if v == 0 then other else taken) s
row p k ls vs (br l) s = branching l vs
row p k ls [] (br_if l) s = no_row
row p k ls (v ∷ vs) (br_if l) s = if v == 0 then goes k ls (unwind vs s) else branching l vs
row p k ls [] (br_table js l) s = no_row
row p k ls (v ∷ vs) (br_table js l) s = branching (unwrap_or (slice_get js v) l) vs
row p k ls vs return_ s = returning vs
row p k ls vs (call f) s = called p k ls (length vs) vs s (slice_get p.functions f)
row p k ls [] (call_indirect n) s = no_row
row p k ls (v ∷ vs) (call_indirect n) s =
    called_by p k ls (suc (length vs)) vs s (slice_get p.types n) (slice_get k.store.table v)
row p k ls vs i s = settles k vs s (effect k.store ls vs i)

-- the row that applies to a sequence after the operands vs
unfoldable pub walk : {W : Type 0} → Program W → Config W → List ℕ → List ℕ → Term → Outcome W
walk p k ls vs end = finished vs
walk p k ls vs (value v s) = walk p k ls (v ∷ vs) s
walk p k ls vs (plain i s) = row p k ls vs i s
walk p k ls vs (label n next inner s) = in_label k ls vs n next s (walk p k ls [] inner)
walk p k ls vs (frame n now inner s) = in_frame k ls vs n s (walk p k now [] inner)

-- ---- what comes next of a configuration

pub data Next (W : Type 0) : Type 0 where
  -- the cost of the row, and the configuration after it
  step : ℕ → Config W → Next W
  over : Next W
  exits_with : ℕ → W → Next W
  traps : ℕ → Next W
  -- no row applies
  lost : Next W

-- a call from outside, which takes no step itself, but where the function is the host's
abbrev pub called_from_outside : Option Callee → ℕ → Term
called_from_outside (Some (own sort locals body)) f =
    frame (length sort.results) (replicate locals 0) (plains body end) end
called_from_outside (Some (outside sort which)) f = plain (call f) end
called_from_outside None f = plain (call f) end

abbrev pub entry : {W : Type 0} → Program W → Config W → ℕ → List ℕ → Config W
entry p k f calls =
    record k { term = called_from_outside (slice_get p.functions f) f; calls = calls }

abbrev mutual
  -- where the term has ended the next function is called from outside
  pub next_of : {W : Type 0} → Program W → Config W → List ℕ → Outcome W → Next W
  next_of p k calls (stepped cost m w ls s) =
      step cost (record { store = m; world = w; term = s; calls = calls })
  next_of p k [] (finished vs) = over
  next_of p k (f ∷ calls) (finished vs) =
      next_of p (entry p k f calls) calls
      (walk p (entry p k f calls) [] [] (entry p k f calls).term)
  next_of p k calls (branching l vs) = lost
  next_of p k calls (returning vs) = lost
  next_of p k calls (exited code w) = exits_with code w
  next_of p k calls (traps_with kind) = traps kind
  next_of p k calls no_row = lost

abbrev pub next : {W : Type 0} → Program W → Config W → Next W
next p k = next_of p k k.calls (walk p k [] [] k.term)
