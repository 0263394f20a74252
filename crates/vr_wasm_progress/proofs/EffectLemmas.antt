-- What an instruction that stays in its sequence does is of the types that its rule says.
use Rattle.std.proofs.Common.{ℕ, ◌+◌, ◌-◌, ◌^◌, ◌≡◌, ◌<◌, List, [], ◌∷◌, ◌++◌, length, ap, sym, ◌∙◌, subst, arith, Option, Some, None, Result, Ok, Err, option_map, slice_get, if◌then◌else◌, nat_le, nat_lt, ◌==◌}
use Rattle.std.proofs.lemmas.Bool.{lt-ltb}
use Rattle.std.proofs.lemmas.Option.{slice_get_within, slice_get-map}
use Rattle.vr_wasm_ast.specs.declared.opcodes.MemoryAccess.{MemoryAccess}
use Rattle.vr_wasm_ast.specs.declared.opcodes.NumericFamily.{NumericFamily}
use Rattle.vr_wasm_ast.specs.declared.opcodes.NumericFamily.TheVariants as family
use Rattle.vr_wasm_ast.specs.declared.tree.GlobalType.{GlobalType}
use Rattle.vr_wasm_ast.specs.declared.tree.ValType.{ValType}
use Rattle.vr_wasm_ast.specs.declared.tree.ValType.TheVariants.{I32, I64}
use Rattle.vr_wasm_ast.specs.Instructions.{Instruction, unreachable, nop, block, loop, if_, br, br_if, br_table, return_, call, call_indirect, drop, select, local_get, local_set, local_tee, global_get, global_set, load, store, memory_size, memory_grow, memory_copy, memory_fill, i32_const, i64_const, numeric}
use Rattle.vr_wasm_ast.specs.Opcodes.{load_of, store_of, numeric_of, numeric_operands, numeric_result}
use Rattle.vr_wasm_num.specs.declared.trap.Trap.{Trap}
use Rattle.vr_wasm_num.specs.Integers.{unary, binary, compare, converted, bit}
use Rattle.vr_wasm_num.specs.Memory.{Contents, IsPaged, number_of, pages_of, part}
use Rattle.vr_wasm_steps.specs.Effects.{Effect, stuck, effect, gives, computes, computed, loads, stores, grows, copies, fills, pushes, sets_local, sets_global, unary_of, binary_of, compare_of, with_memory}
use Rattle.vr_wasm_steps.specs.Store.{Store, width, is_of}
use Rattle.vr_wasm_valid.specs.Context.{Context}
use Rattle.vr_wasm_valid.specs.Steps.{Takes, Step}
use Rattle.vr_wasm_progress.specs.Typed.{Has, Fits, StoreFits, EffectFits, global_values}
use Rattle.vr_wasm_progress.proofs.CaseLemmas.{either_way, surely, where_true}
use Rattle.vr_wasm_progress.proofs.FittingLemmas.{fits_along, fits_get, fits_set}
use Rattle.vr_wasm_progress.proofs.MemoryLemmas.{loaded, stored_memory, copied_memory, filled_memory, grown_memory, pages_width}
use Rattle.vr_wasm_progress.proofs.NumberLemmas.{IsWithin, HasOperation, has_operation, unary_width, binary_width, bit_width, unsigned_width}

-- the operands before a step
pub taken_off : {taken given before after : List ValType} (vs : List ℕ) (r : Takes taken given before after)
    → Fits before vs → Fits (taken ++ r.below) vs
taken_off {taken} {before = before} vs r f = fits_along before (taken ++ r.below) vs r.taken_off f

width_some : (t : ValType) → 0 < width t
width_some I32 = omega arith
width_some I64 = omega arith

-- the instructions that stay in their sequence
abbrev pub StaysInside : Instruction → Type 0
StaysInside (block t body) = ⊥
StaysInside (loop t body) = ⊥
StaysInside (if_ t taken other) = ⊥
StaysInside (br l) = ⊥
StaysInside (br_if l) = ⊥
StaysInside (br_table ls l) = ⊥
StaysInside return_ = ⊥
StaysInside (call f) = ⊥
StaysInside (call_indirect n) = ⊥
StaysInside i = Unit {0}

-- the result of an operation, which has this type, or a trap
abbrev ResultFits : ValType → Option (Result ℕ Trap) → Type 0
ResultFits t None = ⊥
ResultFits t (Some r) = IsWithin (width t) r

-- a result of each operation that an opcode may have
each_result : {X : Type 0} (t : ValType) (result : X → Result ℕ Trap) (o : Option X)
    → ((x : X) × (o ≡ Some x)) → ((x : X) → IsWithin (width t) (result x)) → ResultFits t (option_map result o)
each_result t result o there fits =
    subst (λ q. ResultFits t (option_map result q)) (sym there.1) (fits there.0)

pub with_memory_fits : (c : Context) (m : Store) (memory : Contents) → StoreFits c.spaces m → IsPaged memory
    → StoreFits c.spaces (with_memory m memory)
with_memory_fits c m memory fs f = record { memory = f; table = fs.table; globals = fs.globals }

-- the type of a global's value
value_there : (gs : List GlobalType) (i : ℕ) (g : GlobalType) → slice_get gs i ≡ Some g
    → slice_get (global_values gs) i ≡ Some g.value
value_there gs i g e =
    slice_get-map (λ (z : GlobalType). z.value) gs i
    ∙ ap (λ (o : Option GlobalType). option_map (λ (z : GlobalType). z.value) o) e

module _ (c : Context) (m : Store) (ls : List ℕ) (after : List ValType) (fs : StoreFits c.spaces m) (fl : Fits c.locals ls) where
  -- a number of its type
  typed_fits : (t : ValType) (v : ℕ) (x : Effect) → Has t v → EffectFits c after x
      → EffectFits c after (if is_of t v then x else stuck)
  typed_fits t v x h f = surely (EffectFits c after) (is_of t v) x stuck (lt-ltb v (2 ^ width t) h) f

  left : (given before taken : List ValType) (vs : List ℕ) (r : Takes taken given before after)
      → Fits (given ++ r.below) vs → Fits after vs
  left given before taken vs r f = fits_along (given ++ r.below) after vs (sym r.put_on) f

  gives_fits : (vs : List ℕ) (t : ValType) (below : List ValType) (o : Option (Result ℕ Trap))
      → after ≡ t ∷ below → Fits below vs → ResultFits t o → EffectFits c after (gives m ls vs o)
  gives_fits vs t below None e f r = absurd r
  gives_fits vs t below (Some (Ok v)) e f r = (fs, fl, fits_along (t ∷ below) after (v ∷ vs) (sym e) (r, f))
  gives_fits vs t below (Some (Err trap)) e f r = tt

  computes_fits : (vs : List ℕ) (op : ℕ) (f : NumericFamily) (below : List ValType) → HasOperation op f
      → after ≡ numeric_result f ∷ below → Fits (numeric_operands f ++ below) vs
      → EffectFits c after (computes m ls vs op f)
  computes_fits [] op (family.Unary t) below there e f = absurd f
  computes_fits (i ∷ vs) op (family.Unary t) below there e f =
      typed_fits t i _ f.0 (gives_fits vs t below _ e f.1
      (each_result t (λ x. Ok (unary x (width t) i)) (unary_of t op) there (λ x. unary_width x (width t) i f.0)))
  computes_fits [] op (family.Test t) below there e f = absurd f
  computes_fits (i ∷ vs) op (family.Test t) below there e f =
      typed_fits t i _ f.0 (gives_fits vs I32 below _ e f.1
      (each_result I32 (λ x. Ok (bit (compare x (width t) i 0))) (compare_of t op) there (λ x. bit_width (compare x (width t) i 0))))
  computes_fits [] op (family.Conversion from to) below there e f = absurd f
  computes_fits (i ∷ vs) op (family.Conversion from to) below there e f =
      typed_fits from i _ f.0 (gives_fits vs to below _ e f.1
      (subst (λ q. ResultFits to (option_map (λ x. Ok (converted x i)) q)) (sym there.1) (there.2 i)))
  computes_fits [] op (family.Binary t) below there e f = absurd f
  computes_fits (j ∷ []) op (family.Binary t) below there e f = absurd f.1
  computes_fits (j ∷ i ∷ vs) op (family.Binary t) below there e f =
      typed_fits t i _ f.1.0 (typed_fits t j _ f.0 (gives_fits vs t below _ e f.1.1
      (each_result t (λ x. binary x (width t) i j) (binary_of t op) there (λ x. binary_width x (width t) i j (width_some t) f.1.0 f.0))))
  computes_fits [] op (family.Comparison t) below there e f = absurd f
  computes_fits (j ∷ []) op (family.Comparison t) below there e f = absurd f.1
  computes_fits (j ∷ i ∷ vs) op (family.Comparison t) below there e f =
      typed_fits t i _ f.1.0 (typed_fits t j _ f.0 (gives_fits vs I32 below _ e f.1.1
      (each_result I32 (λ x. Ok (bit (compare x (width t) i j))) (compare_of t op) there (λ x. bit_width (compare x (width t) i j)))))

  computed_fits : (vs : List ℕ) (op : ℕ) (f : NumericFamily) (below : List ValType) → numeric_of op ≡ Some f
      → after ≡ numeric_result f ∷ below → Fits (numeric_operands f ++ below) vs
      → EffectFits c after (computed m ls vs op (numeric_of op))
  computed_fits vs op f below here e fv =
      subst (λ o. EffectFits c after (computed m ls vs op o)) (sym here)
      (computes_fits vs op f below (has_operation op f here) e fv)

  loads_fits : (vs : List ℕ) (i op offset : ℕ) (a : MemoryAccess) (below : List ValType) → load_of op ≡ Some a
      → after ≡ a.value ∷ below → Fits (I32 ∷ below) (i ∷ vs)
      → EffectFits c after (loads m ls vs i offset (load_of op))
  loads_fits vs i op offset a below here e f =
      subst (λ o. EffectFits c after (loads m ls vs i offset o)) (sym here)
      (typed_fits I32 i _ f.0 (where_true (EffectFits c after) (nat_le (i + offset + 2 ^ a.exponent) (length m.memory.bytes)) _ _
      (λ there. (fs, fl, fits_along (a.value ∷ below) after _ (sym e) (loaded op a (number_of (part m.memory.bytes (i + offset) (2 ^ a.exponent))) here, f.1))) tt))

  stores_fits : (vs : List ℕ) (i v op offset : ℕ) (a : MemoryAccess) → store_of op ≡ Some a
      → Has I32 i → Fits after vs → EffectFits c after (stores m ls vs i v offset (store_of op))
  stores_fits vs i v op offset a here h f =
      subst (λ o. EffectFits c after (stores m ls vs i v offset o)) (sym here)
      (typed_fits I32 i _ h (where_true (EffectFits c after) (nat_le (i + offset + 2 ^ a.exponent) (length m.memory.bytes)) _ _
      (λ there. (with_memory_fits c m _ fs (stored_memory m.memory (i + offset) (2 ^ a.exponent) v there fs.memory), fl, f)) tt))

  grows_fits : (vs : List ℕ) (more : ℕ) (below : List ValType) → after ≡ I32 ∷ below
      → Fits (I32 ∷ below) (more ∷ vs) → EffectFits c after (grows m ls vs more)
  grows_fits vs more below e f =
      let most : 2 ^ 32 - 1 < 2 ^ 32 = omega arith in
      typed_fits I32 more _ f.0 (where_true (EffectFits c after) (nat_le (pages_of m.memory + more) m.memory.most) _ _
      (λ room. (with_memory_fits c m _ fs (grown_memory m.memory more room fs.memory), fl, fits_along (I32 ∷ below) after _ (sym e) (pages_width m.memory fs.memory, f.1)))
      (fs, fl, fits_along (I32 ∷ below) after _ (sym e) (most, f.1)))

  copies_fits : (vs : List ℕ) (to from len : ℕ) → Fits after vs → EffectFits c after (copies m ls vs to from len)
  copies_fits vs to from len f =
      where_true (EffectFits c after) (nat_le (to + len) (length m.memory.bytes)) _ _ (λ there.
      where_true (EffectFits c after) (nat_le (from + len) (length m.memory.bytes)) _ _ (λ source.
      (with_memory_fits c m _ fs (copied_memory m.memory to from len there source fs.memory), fl, f)) tt) tt

  fills_fits : (vs : List ℕ) (at v len : ℕ) → Fits after vs → EffectFits c after (fills m ls vs at v len)
  fills_fits vs at v len f =
      where_true (EffectFits c after) (nat_le (at + len) (length m.memory.bytes)) _ _ (λ there.
      (with_memory_fits c m _ fs (filled_memory m.memory at v len there fs.memory), fl, f)) tt

  pushes_fits : (vs : List ℕ) (o : Option ℕ) (t : ValType) (below : List ValType) → after ≡ t ∷ below
      → ((v : ℕ) × (o ≡ Some v) × Has t v) → Fits below vs → EffectFits c after (pushes m ls vs o)
  pushes_fits vs o t below e there f =
      subst (λ q. EffectFits c after (pushes m ls vs q)) (sym there.1)
      (fs, fl, fits_along (t ∷ below) after (there.0 ∷ vs) (sym e) (there.2, f))

  sets_local_fits : (vs : List ℕ) (x v : ℕ) (t : ValType) → slice_get c.locals x ≡ Some t → Has t v
      → Fits after vs → EffectFits c after (sets_local m ls vs x v)
  sets_local_fits vs x v t here h f =
      let there : (w : ℕ) × (slice_get ls x ≡ Some w) × Has t w = fits_get c.locals ls x t fl here in
      surely (EffectFits c after) (nat_lt x (length ls)) _ stuck (lt-ltb x (length ls) (slice_get_within ls x there.0 there.1))
      (fs, fits_set c.locals ls x t v fl here h, f)

  sets_global_fits : (vs : List ℕ) (x v : ℕ) (g : GlobalType) → slice_get c.spaces.globals x ≡ Some g
      → Has g.value v → Fits after vs → EffectFits c after (sets_global m ls vs x v)
  sets_global_fits vs x v g here h f =
      let types : List ValType = global_values c.spaces.globals in
      let typed : slice_get types x ≡ Some g.value = value_there c.spaces.globals x g here in
      let there : (w : ℕ) × (slice_get m.globals x ≡ Some w) × Has g.value w = fits_get types m.globals x g.value fs.globals typed in
      surely (EffectFits c after) (nat_lt x (length m.globals)) _ stuck (lt-ltb x (length m.globals) (slice_get_within m.globals x there.0 there.1))
      (record { memory = fs.memory; table = fs.table; globals = fits_set types m.globals x g.value v fs.globals typed h }, fl, f)

  -- an instruction that stays in its sequence leaves operands of the types after it
  pub effect_fits : (vs : List ℕ) (i : Instruction) (before : List ValType) → StaysInside i → Fits before vs
      → Step c i before after → EffectFits c after (effect m ls vs i)
  effect_fits vs unreachable before inside fv r = tt
  effect_fits vs nop before inside fv r = (fs, fl, left [] before [] vs r (taken_off vs r fv))
  effect_fits [] drop before inside fv r = absurd (taken_off [] r.step fv)
  effect_fits (v ∷ vs) drop before inside fv r =
      (fs, fl, left [] before (r.dropped ∷ []) vs r.step (taken_off (v ∷ vs) r.step fv).1)
  effect_fits [] select before inside fv r = absurd (taken_off [] r.step fv)
  effect_fits (x ∷ []) select before inside fv r = absurd (taken_off (x ∷ []) r.step fv).1
  effect_fits (x ∷ b ∷ []) select before inside fv r = absurd (taken_off (x ∷ b ∷ []) r.step fv).1.1
  effect_fits (x ∷ b ∷ a ∷ vs) select before inside fv r =
      let f : Fits (I32 ∷ r.selected ∷ r.selected ∷ r.step.below) (x ∷ b ∷ a ∷ vs) = taken_off (x ∷ b ∷ a ∷ vs) r.step fv in
      (fs, fl, left (r.selected ∷ []) before (I32 ∷ r.selected ∷ r.selected ∷ []) _ r.step (either_way (Has r.selected) (x == 0) b a f.1.0 f.1.1.0, f.1.1.1))
  effect_fits vs (local_get x) before inside fv r =
      pushes_fits vs (slice_get ls x) r.item r.step.below r.step.put_on (fits_get c.locals ls x r.item fl r.here) (taken_off vs r.step fv)
  effect_fits [] (local_set x) before inside fv r = absurd (taken_off [] r.step fv)
  effect_fits (v ∷ vs) (local_set x) before inside fv r =
      let f : Fits (r.item ∷ r.step.below) (v ∷ vs) = taken_off (v ∷ vs) r.step fv in
      sets_local_fits vs x v r.item r.here f.0 (left [] before (r.item ∷ []) vs r.step f.1)
  effect_fits [] (local_tee x) before inside fv r = absurd (taken_off [] r.step fv)
  effect_fits (v ∷ vs) (local_tee x) before inside fv r =
      let f : Fits (r.item ∷ r.step.below) (v ∷ vs) = taken_off (v ∷ vs) r.step fv in
      sets_local_fits (v ∷ vs) x v r.item r.here f.0 (left (r.item ∷ []) before (r.item ∷ []) (v ∷ vs) r.step f)
  effect_fits vs (global_get x) before inside fv r =
      let types : List ValType = global_values c.spaces.globals in
      pushes_fits vs (slice_get m.globals x) r.item.value r.step.below r.step.put_on
      (fits_get types m.globals x r.item.value fs.globals (value_there c.spaces.globals x r.item r.here)) (taken_off vs r.step fv)
  effect_fits [] (global_set x) before inside fv r = absurd (taken_off [] r.step.step fv)
  effect_fits (v ∷ vs) (global_set x) before inside fv r =
      let f : Fits (r.item.value ∷ r.step.step.below) (v ∷ vs) = taken_off (v ∷ vs) r.step.step fv in
      sets_global_fits vs x v r.item r.here f.0 (left [] before (r.item.value ∷ []) vs r.step.step f.1)
  effect_fits [] (load op exponent offset) before inside fv r = absurd (taken_off [] r.step.step.step fv)
  effect_fits (i ∷ vs) (load op exponent offset) before inside fv r =
      loads_fits vs i op offset r.item r.step.step.step.below r.here r.step.step.step.put_on (taken_off (i ∷ vs) r.step.step.step fv)
  effect_fits [] (store op exponent offset) before inside fv r = absurd (taken_off [] r.step.step.step fv)
  effect_fits (v ∷ []) (store op exponent offset) before inside fv r =
      absurd (taken_off (v ∷ []) r.step.step.step fv).1
  effect_fits (v ∷ i ∷ vs) (store op exponent offset) before inside fv r =
      let f : Fits (r.item.value ∷ I32 ∷ r.step.step.step.below) (v ∷ i ∷ vs) = taken_off (v ∷ i ∷ vs) r.step.step.step fv in
      stores_fits vs i v op offset r.item r.here f.1.0 (left [] before (r.item.value ∷ I32 ∷ []) vs r.step.step.step f.1.1)
  effect_fits vs memory_size before inside fv r =
      (fs, fl, left (I32 ∷ []) before [] _ r.step (pages_width m.memory fs.memory, taken_off vs r.step fv))
  effect_fits [] memory_grow before inside fv r = absurd (taken_off [] r.step fv)
  effect_fits (more ∷ vs) memory_grow before inside fv r =
      grows_fits vs more r.step.below r.step.put_on (taken_off (more ∷ vs) r.step fv)
  effect_fits [] memory_copy before inside fv r = absurd (taken_off [] r.step fv)
  effect_fits (z ∷ []) memory_copy before inside fv r = absurd (taken_off (z ∷ []) r.step fv).1
  effect_fits (z ∷ y ∷ []) memory_copy before inside fv r = absurd (taken_off (z ∷ y ∷ []) r.step fv).1.1
  effect_fits (z ∷ y ∷ x ∷ vs) memory_copy before inside fv r =
      copies_fits vs x y z (left [] before (I32 ∷ I32 ∷ I32 ∷ []) vs r.step (taken_off (z ∷ y ∷ x ∷ vs) r.step fv).1.1.1)
  effect_fits [] memory_fill before inside fv r = absurd (taken_off [] r.step fv)
  effect_fits (z ∷ []) memory_fill before inside fv r = absurd (taken_off (z ∷ []) r.step fv).1
  effect_fits (z ∷ y ∷ []) memory_fill before inside fv r = absurd (taken_off (z ∷ y ∷ []) r.step fv).1.1
  effect_fits (z ∷ y ∷ x ∷ vs) memory_fill before inside fv r =
      fills_fits vs x y z (left [] before (I32 ∷ I32 ∷ I32 ∷ []) vs r.step (taken_off (z ∷ y ∷ x ∷ vs) r.step fv).1.1.1)
  effect_fits vs (i32_const z) before inside fv r =
      (fs, fl, left (I32 ∷ []) before [] _ r (unsigned_width 32 z, taken_off vs r fv))
  effect_fits vs (i64_const z) before inside fv r =
      (fs, fl, left (I64 ∷ []) before [] _ r (unsigned_width 64 z, taken_off vs r fv))
  effect_fits vs (numeric op) before inside fv r =
      computed_fits vs op r.item r.step.below r.here r.step.put_on (taken_off vs r.step fv)
  effect_fits vs (block t body) before inside fv r = absurd inside
  effect_fits vs (loop t body) before inside fv r = absurd inside
  effect_fits vs (if_ t taken other) before inside fv r = absurd inside
  effect_fits vs (br l) before inside fv r = absurd inside
  effect_fits vs (br_if l) before inside fv r = absurd inside
  effect_fits vs (br_table ls l) before inside fv r = absurd inside
  effect_fits vs return_ before inside fv r = absurd inside
  effect_fits vs (call f) before inside fv r = absurd inside
  effect_fits vs (call_indirect n) before inside fv r = absurd inside
