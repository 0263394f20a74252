-- Reading instructions one after the other, as a loop does.
use Rattle.std.proofs.Common.{◌≡◌, ℕ, zero, suc, ◌-◌, ◌+◌, ◌≤◌, Bool, true, false, eqb, List, [], ◌∷◌, ◌++◌, length, Option, Result, Ok, Err, refl, sym, ap, ◌∙◌, append_assoc, arith}
use Rattle.std.specs.Prelude.{◌&&◌}
use Rattle.std.proofs.lemmas.Bool.{ne_eqb}
use Rattle.std.proofs.lemmas.List.{append-nil}
use Rattle.vr_wasm_ast.specs.declared.instr.Instr.{Instr}
use Rattle.vr_wasm_ast.specs.declared.instr.Instr.TheVariants.{Block, Loop, If}
use Rattle.vr_wasm_ast.specs.declared.tree.ValType.{ValType}
use Rattle.vr_wasm_ast.specs.Bytes.{end_byte, else_byte, block_opcode, loop_opcode}
use Rattle.vr_wasm_ast.specs.Rest.{Rest, rest}
use Rattle.vr_wasm_decode.specs.declared.fault.DecodeFault.{DecodeFault}
use Rattle.vr_wasm_ast.specs.Checks.{Tells}
use Rattle.vr_wasm_decode.specs.declared.fault.ReadError.{ReadError}
use Rattle.vr_wasm_decode.specs.declared.fault.ReadError.TheVariants as errors
use Rattle.vr_wasm_decode.specs.declared.fault.DecodeKind.TheVariants.{SectionSize}
use Rattle.vr_wasm_decode.specs.Faults.{fault_at, told}
use Rattle.vr_wasm_decode.specs.Reader.{Reader, on_ok, ◌>>=◌, give, byte_at, byte_from}
use Rattle.vr_wasm_decode.specs.Types.{block_type_at}
use Rattle.vr_wasm_decode.specs.Instructions.{Inner, other_branch_at, after_type_at, nested_at, instruction_at, from_opcode_at, sequence_at}
use Rattle.vr_wasm_decode.proofs.ReaderLemmas.{shorter}
use Rattle.vr_wasm_decode.proofs.TypeLemmas.{reads_block_type}
use Rattle.vr_wasm_decode.proofs.InstructionLemmas.{sequence_found}
use Rattle.vr_wasm_decode.proofs.ItemLoop.{fails_on, fails_by}

abbrev pub Whole : Type 0
Whole = Result ((List Instr × Bool) × Rest) DecodeFault

-- the instructions before, and those that are still read
abbrev pub with_prefix : List Instr → Whole → Whole
with_prefix prefix read = on_ok read (λ x after. Ok ((prefix ++ x.0, x.1), after))

-- what is still read from here, after these instructions, is what is read from the beginning, for any fuel that is enough
abbrev pub GoesOn : ℕ → Bool → Rest → List Instr → Rest → Type 0
GoesOn deep may_else first prefix now =
    (fuel : ℕ) → length first.bytes ≤ fuel → (left : ℕ) × (length now.bytes ≤ left) × (with_prefix prefix (sequence_at left deep may_else now) ≡ sequence_at fuel deep may_else first)

pub begins : (deep : ℕ) (may_else : Bool) (first : Rest) → GoesOn deep may_else first [] first
begins deep may_else first fuel enough = (fuel, enough, same (sequence_at fuel deep may_else first)) where
  same : (read : Whole) → with_prefix [] read ≡ read
  same (Ok x) = refl
  same (Err e) = refl

fault_on : (prefix : List Instr) (e : ReadError) (read : Whole) → Tells (told e) read → Tells (told e) (with_prefix prefix read)
fault_on prefix e read h = fails_on e read (λ x after. Ok ((prefix ++ x.0, x.1), after)) h

-- a fault of one type as one of another
abbrev refused : {A : Type 0} → DecodeFault → Result A DecodeFault
refused d = Err d

same_fault : (A B : Type 0) (e : ReadError) (d : DecodeFault) → Tells (told e) (refused {A = A} d) → Tells (told e) (refused {A = B} d)
same_fault A B errors.OutOfMemory d h = tt
same_fault A B (errors.Fault f) d h = ap (λ (g : DecodeFault). refused {A = B} g) (let same : d ≡ f = cc in same)

-- without a byte, there is no instruction
none_left : (fuel deep : ℕ) (may_else : Bool) (now : Rest) (e : ReadError) → Tells (told e) (byte_at now) → length now.bytes ≤ fuel → Tells (told e) (sequence_at fuel deep may_else now)
unfolding sequence_at
none_left zero deep may_else now e h le = empty now.place now.bytes h le where
  empty : (place : ℕ) (bytes : List ℕ) → Tells (told e) (byte_from place bytes) → length bytes ≤ 0 → Tells (told e) (sequence_at zero deep may_else (rest place bytes))
  empty place [] h le = same_fault _ _ e (fault_at SectionSize place) h
  empty place (b ∷ bytes) h le = absurd (omega (arith, le))
none_left (suc fuel) deep may_else now e h le = fails_on e (byte_at now) (λ op. from_opcode_at (sequence_at fuel deep may_else) (sequence_at fuel (deep - 1)) deep may_else op now.place) h

pub byte_fails : (deep : ℕ) (may_else : Bool) (first : Rest) (prefix : List Instr) (now : Rest) (e : ReadError) → GoesOn deep may_else first prefix now
    → Tells (told e) (byte_at now) → (fuel : ℕ) → length first.bytes ≤ fuel → Tells (told e) (sequence_at fuel deep may_else first)
byte_fails deep may_else first prefix now e so_far h fuel enough =
    let s = so_far fuel enough in
    fails_by e _ _ s.2 (fault_on prefix e (sequence_at s.0 deep may_else now) (none_left s.0 deep may_else now e h s.1))

-- a byte that was read stood there
pub stood : (now : Rest) (op : ℕ) (after : Rest) → byte_at now ≡ Ok (op, after) → length now.bytes ≡ suc (length after.bytes)
stood now op after e = by now.place now.bytes e where
  by : (place : ℕ) (bytes : List ℕ) → byte_from place bytes ≡ Ok (op, after) → length bytes ≡ suc (length after.bytes)
  by place [] e = absurd cc
  by place (b ∷ bytes) e =
      let both : (b, rest (place + 1) bytes) ≡ (op, after) = cc in
      ap (λ (p : ℕ × Rest). suc (length p.1.bytes)) both

-- what an opcode that ends instructions gives
at_end : (others : Reader (List Instr × Bool)) (inner : Inner) (deep : ℕ) (may_else : Bool) (op place : ℕ) (after : Rest) → op ≡ end_byte → from_opcode_at others inner deep may_else op place after ≡ Ok (([], false), after)
unfolding from_opcode_at
at_end others inner deep may_else op place after is_end = rw is_end refl

at_else : (others : Reader (List Instr × Bool)) (inner : Inner) (deep : ℕ) (may_else : Bool) (op place : ℕ) (after : Rest) → op ≡ else_byte → may_else ≡ true → from_opcode_at others inner deep may_else op place after ≡ Ok (([], true), after)
unfolding from_opcode_at
at_else others inner deep may_else op place after is_else may = rw (is_else, may) refl

module _ (deep : ℕ) (may_else : Bool) (first : Rest) (prefix : List Instr) (now : Rest) (op : ℕ) (after : Rest)
    (so_far : GoesOn deep may_else first prefix now) (read : byte_at now ≡ Ok (op, after)) where
  -- the step from an opcode
  one_more : (fuel : ℕ) → length first.bytes ≤ fuel
      → (left : ℕ) × (length after.bytes ≤ left) × (with_prefix prefix (from_opcode_at (sequence_at left deep may_else) (sequence_at left (deep - 1)) deep may_else op now.place after) ≡ sequence_at fuel deep may_else first)
  unfolding sequence_at
  one_more fuel enough = by (so_far fuel enough).0 (so_far fuel enough).1 (so_far fuel enough).2 where
    by : (left : ℕ) → length now.bytes ≤ left → with_prefix prefix (sequence_at left deep may_else now) ≡ sequence_at fuel deep may_else first
        → (left : ℕ) × (length after.bytes ≤ left) × (with_prefix prefix (from_opcode_at (sequence_at left deep may_else) (sequence_at left (deep - 1)) deep may_else op now.place after) ≡ sequence_at fuel deep may_else first)
    by zero le e = absurd (omega (arith, le, stood now op after read))
    by (suc left) le e = (
      left,
      omega (arith, le, stood now op after read),
      sym (ap (λ (b : Result (ℕ × Rest) DecodeFault). with_prefix prefix (on_ok b (λ op. from_opcode_at (sequence_at left deep may_else) (sequence_at left (deep - 1)) deep may_else op now.place))) read) ∙ e,
    )

  pub ends : op ≡ end_byte → (fuel : ℕ) → length first.bytes ≤ fuel → sequence_at fuel deep may_else first ≡ Ok ((prefix, false), after)
  ends is_end fuel enough =
      let s = one_more fuel enough in
      sym s.2 ∙ ap (λ (w : Whole). with_prefix prefix w) (at_end (sequence_at s.0 deep may_else) (sequence_at s.0 (deep - 1)) deep may_else op now.place after is_end)
      ∙ ap (λ (is : List Instr). Ok ((is, false), after)) (append-nil prefix)

  pub ends_by_else : op ≡ else_byte → may_else ≡ true → (fuel : ℕ) → length first.bytes ≤ fuel → sequence_at fuel deep may_else first ≡ Ok ((prefix, true), after)
  ends_by_else is_else may fuel enough =
      let s = one_more fuel enough in
      sym s.2 ∙ ap (λ (w : Whole). with_prefix prefix w) (at_else (sequence_at s.0 deep may_else) (sequence_at s.0 (deep - 1)) deep may_else op now.place after is_else may)
      ∙ ap (λ (is : List Instr). Ok ((is, true), after)) (append-nil prefix)

  -- an opcode that ends nothing begins an instruction
  begun : (left : ℕ) → eqb op end_byte ≡ false → (eqb op else_byte && may_else) ≡ false
      → from_opcode_at (sequence_at left deep may_else) (sequence_at left (deep - 1)) deep may_else op now.place after
      ≡ on_ok (instruction_at (sequence_at left (deep - 1)) deep op now.place after) (λ first. sequence_at left deep may_else >>= λ is. give (first ∷ is.0, is.1))
  unfolding from_opcode_at
  begun left no_end no_else = rw (no_end, no_else) refl

  pub instruction_fails : (e : ReadError) → eqb op end_byte ≡ false → (eqb op else_byte && may_else) ≡ false
      → ((fuel : ℕ) → length after.bytes ≤ fuel → Tells (told e) (instruction_at (sequence_at fuel (deep - 1)) deep op now.place after))
      → (fuel : ℕ) → length first.bytes ≤ fuel → Tells (told e) (sequence_at fuel deep may_else first)
  instruction_fails e no_end no_else h fuel enough =
      let s = one_more fuel enough in
      fails_by e _ _ (sym (ap (λ (w : Whole). with_prefix prefix w) (begun s.0 no_end no_else)) ∙ s.2)
      (fault_on prefix e _ (fails_on e (instruction_at (sequence_at s.0 (deep - 1)) deep op now.place after) (λ first. sequence_at s.0 deep may_else >>= λ is. give (first ∷ is.0, is.1)) (h s.0 s.1)))

  regroup : (i : Instr) (read : Whole) → with_prefix prefix (on_ok read (λ is end. Ok ((i ∷ is.0, is.1), end))) ≡ with_prefix (prefix ++ i ∷ []) read
  regroup i (Ok x) = ap (λ (is : List Instr). Ok ((is, x.0.1), x.1)) (simp append_assoc)
  regroup i (Err e) = refl

  pub goes_on : (i : Instr) (next : Rest) → eqb op end_byte ≡ false → (eqb op else_byte && may_else) ≡ false → length next.bytes ≤ length after.bytes
      → ((fuel : ℕ) → length after.bytes ≤ fuel → instruction_at (sequence_at fuel (deep - 1)) deep op now.place after ≡ Ok (i, next))
      → GoesOn deep may_else first (prefix ++ i ∷ []) next
  goes_on i next no_end no_else shorter h fuel enough =
      let s = one_more fuel enough in
      let one : with_prefix prefix (on_ok (instruction_at (sequence_at s.0 (deep - 1)) deep op now.place after) (λ first. sequence_at s.0 deep may_else >>= λ is. give (first ∷ is.0, is.1)))
      ≡ with_prefix (prefix ++ i ∷ []) (sequence_at s.0 deep may_else next) =
      ap (λ (r : Result (Instr × Rest) DecodeFault). with_prefix prefix (on_ok r (λ first. sequence_at s.0 deep may_else >>= λ is. give (first ∷ is.0, is.1)))) (h s.0 s.1)
      ∙ regroup i (sequence_at s.0 deep may_else next) in
      (s.0, omega (arith, shorter, s.1), sym one ∙ sym (ap (λ (w : Whole). with_prefix prefix w) (begun s.0 no_end no_else)) ∙ s.2)

pub no_else_allowed : (op : ℕ) (may_else : Bool) → may_else ≡ false → (eqb op else_byte && may_else) ≡ false
no_else_allowed op may_else e = rw e (both (eqb op else_byte)) where
  both : (b : Bool) → (b && false) ≡ false
  both true = refl
  both false = refl

pub other_than_else : (op : ℕ) (may_else : Bool) → (op ≡ else_byte → ⊥) → (eqb op else_byte && may_else) ≡ false
other_than_else op may_else ne = rw (ne_eqb op else_byte ne) refl

-- ---- what has instructions in it

module _ (deep : ℕ) (before : Rest) (sort : Option ValType) (middle : Rest) (typed : block_type_at before ≡ Ok (sort, middle)) (op : ℕ) where
  inner_enough : (fuel : ℕ) → length before.bytes ≤ fuel → length middle.bytes ≤ fuel
  inner_enough fuel le = omega (arith, le, shorter (reads_block_type.found before sort middle typed))

  behind_type : (inner : Inner) → nested_at inner op before ≡ after_type_at inner op sort middle
  unfolding nested_at
  behind_type inner = ap (λ (r : Result (Option ValType × Rest) DecodeFault). on_ok r (after_type_at inner op)) typed

  pub block_ok : op ≡ block_opcode → (body : List Instr) (by_else : Bool) (after : Rest) → ((fuel : ℕ) → length middle.bytes ≤ fuel → sequence_at fuel deep false middle ≡ Ok ((body, by_else), after))
      → (fuel : ℕ) → length before.bytes ≤ fuel → nested_at (sequence_at fuel deep) op before ≡ Ok (Block sort body, after)
  block_ok is body by_else after h fuel le =
      let one : after_type_at (sequence_at fuel deep) op sort middle ≡ on_ok (sequence_at fuel deep false middle) (λ body. give (Block sort body.0)) = ap (λ (o : ℕ). after_type_at (sequence_at fuel deep) o sort middle) is in
      behind_type (sequence_at fuel deep) ∙ one ∙ ap (λ (r : Whole). on_ok r (λ body. give (Block sort body.0))) (h fuel (inner_enough fuel le))

  pub loop_ok : op ≡ loop_opcode → (body : List Instr) (by_else : Bool) (after : Rest) → ((fuel : ℕ) → length middle.bytes ≤ fuel → sequence_at fuel deep false middle ≡ Ok ((body, by_else), after))
      → (fuel : ℕ) → length before.bytes ≤ fuel → nested_at (sequence_at fuel deep) op before ≡ Ok (Loop sort body, after)
  loop_ok is body by_else after h fuel le =
      let one : after_type_at (sequence_at fuel deep) op sort middle ≡ on_ok (sequence_at fuel deep false middle) (λ body. give (Loop sort body.0)) = ap (λ (o : ℕ). after_type_at (sequence_at fuel deep) o sort middle) is in
      behind_type (sequence_at fuel deep) ∙ one ∙ ap (λ (r : Whole). on_ok r (λ body. give (Loop sort body.0))) (h fuel (inner_enough fuel le))

  pub block_fails : (e : ReadError) → op ≡ block_opcode → ((fuel : ℕ) → length middle.bytes ≤ fuel → Tells (told e) (sequence_at fuel deep false middle))
      → (fuel : ℕ) → length before.bytes ≤ fuel → Tells (told e) (nested_at (sequence_at fuel deep) op before)
  block_fails e is h fuel le =
      let one : after_type_at (sequence_at fuel deep) op sort middle ≡ on_ok (sequence_at fuel deep false middle) (λ body. give (Block sort body.0)) = ap (λ (o : ℕ). after_type_at (sequence_at fuel deep) o sort middle) is in
      fails_by e _ _ (sym (behind_type (sequence_at fuel deep) ∙ one)) (fails_on e (sequence_at fuel deep false middle) (λ body. give (Block sort body.0)) (h fuel (inner_enough fuel le)))

  pub loop_fails : (e : ReadError) → op ≡ loop_opcode → ((fuel : ℕ) → length middle.bytes ≤ fuel → Tells (told e) (sequence_at fuel deep false middle))
      → (fuel : ℕ) → length before.bytes ≤ fuel → Tells (told e) (nested_at (sequence_at fuel deep) op before)
  loop_fails e is h fuel le =
      let one : after_type_at (sequence_at fuel deep) op sort middle ≡ on_ok (sequence_at fuel deep false middle) (λ body. give (Loop sort body.0)) = ap (λ (o : ℕ). after_type_at (sequence_at fuel deep) o sort middle) is in
      fails_by e _ _ (sym (behind_type (sequence_at fuel deep) ∙ one)) (fails_on e (sequence_at fuel deep false middle) (λ body. give (Loop sort body.0)) (h fuel (inner_enough fuel le)))

  -- the first instructions of an `if`, and the others
  branches : Inner → List Instr × Bool → Reader Instr
  branches inner body = other_branch_at inner body.1 >>= λ other. give (If sort body.0 other)

  as_if : (op ≡ block_opcode → ⊥) → (op ≡ loop_opcode → ⊥) → (inner : Inner) → nested_at inner op before ≡ on_ok (inner true middle) (branches inner)
  unfolding branches
  as_if no_block no_loop inner = behind_type inner ∙ rw (ne_eqb op block_opcode no_block, ne_eqb op loop_opcode no_loop) refl

  pub if_fails : (e : ReadError) → (op ≡ block_opcode → ⊥) → (op ≡ loop_opcode → ⊥) → ((fuel : ℕ) → length middle.bytes ≤ fuel → Tells (told e) (sequence_at fuel deep true middle))
      → (fuel : ℕ) → length before.bytes ≤ fuel → Tells (told e) (nested_at (sequence_at fuel deep) op before)
  if_fails e no_block no_loop h fuel le =
      fails_by e _ _ (sym (as_if no_block no_loop (sequence_at fuel deep))) (fails_on e (sequence_at fuel deep true middle) (branches (sequence_at fuel deep)) (h fuel (inner_enough fuel le)))

  module _ (no_block : op ≡ block_opcode → ⊥) (no_loop : op ≡ loop_opcode → ⊥) (body : List Instr) (by_else : Bool) (end : Rest)
      (read : (fuel : ℕ) → length middle.bytes ≤ fuel → sequence_at fuel deep true middle ≡ Ok ((body, by_else), end)) where
    other_enough : (fuel : ℕ) → length before.bytes ≤ fuel → length end.bytes ≤ fuel
    other_enough fuel le =
        omega (arith, inner_enough fuel le, shorter (sequence_found fuel deep true middle (body, by_else) end (read fuel (inner_enough fuel le))))

    first_branch : (fuel : ℕ) → length before.bytes ≤ fuel → nested_at (sequence_at fuel deep) op before ≡ on_ok (other_branch_at (sequence_at fuel deep) by_else end) (λ other. give (If sort body other))
    unfolding branches
    first_branch fuel le = as_if no_block no_loop (sequence_at fuel deep) ∙ ap (λ (r : Whole). on_ok r (branches (sequence_at fuel deep))) (read fuel (inner_enough fuel le))

    pub other_fails : (e : ReadError) → ((fuel : ℕ) → length end.bytes ≤ fuel → Tells (told e) (other_branch_at (sequence_at fuel deep) by_else end))
        → (fuel : ℕ) → length before.bytes ≤ fuel → Tells (told e) (nested_at (sequence_at fuel deep) op before)
    other_fails e h fuel le =
        fails_by e _ _ (sym (first_branch fuel le)) (fails_on e (other_branch_at (sequence_at fuel deep) by_else end) (λ other. give (If sort body other)) (h fuel (other_enough fuel le)))

    pub if_ok : (other : List Instr) (after : Rest) → ((fuel : ℕ) → length end.bytes ≤ fuel → other_branch_at (sequence_at fuel deep) by_else end ≡ Ok (other, after))
        → (fuel : ℕ) → length before.bytes ≤ fuel → nested_at (sequence_at fuel deep) op before ≡ Ok (If sort body other, after)
    if_ok other after h fuel le = first_branch fuel le ∙ ap (λ (r : Result (List Instr × Rest) DecodeFault). on_ok r (λ other. give (If sort body other))) (h fuel (other_enough fuel le))
