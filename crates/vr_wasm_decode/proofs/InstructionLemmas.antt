-- Instructions: what is read is so spelled.
use Rattle.std.proofs.Common.{◌≡◌, ℕ, zero, suc, ◌-◌, ◌≤◌, Bool, true, false, cond, eqb, ltb, List, [], ◌∷◌, ◌++◌, Option, Some, None, Result, Ok, ◌⊎◌, inl, inr, refl, sym, ap, subst, ◌∙◌, append_assoc, arith}
use Rattle.std.specs.Prelude.{◌&&◌}
use Rattle.std.proofs.lemmas.Bool.{eqb-true, eqb-false, ltb-false, ltb-true}
use Rattle.vr_wasm_ast.specs.declared.instr.Instr.{Instr}
use Rattle.vr_wasm_ast.specs.declared.instr.Instr.TheVariants.{Block, Loop, If, BrTable, CallIndirect, MemoryCopy, MemoryFill, I32Const, I64Const}
use Rattle.vr_wasm_ast.specs.declared.tree.ValType.{ValType}
use Rattle.vr_wasm_ast.specs.Limits.{most_items}
use Rattle.vr_wasm_ast.specs.Bytes.{zero_index_byte, memory_copy_number, memory_fill_number, end_byte, else_byte, block_opcode, loop_opcode, if_opcode}
use Rattle.vr_wasm_ast.specs.Rest.{Rest, Consumes}
use Rattle.vr_wasm_ast.specs.Opcodes.{is_between}
use Rattle.vr_wasm_ast.specs.Forms.{Form, then_nothing, then_zero, then_index, then_labels, then_type, then_access, then_s32, then_s64, then_number, form_of}
use Rattle.vr_wasm_ast.specs.Modules as grammar
use Rattle.vr_wasm_ast.specs.Modules.{Spells}
use Rattle.vr_wasm_decode.specs.declared.fault.DecodeFault.{DecodeFault}
use Rattle.vr_wasm_decode.specs.declared.fault.DecodeKind.TheVariants.{BadByte, TooMany}
use Rattle.vr_wasm_decode.specs.Reader.{Reader, on_ok, ◌>>=◌, give, stop, byte_at}
use Rattle.vr_wasm_decode.specs.Types.{block_type_at}
use Rattle.vr_wasm_decode.specs.Instructions.{zero_byte_at, range_operands_at, operands_at, form_at, plain_at, not_an_opcode, Inner, other_branch_at, after_type_at, nested_at, instruction_at, from_opcode_at, sequence_at}
use Rattle.vr_wasm_decode.proofs.ReaderLemmas.{Found, Reads, ok_is, bind_ok, reads_give, reads_stop, reads_then, reads_here, reads_case, reads_last, takes_then, takes_byte}
use Rattle.vr_wasm_decode.proofs.NumberLemmas.{reads_u32, reads_s32, reads_s64, reads_vector, reads_expect}
use Rattle.vr_wasm_decode.proofs.TypeLemmas.{reads_block_type}

reads_zero : {A : Type 0} (a : A) → Reads (zero_byte_at a) (grammar.zero_byte a)
reads_zero a = reads_expect zero_index_byte (reads_give a)

reads_range : (place n : ℕ) → Reads (range_operands_at place n) (grammar.range_operands n)
reads_range place n =
    reads_case n memory_copy_number (reads_expect zero_index_byte (reads_zero MemoryCopy))
    (reads_last n memory_fill_number (reads_zero MemoryFill) (reads_stop BadByte place))
    (λ text i copy h. omega (arith, copy, h.0))

pub reads_operands : (form : Form) → Reads (operands_at form) (grammar.operands form)
reads_operands (then_nothing i) = reads_give i
reads_operands (then_zero i) = reads_zero i
reads_operands (then_index f) = reads_then reads_u32 (λ n. reads_give (f n))
reads_operands then_labels = reads_then (reads_vector most_items reads_u32) (λ labels. reads_then reads_u32 (λ last. reads_give (BrTable labels last)))
reads_operands then_type = reads_then reads_u32 (λ n. reads_zero (CallIndirect n))
reads_operands (then_access f) = reads_then reads_u32 (λ exponent. reads_then reads_u32 (λ offset. reads_give (f exponent offset)))
reads_operands then_s32 = reads_then reads_s32 (λ z. reads_give (I32Const z))
reads_operands then_s64 = reads_then reads_s64 (λ z. reads_give (I64Const z))
reads_operands then_number = reads_here (λ place. reads_then reads_u32 (λ n. reads_range place n))

-- an instruction of this opcode that has no instructions in it, behind the opcode
abbrev pub IsPlain : ℕ → List ℕ → Instr → Type 0
IsPlain op text i = (form : Form) × (form_of op ≡ Some form) × grammar.operands form text i

pub reads_plain : (op place : ℕ) → Reads (plain_at op place) (IsPlain op)
unfolding plain_at
reads_plain op place = decide (form_of op) refl where
  decide : (o : Option Form) → form_of op ≡ o → Reads (form_at o op place) (IsPlain op)
  decide (Some form) e = record {
    found = λ before i after h. let f = (reads_operands form).found before i after h in record { text = f.text; taken = f.taken; spelled = (form, e, f.spelled) };
    again = λ at text tail i h.
        let same : h.0 ≡ form = (let z : Some h.0 ≡ Some form = sym h.1 ∙ e in cc) in
        (reads_operands form).again at text tail i (subst (λ (g : Form). grammar.operands g text i) same h.2);
  }
  decide None e = record {
    found = λ before i after h. absurd (let z : ◌≡◌ {A = Result (Instr × Rest) DecodeFault} (stop (not_an_opcode op) place before) (Ok (i, after)) = h in cc);
    again = λ at text tail i h. absurd (let z : Some h.0 ≡ None = sym h.1 ∙ e in cc);
  }

-- the byte that ends instructions
abbrev pub last_byte : Bool → ℕ
last_byte true = else_byte
last_byte false = end_byte

-- instructions and what ended them, which is `else` only where it may stand there
pub record Ended (deep : ℕ) (may_else : Bool) (text : List ℕ) (x : List Instr × Bool) : Type 0 where
  pub prefix : List ℕ
  pub parts : text ≡ prefix ++ last_byte x.1 ∷ []
  pub spelled : Spells deep prefix x.0
  pub allowed : x.1 ≡ true → may_else ≡ true

-- Put before others, it is the first of them.
abbrev pub IsFirst : ℕ → List ℕ → Instr → Type 0
IsFirst deep text i = (others : List ℕ) (is : List Instr) → Spells deep others is → Spells deep (text ++ others) (i ∷ is)

-- what is found is so spelled
abbrev pub Finds : {A : Type 0} → Reader A → (List ℕ → A → Type 0) → Type 0
Finds {A} r R = (before : Rest) (a : A) (after : Rest) → r before ≡ Ok (a, after) → Found R before a after

-- instructions that `else` may not end are ended by `end`
pub by_end : (deep : ℕ) (text : List ℕ) (x : List Instr × Bool) → Ended deep false text x → (prefix : List ℕ) × (text ≡ prefix ++ end_byte ∷ []) × Spells deep prefix x.0
by_end deep text (is, true) h = absurd (let z = h.allowed refl in cc)
by_end deep text (is, false) h = (h.prefix, h.parts, h.spelled)

-- ---- a block, a loop or an `if` before others

module _ (deep : ℕ) (sort : List ℕ) (t : Option ValType) (typed : grammar.block_type sort t) (prefix : List ℕ) (body : List Instr) (spelled : Spells deep prefix body) where
  regrouped : (others : List ℕ) → (sort ++ (prefix ++ end_byte ∷ [])) ++ others ≡ sort ++ (prefix ++ (end_byte ∷ others))
  regrouped others = simp append_assoc

  first_block : IsFirst (suc deep) (block_opcode ∷ (sort ++ (prefix ++ end_byte ∷ []))) (Block t body)
  first_block others is h =
      subst (λ (bytes : List ℕ). Spells (suc deep) (block_opcode ∷ bytes) (Block t body ∷ is)) (sym (regrouped others)) (Spells.block sort prefix others t body is typed spelled h)

  first_loop : IsFirst (suc deep) (loop_opcode ∷ (sort ++ (prefix ++ end_byte ∷ []))) (Loop t body)
  first_loop others is h =
      subst (λ (bytes : List ℕ). Spells (suc deep) (loop_opcode ∷ bytes) (Loop t body ∷ is)) (sym (regrouped others)) (Spells.loop sort prefix others t body is typed spelled h)

  first_if : IsFirst (suc deep) (if_opcode ∷ (sort ++ (prefix ++ end_byte ∷ []))) (If t body [])
  first_if others is h =
      subst (λ (bytes : List ℕ). Spells (suc deep) (if_opcode ∷ bytes) (If t body [] ∷ is)) (sym (regrouped others)) (Spells.if_only sort prefix others t body is typed spelled h)

  first_if_else : (second : List ℕ) (branch : List Instr) → Spells deep second branch → IsFirst (suc deep) (if_opcode ∷ (sort ++ ((prefix ++ else_byte ∷ []) ++ (second ++ end_byte ∷ [])))) (If t body branch)
  first_if_else second branch other others is h =
      let e : (sort ++ ((prefix ++ else_byte ∷ []) ++ (second ++ end_byte ∷ []))) ++ others ≡ sort ++ (prefix ++ (else_byte ∷ (second ++ (end_byte ∷ others)))) = simp append_assoc in
      subst (λ (bytes : List ℕ). Spells (suc deep) (if_opcode ∷ bytes) (If t body branch ∷ is)) (sym e) (Spells.if_else sort prefix second others t body branch is typed spelled other h)

-- ---- reading one

between : (first last op : ℕ) → is_between first last op ≡ true → (first ≤ op) × (op ≤ last)
between first last op e = decide (ltb op first) refl e where
  decide : (t : Bool) → ltb op first ≡ t → cond t false (ltb op (suc last)) ≡ true → (first ≤ op) × (op ≤ last)
  decide true lt h = absurd cc
  decide false ge h = let small = ltb-true op (suc last) h in (ltb-false op first ge, omega (arith, small))

one_of_three : (op : ℕ) → is_between block_opcode if_opcode op ≡ true → (op ≡ block_opcode) ⊎ ((op ≡ loop_opcode) ⊎ (op ≡ if_opcode))
one_of_three op e =
    let b = between block_opcode if_opcode op e in
    decide (eqb op block_opcode) (eqb op loop_opcode) refl refl where
      decide : (two three : Bool) → eqb op block_opcode ≡ two → eqb op loop_opcode ≡ three → (op ≡ block_opcode) ⊎ ((op ≡ loop_opcode) ⊎ (op ≡ if_opcode))
      decide true three e2 e3 = inl (eqb-true op block_opcode e2)
      decide false true e2 e3 = inr (inl (eqb-true op loop_opcode e3))
      decide false false e2 e3 =
          let b = between block_opcode if_opcode op e in
          let not2 = eqb-false op block_opcode e2 in
          let not3 = eqb-false op loop_opcode e3 in
          inr (inr (omega (arith, b.0, b.1, not2, not3)))

module _ (deep : ℕ) (inner : Inner) (finds : (may_else : Bool) → Finds (inner may_else) (Ended deep may_else)) where
  inner_found : (before : Rest) (other : List Instr) (after : Rest) → other_branch_at inner true before ≡ Ok (other, after)
      → (second : List ℕ) × Consumes before (second ++ end_byte ∷ []) after × Spells deep second other
  inner_found before other after e =
      let p = bind_ok (inner false before) (λ x. give x.0) (other, after) e in
      let q = ok_is p.0.0 other p.1 after p.3 in
      let f = finds false before p.0 p.1 p.2 in
      let b = by_end deep f.text p.0 f.spelled in
      (b.0, subst (λ (r : Rest). Consumes before (b.0 ++ end_byte ∷ []) r) q.1 (subst (λ (t : List ℕ). Consumes before t p.1) b.1 f.taken), subst (λ (is : List Instr). Spells deep b.0 is) q.0 b.2)

  -- instructions that `end` ends
  body_found : (make : List Instr → Instr) (before : Rest) (i : Instr) (after : Rest) → on_ok (inner false before) (λ body. give (make body.0)) ≡ Ok (i, after)
      → (prefix : List ℕ) × (body : List Instr) × Consumes before (prefix ++ end_byte ∷ []) after × Spells deep prefix body × (make body ≡ i)
  body_found make before i after e =
      let p = bind_ok (inner false before) (λ body. give (make body.0)) (i, after) e in
      let q = ok_is (make p.0.0) i p.1 after p.3 in
      let f = finds false before p.0 p.1 p.2 in
      let b = by_end deep f.text p.0 f.spelled in
      (b.0, p.0.0, subst (λ (r : Rest). Consumes before (b.0 ++ end_byte ∷ []) r) q.1 (subst (λ (t : List ℕ). Consumes before t p.1) b.1 f.taken), b.2, q.0)

  -- the first instructions of an `if`, and the other ones
  branches_found : (t : Option ValType) (before : Rest) (i : Instr) (after : Rest)
      → on_ok (inner true before) (λ body. other_branch_at inner body.1 >>= λ other. give (If t body.0 other)) ≡ Ok (i, after)
      → Found (λ text i. (sort : List ℕ) → grammar.block_type sort t → IsFirst (suc deep) (if_opcode ∷ (sort ++ text)) i) before i after
  branches_found t before i after e =
      let p = bind_ok (inner true before) (λ body. other_branch_at inner body.1 >>= λ other. give (If t body.0 other)) (i, after) e in
      let f = finds true before p.0 p.1 p.2 in
      ended p.0 p.1 f.text f.taken f.spelled p.3 where
        ended : (x : List Instr × Bool) (middle : Rest) (text : List ℕ) → Consumes before text middle → Ended deep true text x
            → on_ok (other_branch_at inner x.1 middle) (λ other. give (If t x.0 other)) ≡ Ok (i, after)
            → Found (λ text i. (sort : List ℕ) → grammar.block_type sort t → IsFirst (suc deep) (if_opcode ∷ (sort ++ text)) i) before i after
        ended (is, true) middle text taken h e =
            let r = bind_ok (other_branch_at inner true middle) (λ other. give (If t is other)) (i, after) e in
            let q = ok_is (If t is r.0) i r.1 after r.3 in
            let second = inner_found middle r.0 r.1 r.2 in
            record {
              text = text ++ (second.0 ++ end_byte ∷ []);
              taken = subst (λ (end : Rest). Consumes before (text ++ (second.0 ++ end_byte ∷ [])) end) q.1 (takes_then before text middle (second.0 ++ end_byte ∷ []) r.1 taken second.1);
              spelled = λ sort typed.
                  subst (λ (j : Instr). IsFirst (suc deep) (if_opcode ∷ (sort ++ (text ++ (second.0 ++ end_byte ∷ [])))) j) q.0
                  (subst (λ (bytes : List ℕ). IsFirst (suc deep) (if_opcode ∷ (sort ++ (bytes ++ (second.0 ++ end_byte ∷ [])))) (If t is r.0)) (sym h.parts)
                  (first_if_else deep sort t typed h.prefix is h.spelled second.0 r.0 second.2));
            }
        ended (is, false) middle text taken h e =
            let q = ok_is (If t is []) i middle after e in
            record {
              text = text;
              taken = subst (λ (end : Rest). Consumes before text end) q.1 taken;
              spelled = λ sort typed.
                  subst (λ (j : Instr). IsFirst (suc deep) (if_opcode ∷ (sort ++ text)) j) q.0
                  (subst (λ (bytes : List ℕ). IsFirst (suc deep) (if_opcode ∷ (sort ++ bytes)) (If t is [])) (sym h.parts)
                  (first_if deep sort t typed h.prefix is h.spelled));
            }

  -- a block or a loop: its type, and instructions that `end` ends
  one_body_found : (op : ℕ) (make : Option ValType → List Instr → Instr)
      → ((t : Option ValType) (before : Rest) → after_type_at inner op t before ≡ on_ok (inner false before) (λ body. give (make t body.0)))
      → ((sort : List ℕ) (t : Option ValType) → grammar.block_type sort t → (prefix : List ℕ) (body : List Instr) → Spells deep prefix body → IsFirst (suc deep) (op ∷ (sort ++ (prefix ++ end_byte ∷ []))) (make t body))
      → Finds (nested_at inner op) (λ back i. IsFirst (suc deep) (op ∷ back) i)
  unfolding nested_at
  one_body_found op make reads first before i after e =
      let p = bind_ok (block_type_at before) (after_type_at inner op) (i, after) e in
      let sort = reads_block_type.found before p.0 p.1 p.2 in
      let b = body_found (make p.0) p.1 i after (sym (reads p.0 p.1) ∙ p.3) in
      record {
        text = sort.text ++ (b.0 ++ end_byte ∷ []);
        taken = takes_then before sort.text p.1 (b.0 ++ end_byte ∷ []) after sort.taken b.2;
        spelled = subst (λ (j : Instr). IsFirst (suc deep) (op ∷ (sort.text ++ (b.0 ++ end_byte ∷ []))) j) b.4 (first sort.text p.0 sort.spelled b.0 b.1 b.3);
      }

  block_found : Finds (nested_at inner block_opcode) (λ back i. IsFirst (suc deep) (block_opcode ∷ back) i)
  block_found = one_body_found block_opcode Block (λ t before. refl) (first_block deep)

  loop_found : Finds (nested_at inner loop_opcode) (λ back i. IsFirst (suc deep) (loop_opcode ∷ back) i)
  loop_found = one_body_found loop_opcode Loop (λ t before. refl) (first_loop deep)

  if_found : Finds (nested_at inner if_opcode) (λ back i. IsFirst (suc deep) (if_opcode ∷ back) i)
  unfolding nested_at
  if_found before i after e =
      let p = bind_ok (block_type_at before) (after_type_at inner if_opcode) (i, after) e in
      let sort = reads_block_type.found before p.0 p.1 p.2 in
      let b = branches_found p.0 p.1 i after p.3 in
      record {
        text = sort.text ++ b.text;
        taken = takes_then before sort.text p.1 b.text after sort.taken b.taken;
        spelled = b.spelled sort.text sort.spelled;
      }

  pub nested_found : (op : ℕ) → is_between block_opcode if_opcode op ≡ true → Finds (nested_at inner op) (λ back i. IsFirst (suc deep) (op ∷ back) i)
  nested_found op ranged = elim (one_of_three op ranged) [
    | inl two ↦ subst (λ (o : ℕ). Finds (nested_at inner o) (λ back i. IsFirst (suc deep) (o ∷ back) i)) (sym two) block_found
    | inr others ↦ elim others [
      | inl three ↦ subst (λ (o : ℕ). Finds (nested_at inner o) (λ back i. IsFirst (suc deep) (o ∷ back) i)) (sym three) loop_found
      | inr four ↦ subst (λ (o : ℕ). Finds (nested_at inner o) (λ back i. IsFirst (suc deep) (o ∷ back) i)) (sym four) if_found
    ]
  ]

-- ---- reading all

first_plain : (deep op : ℕ) (text : List ℕ) (i : Instr) → IsPlain op text i → IsFirst deep (op ∷ text) i
first_plain deep op text i h others is spelled = Spells.plain text others h.1 h.2 spelled

pub instruction_found : (deep : ℕ) (inner : Inner) (finds : (may_else : Bool) → Finds (inner may_else) (Ended (deep - 1) may_else)) (op place : ℕ)
    → Finds (instruction_at inner deep op place) (λ back i. IsFirst deep (op ∷ back) i)
unfolding instruction_at
instruction_found deep inner finds op place = decide (is_between block_opcode if_opcode op) (eqb deep 0) refl refl where
  decide : (ranged none : Bool) → is_between block_opcode if_opcode op ≡ ranged → eqb deep 0 ≡ none
      → Finds (cond ranged (cond none (stop TooMany place) (nested_at inner op)) (plain_at op place)) (λ back i. IsFirst deep (op ∷ back) i)
  decide false none e0 e1 before i after e =
      let f = (reads_plain op place).found before i after e in
      record { text = f.text; taken = f.taken; spelled = first_plain deep op f.text i f.spelled }
  decide true true e0 e1 before i after e = absurd (let z : ◌≡◌ {A = Result (Instr × Rest) DecodeFault} (stop TooMany place before) (Ok (i, after)) = e in cc)
  decide true false e0 e1 before i after e =
      let some = eqb-false deep 0 e1 in
      let less : suc (deep - 1) ≡ deep = omega (arith, some) in
      let f = nested_found (deep - 1) inner finds op e0 before i after e in
      record { text = f.text; taken = f.taken; spelled = subst (λ (d : ℕ). IsFirst d (op ∷ f.text) i) less f.spelled }

module _ (deep : ℕ) (may_else : Bool) (others : Reader (List Instr × Bool)) (rest_found : Finds others (Ended deep may_else))
    (inner : Inner) (finds : (may_else : Bool) → Finds (inner may_else) (Ended (deep - 1) may_else)) where
  pub opcode_found : (op place : ℕ) → Finds (from_opcode_at others inner deep may_else op place) (λ back x. Ended deep may_else (op ∷ back) x)
  unfolding from_opcode_at
  opcode_found op place = decide (eqb op end_byte) (eqb op else_byte) refl refl where
    ends : (by_else : Bool) → op ≡ last_byte by_else → (by_else ≡ true → may_else ≡ true) → Finds (give ([], by_else)) (λ back x. Ended deep may_else (op ∷ back) x)
    ends by_else e allowed before x after h =
        let p = ok_is ([], by_else) x before after h in
        record {
          text = [];
          taken = record { parts = ap (λ (r : Rest). r.bytes) p.1; moved = ap (λ (r : Rest). r.place) (sym p.1) ∙ omega arith };
          spelled = subst (λ (y : List Instr × Bool). Ended deep may_else (op ∷ []) y) p.0 (record { prefix = []; parts = ap (λ (b : ℕ). b ∷ []) e; spelled = Spells.nothing; allowed = allowed });
        }

    goes_on : Finds (instruction_at inner deep op place >>= λ first. others >>= λ is. give (first ∷ is.0, is.1)) (λ back x. Ended deep may_else (op ∷ back) x)
    goes_on before x after e =
        let p = bind_ok (instruction_at inner deep op place before) (λ first. others >>= λ is. give (first ∷ is.0, is.1)) (x, after) e in
        let q = bind_ok (others p.1) (λ is. give (p.0 ∷ is.0, is.1)) (x, after) p.3 in
        let r = ok_is (p.0 ∷ q.0.0, q.0.1) x q.1 after q.3 in
        let first = instruction_found deep inner finds op place before p.0 p.1 p.2 in
        let next = rest_found p.1 q.0 q.1 q.2 in
        let whole : op ∷ (first.text ++ next.text) ≡ (op ∷ (first.text ++ next.spelled.prefix)) ++ last_byte q.0.1 ∷ [] =
        ap (λ (t : List ℕ). op ∷ (first.text ++ t)) next.spelled.parts ∙ ap (λ (t : List ℕ). op ∷ t) (sym (append_assoc first.text next.spelled.prefix (last_byte q.0.1 ∷ []))) in
        record {
          text = first.text ++ next.text;
          taken = subst (λ (end : Rest). Consumes before (first.text ++ next.text) end) r.1 (takes_then before first.text p.1 next.text q.1 first.taken next.taken);
          spelled = subst (λ (y : List Instr × Bool). Ended deep may_else (op ∷ (first.text ++ next.text)) y) r.0 (record {
            prefix = op ∷ (first.text ++ next.spelled.prefix);
            parts = whole;
            spelled = first.spelled next.spelled.prefix q.0.0 next.spelled.spelled;
            allowed = next.spelled.allowed;
          });
        }

    decide : (is_end is_else : Bool) → eqb op end_byte ≡ is_end → eqb op else_byte ≡ is_else
        → Finds (cond is_end (give ([], false)) (cond (is_else && may_else) (give ([], true)) (instruction_at inner deep op place >>= λ first. others >>= λ is. give (first ∷ is.0, is.1)))) (λ back x. Ended deep may_else (op ∷ back) x)
    decide true is_else e0 e1 = ends false (eqb-true op end_byte e0) (λ z. absurd cc)
    decide false false e0 e1 = goes_on
    decide false true e0 e1 = or_else may_else refl where
      or_else : (m : Bool) → may_else ≡ m → Finds (cond m (give ([], true)) (instruction_at inner deep op place >>= λ first. others >>= λ is. give (first ∷ is.0, is.1))) (λ back x. Ended deep may_else (op ∷ back) x)
      or_else true m = ends true (eqb-true op else_byte e1) (λ z. m)
      or_else false m = goes_on

pub sequence_found : (fuel deep : ℕ) (may_else : Bool) → Finds (sequence_at fuel deep may_else) (Ended deep may_else)
unfolding sequence_at
sequence_found zero deep may_else before x after e = absurd cc
sequence_found (suc fuel) deep may_else before x after e =
    let go_on : ℕ → Reader (List Instr × Bool) = λ op. from_opcode_at (sequence_at fuel deep may_else) (sequence_at fuel (deep - 1)) deep may_else op before.place in
    let p = bind_ok (byte_at before) go_on (x, after) e in
    let f = opcode_found deep may_else (sequence_at fuel deep may_else) (sequence_found fuel deep may_else) (sequence_at fuel (deep - 1)) (sequence_found fuel (deep - 1)) p.0 before.place p.1 x after p.3 in
    record { text = p.0 ∷ f.text; taken = takes_byte before p.0 p.1 f.text after p.2 f.taken; spelled = f.spelled }
