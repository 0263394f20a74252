-- Instructions: what is so spelled is read.
use Rattle.std.proofs.Common.{◌≡◌, ℕ, zero, suc, ◌+◌, ◌-◌, ◌<◌, Bool, true, false, cond, eqb, ltb, List, [], ◌∷◌, ◌++◌, length, Option, Some, None, Result, Ok, refl, sym, ap, subst, ◌∙◌, append_assoc, arith, length-append}
use Rattle.std.proofs.Math.Dec.{eqb-suc-zero}
use Rattle.std.proofs.lemmas.Bool.{ne_eqb, ltb-false, le-ltb}
use Rattle.vr_wasm_ast.specs.declared.instr.Instr.{Instr}
use Rattle.vr_wasm_ast.specs.declared.instr.Instr.TheVariants.{Block, Loop, If}
use Rattle.vr_wasm_ast.specs.declared.tree.ValType.{ValType}
use Rattle.vr_wasm_ast.specs.Bytes.{end_byte, else_byte, block_opcode, loop_opcode, if_opcode}
use Rattle.vr_wasm_ast.specs.Rest.{Rest, rest}
use Rattle.vr_wasm_ast.specs.Opcodes.{is_between}
use Rattle.vr_wasm_ast.specs.Forms.{Form, form_of}
use Rattle.vr_wasm_ast.specs.Modules as grammar
use Rattle.vr_wasm_ast.specs.Modules.{Spells, nothing, plain, block, loop, if_only, if_else}
use Rattle.vr_wasm_decode.specs.declared.fault.DecodeFault.{DecodeFault}
use Rattle.vr_wasm_decode.specs.Reader.{Reader, on_ok, ◌>>=◌, give}
use Rattle.vr_wasm_decode.specs.Instructions.{plain_at, Inner, other_branch_at, after_type_at, nested_at, instruction_at, from_opcode_at, sequence_at}
use Rattle.vr_wasm_decode.proofs.SequenceLoop.{Whole}
use Rattle.vr_wasm_decode.proofs.TypeLemmas.{reads_block_type}
use Rattle.vr_wasm_decode.proofs.InstructionLemmas.{reads_plain, last_byte}

at_end : (by_else may_else : Bool) → (by_else ≡ true → may_else ≡ true) → (others : Reader (List Instr × Bool)) (inner : Inner) (deep place : ℕ) (after : Rest)
    → from_opcode_at others inner deep may_else (last_byte by_else) place after ≡ Ok (([], by_else), after)
unfolding from_opcode_at
at_end false may_else allowed others inner deep place after = refl
at_end true may_else allowed others inner deep place after = rw (allowed refl) refl

-- ---- one instruction, and the others

module _ (fuel deep : ℕ) (may_else by_else : Bool) (op : ℕ) (no_end : eqb op end_byte ≡ false) (no_else : eqb op else_byte ≡ false) (back : List ℕ) (i : Instr)
    (one : (place : ℕ) (tail : List ℕ) → instruction_at (sequence_at fuel (deep - 1)) deep op place (rest (place + 1) (back ++ tail)) ≡ Ok (i, rest (place + 1 + length back) tail))
    (rest_text : List ℕ) (is : List Instr) (tail : List ℕ)
    (others : (place : ℕ) → sequence_at fuel deep may_else (rest place (rest_text ++ (last_byte by_else ∷ tail))) ≡ Ok ((is, by_else), rest (place + length rest_text + 1) tail)) where
  step_again : (place : ℕ) → sequence_at (suc fuel) deep may_else (rest place ((op ∷ (back ++ rest_text)) ++ (last_byte by_else ∷ tail))) ≡ Ok ((i ∷ is, by_else), rest (place + length (op ∷ (back ++ rest_text)) + 1) tail)
  unfolding sequence_at from_opcode_at
  step_again place =
      let cut : (back ++ rest_text) ++ (last_byte by_else ∷ tail) ≡ back ++ (rest_text ++ (last_byte by_else ∷ tail)) = append_assoc back rest_text (last_byte by_else ∷ tail) in
      let goes : (first : Instr) → Reader (List Instr × Bool) = λ first. sequence_at fuel deep may_else >>= λ is. give (first ∷ is.0, is.1) in
      let moved : place + 1 + length back + length rest_text + 1 ≡ place + length (op ∷ (back ++ rest_text)) + 1 = omega (arith, length-append back rest_text) in
      let chosen : from_opcode_at (sequence_at fuel deep may_else) (sequence_at fuel (deep - 1)) deep may_else op place (rest (place + 1) ((back ++ rest_text) ++ (last_byte by_else ∷ tail)))
      ≡ on_ok (instruction_at (sequence_at fuel (deep - 1)) deep op place (rest (place + 1) ((back ++ rest_text) ++ (last_byte by_else ∷ tail)))) goes = rw (no_end, no_else) refl in
      chosen
      ∙ ap (λ (bytes : List ℕ). on_ok (instruction_at (sequence_at fuel (deep - 1)) deep op place (rest (place + 1) bytes)) goes) cut
      ∙ ap (λ (r : Result (Instr × Rest) DecodeFault). on_ok r goes) (one place (rest_text ++ (last_byte by_else ∷ tail)))
      ∙ ap (λ (r : Whole). on_ok r (λ is after. Ok ((i ∷ is.0, is.1), after))) (others (place + 1 + length back))
      ∙ ap (λ (p : ℕ). Ok ((i ∷ is, by_else), rest p tail)) moved

-- ---- an instruction that has none in it

-- these opcodes have no form
no_form : (op k : ℕ) (form : Form) → form_of k ≡ None → form_of op ≡ Some form → op ≡ k → ⊥
no_form op k form none some e = let z : ◌≡◌ {A = Option Form} None (Some form) = sym none ∙ (rw e at some) in cc

not_between : (op : ℕ) → (op ≡ 2 → ⊥) → (op ≡ 3 → ⊥) → (op ≡ 4 → ⊥) → is_between block_opcode if_opcode op ≡ false
not_between op two three four = decide (ltb op block_opcode) refl where
  decide : (t : Bool) → ltb op block_opcode ≡ t → cond t false (ltb op (suc if_opcode)) ≡ false
  decide true e = refl
  decide false e = le-ltb op 5 (let some = ltb-false op block_opcode e in omega (arith, some, two, three, four))

plain_again : (inner : Inner) (deep op place : ℕ) (form : Form) → form_of op ≡ Some form → (after : Rest) → instruction_at inner deep op place after ≡ plain_at op place after
unfolding instruction_at
plain_again inner deep op place form e after =
    rw (not_between op (no_form op 2 form refl e) (no_form op 3 form refl e) (no_form op 4 form refl e)) refl

-- ---- an instruction that has others in it

nested_again : (inner : Inner) (deep op place : ℕ) → is_between block_opcode if_opcode op ≡ true → (after : Rest) → instruction_at inner (suc deep) op place after ≡ nested_at inner op after
unfolding instruction_at
nested_again inner deep op place ranged after = rw (ranged, eqb-suc-zero deep) refl

module _ (fuel deep : ℕ) (sort : List ℕ) (t : Option ValType) (typed : grammar.block_type sort t) where
  -- behind the type
  typed_again : (op place : ℕ) (bytes : List ℕ) → nested_at (sequence_at fuel deep) op (rest place (sort ++ bytes)) ≡ after_type_at (sequence_at fuel deep) op t (rest (place + length sort) bytes)
  unfolding nested_at
  typed_again op place bytes = ap (λ (r : Result (Option ValType × Rest) DecodeFault). on_ok r (after_type_at (sequence_at fuel deep) op)) (reads_block_type.again place sort bytes t typed)

  module _ (prefix : List ℕ) (body : List Instr)
      (inner : (by_else may_else : Bool) → (by_else ≡ true → may_else ≡ true) → (place : ℕ) (tail : List ℕ)
      → sequence_at fuel deep may_else (rest place (prefix ++ (last_byte by_else ∷ tail))) ≡ Ok ((body, by_else), rest (place + length prefix + 1) tail)) where
    ended : (place : ℕ) (tail : List ℕ) → sequence_at fuel deep false (rest place ((prefix ++ end_byte ∷ []) ++ tail)) ≡ Ok ((body, false), rest (place + length prefix + 1) tail)
    ended place tail = ap (λ (bytes : List ℕ). sequence_at fuel deep false (rest place bytes)) (append_assoc prefix (end_byte ∷ []) tail) ∙ inner false false (λ z. z) place tail

    closed : (place : ℕ) → place + length sort + length prefix + 1 ≡ place + length (sort ++ (prefix ++ end_byte ∷ []))
    closed place = omega (arith, length-append sort (prefix ++ end_byte ∷ []), length-append prefix (end_byte ∷ []))

    block_again : (place : ℕ) (tail : List ℕ) → nested_at (sequence_at fuel deep) block_opcode (rest place ((sort ++ (prefix ++ end_byte ∷ [])) ++ tail)) ≡ Ok (Block t body, rest (place + length (sort ++ (prefix ++ end_byte ∷ []))) tail)
    block_again place tail =
        ap (λ (bytes : List ℕ). nested_at (sequence_at fuel deep) block_opcode (rest place bytes)) (append_assoc sort (prefix ++ end_byte ∷ []) tail)
        ∙ typed_again block_opcode place ((prefix ++ end_byte ∷ []) ++ tail)
        ∙ ap (λ (r : Whole). on_ok r (λ body. give (Block t body.0))) (ended (place + length sort) tail)
        ∙ ap (λ (p : ℕ). Ok (Block t body, rest p tail)) (closed place)

    loop_again : (place : ℕ) (tail : List ℕ) → nested_at (sequence_at fuel deep) loop_opcode (rest place ((sort ++ (prefix ++ end_byte ∷ [])) ++ tail)) ≡ Ok (Loop t body, rest (place + length (sort ++ (prefix ++ end_byte ∷ []))) tail)
    loop_again place tail =
        ap (λ (bytes : List ℕ). nested_at (sequence_at fuel deep) loop_opcode (rest place bytes)) (append_assoc sort (prefix ++ end_byte ∷ []) tail)
        ∙ typed_again loop_opcode place ((prefix ++ end_byte ∷ []) ++ tail)
        ∙ ap (λ (r : Whole). on_ok r (λ body. give (Loop t body.0))) (ended (place + length sort) tail)
        ∙ ap (λ (p : ℕ). Ok (Loop t body, rest p tail)) (closed place)

    branches : List Instr × Bool → Reader Instr
    branches body = other_branch_at (sequence_at fuel deep) body.1 >>= λ other. give (If t body.0 other)

    if_again : (place : ℕ) (tail : List ℕ) → nested_at (sequence_at fuel deep) if_opcode (rest place ((sort ++ (prefix ++ end_byte ∷ [])) ++ tail)) ≡ Ok (If t body [], rest (place + length (sort ++ (prefix ++ end_byte ∷ []))) tail)
    unfolding branches
    if_again place tail =
        ap (λ (bytes : List ℕ). nested_at (sequence_at fuel deep) if_opcode (rest place bytes)) (append_assoc sort (prefix ++ end_byte ∷ []) tail)
        ∙ typed_again if_opcode place ((prefix ++ end_byte ∷ []) ++ tail)
        ∙ ap (λ (bytes : List ℕ). on_ok (sequence_at fuel deep true (rest (place + length sort) bytes)) branches) (append_assoc prefix (end_byte ∷ []) tail)
        ∙ ap (λ (r : Whole). on_ok r branches) (inner false true (λ z. refl) (place + length sort) tail)
        ∙ ap (λ (p : ℕ). Ok (If t body [], rest p tail)) (closed place)

    module _ (second : List ℕ) (branch : List Instr)
        (other : (place : ℕ) (tail : List ℕ) → sequence_at fuel deep false (rest place (second ++ (end_byte ∷ tail))) ≡ Ok ((branch, false), rest (place + length second + 1) tail)) where
      both : List ℕ
      both = sort ++ ((prefix ++ else_byte ∷ []) ++ (second ++ end_byte ∷ []))

      if_else_again : (place : ℕ) (tail : List ℕ) → nested_at (sequence_at fuel deep) if_opcode (rest place (both ++ tail)) ≡ Ok (If t body branch, rest (place + length both) tail)
      unfolding both branches
      if_else_again place tail =
          let cut : both ++ tail ≡ sort ++ (prefix ++ (else_byte ∷ (second ++ (end_byte ∷ tail)))) = simp append_assoc in
          let moved : place + length sort + length prefix + 1 + length second + 1 ≡ place + length both =
          omega (arith, length-append sort ((prefix ++ else_byte ∷ []) ++ (second ++ end_byte ∷ [])), length-append (prefix ++ else_byte ∷ []) (second ++ end_byte ∷ []), length-append prefix (else_byte ∷ []), length-append second (end_byte ∷ [])) in
          ap (λ (bytes : List ℕ). nested_at (sequence_at fuel deep) if_opcode (rest place bytes)) cut
          ∙ typed_again if_opcode place (prefix ++ (else_byte ∷ (second ++ (end_byte ∷ tail))))
          ∙ ap (λ (r : Whole). on_ok r branches) (inner true true (λ z. refl) (place + length sort) (second ++ (end_byte ∷ tail)))
          ∙ ap (λ (r : Whole). on_ok (on_ok r (λ x. give x.0)) (λ other. give (If t body other))) (other (place + length sort + length prefix + 1) tail)
          ∙ ap (λ (p : ℕ). Ok (If t body branch, rest p tail)) moved

-- ---- all

one_less : (deep : ℕ) → suc deep - 1 ≡ deep
one_less deep = omega arith

-- the text that begins with an instruction that has others in it, as it is read
whole : (sort prefix others : List ℕ) → (sort ++ (prefix ++ end_byte ∷ [])) ++ others ≡ sort ++ (prefix ++ (end_byte ∷ others))
whole sort prefix others = simp append_assoc

whole_else : (sort prefix second others : List ℕ) → (sort ++ ((prefix ++ else_byte ∷ []) ++ (second ++ end_byte ∷ []))) ++ others ≡ sort ++ (prefix ++ (else_byte ∷ (second ++ (end_byte ∷ others))))
whole_else sort prefix second others = simp append_assoc

-- the text is read, whatever follows its end
abbrev Reread : ℕ → ℕ → Bool → Bool → List ℕ → List Instr → Type 0
Reread fuel deep by_else may_else text is = (place : ℕ) (tail : List ℕ) → sequence_at fuel deep may_else (rest place (text ++ (last_byte by_else ∷ tail))) ≡ Ok ((is, by_else), rest (place + length text + 1) tail)

nested_step : (fuel deep : ℕ) (may_else by_else : Bool) (op : ℕ) → eqb op end_byte ≡ false → eqb op else_byte ≡ false → is_between block_opcode if_opcode op ≡ true → (back : List ℕ) (i : Instr)
    → ((place : ℕ) (tail : List ℕ) → nested_at (sequence_at fuel deep) op (rest place (back ++ tail)) ≡ Ok (i, rest (place + length back) tail))
    → (others : List ℕ) (is : List Instr) → Reread fuel (suc deep) by_else may_else others is → Reread (suc fuel) (suc deep) by_else may_else (op ∷ (back ++ others)) (i ∷ is)
nested_step fuel deep may_else by_else op no_end no_else ranged back i one others is h place tail =
    step_again fuel (suc deep) may_else by_else op no_end no_else back i
    (λ p t. nested_again (sequence_at fuel (suc deep - 1)) deep op p ranged (rest (p + 1) (back ++ t)) ∙ ap (λ (d : ℕ). nested_at (sequence_at fuel d) op (rest (p + 1) (back ++ t))) (one_less deep) ∙ one (p + 1) t)
    others is tail (λ p. h p tail) place

pub spelled_again : (fuel : ℕ) {deep : ℕ} {text : List ℕ} {is : List Instr} → Spells deep text is → length text < fuel → (by_else may_else : Bool) → (by_else ≡ true → may_else ≡ true)
    → Reread fuel deep by_else may_else text is
unfolding sequence_at both
spelled_again zero s less by_else may_else allowed place tail = absurd (omega (arith, less))
spelled_again (suc fuel) (nothing {deep = deep}) less by_else may_else allowed place tail =
    let moved : place + 1 ≡ place + 0 + 1 = omega arith in
    at_end by_else may_else allowed (sequence_at fuel deep may_else) (sequence_at fuel (deep - 1)) deep place (rest (place + 1) tail) ∙ ap (λ (p : ℕ). Ok (([], by_else), rest p tail)) moved
spelled_again (suc fuel) (plain {deep = deep} {op = op} {form = form} text others {i = i} {is = is} e h s) less by_else may_else allowed place tail =
    step_again fuel deep may_else by_else op (ne_eqb op end_byte (no_form op end_byte form refl e)) (ne_eqb op else_byte (no_form op else_byte form refl e)) text i
    (λ p t. plain_again (sequence_at fuel (deep - 1)) deep op p form e (rest (p + 1) (text ++ t)) ∙ (reads_plain op p).again (p + 1) text t i (form, e, h))
    others is tail (λ p. spelled_again fuel s (omega (arith, less, length-append text others)) by_else may_else allowed p tail) place
spelled_again (suc fuel) (block {deep = deep} sort inner others t body is typed b s) less by_else may_else allowed place tail =
    let len = length-append sort (inner ++ (end_byte ∷ others)) in
    let len' = length-append inner (end_byte ∷ others) in
    (subst (λ (bytes : List ℕ). Reread (suc fuel) (suc deep) by_else may_else (block_opcode ∷ bytes) (Block t body ∷ is)) (whole sort inner others)
    (nested_step fuel deep may_else by_else block_opcode refl refl refl (sort ++ (inner ++ end_byte ∷ [])) (Block t body)
    (block_again fuel deep sort t typed inner body (λ by may al. spelled_again fuel b (omega (arith, less, len, len')) by may al))
    others is (spelled_again fuel s (omega (arith, less, len, len')) by_else may_else allowed))) place tail
spelled_again (suc fuel) (loop {deep = deep} sort inner others t body is typed b s) less by_else may_else allowed place tail =
    let len = length-append sort (inner ++ (end_byte ∷ others)) in
    let len' = length-append inner (end_byte ∷ others) in
    (subst (λ (bytes : List ℕ). Reread (suc fuel) (suc deep) by_else may_else (loop_opcode ∷ bytes) (Loop t body ∷ is)) (whole sort inner others)
    (nested_step fuel deep may_else by_else loop_opcode refl refl refl (sort ++ (inner ++ end_byte ∷ [])) (Loop t body)
    (loop_again fuel deep sort t typed inner body (λ by may al. spelled_again fuel b (omega (arith, less, len, len')) by may al))
    others is (spelled_again fuel s (omega (arith, less, len, len')) by_else may_else allowed))) place tail
spelled_again (suc fuel) (if_only {deep = deep} sort inner others t body is typed b s) less by_else may_else allowed place tail =
    let len = length-append sort (inner ++ (end_byte ∷ others)) in
    let len' = length-append inner (end_byte ∷ others) in
    (subst (λ (bytes : List ℕ). Reread (suc fuel) (suc deep) by_else may_else (if_opcode ∷ bytes) (If t body [] ∷ is)) (whole sort inner others)
    (nested_step fuel deep may_else by_else if_opcode refl refl refl (sort ++ (inner ++ end_byte ∷ [])) (If t body [])
    (if_again fuel deep sort t typed inner body (λ by may al. spelled_again fuel b (omega (arith, less, len, len')) by may al))
    others is (spelled_again fuel s (omega (arith, less, len, len')) by_else may_else allowed))) place tail
spelled_again (suc fuel) (if_else {deep = deep} sort inner second others t body branch is typed b o s) less by_else may_else allowed place tail =
    let len = length-append sort (inner ++ (else_byte ∷ (second ++ (end_byte ∷ others)))) in
    let len' = length-append inner (else_byte ∷ (second ++ (end_byte ∷ others))) in
    let len'' = length-append second (end_byte ∷ others) in
    (subst (λ (bytes : List ℕ). Reread (suc fuel) (suc deep) by_else may_else (if_opcode ∷ bytes) (If t body branch ∷ is)) (whole_else sort inner second others)
    (nested_step fuel deep may_else by_else if_opcode refl refl refl (sort ++ ((inner ++ else_byte ∷ []) ++ (second ++ end_byte ∷ []))) (If t body branch)
    (if_else_again fuel deep sort t typed inner body (λ by may al. spelled_again fuel b (omega (arith, less, len, len', len'')) by may al)
    second branch (spelled_again fuel o (omega (arith, less, len, len', len'')) false false (λ z. z)))
    others is (spelled_again fuel s (omega (arith, less, len, len', len'')) by_else may_else allowed))) place tail
