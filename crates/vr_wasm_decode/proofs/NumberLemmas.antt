-- Numbers, counts, vectors and contents of a stated size.
use Rattle.std.proofs.Common.{◌≡◌, ℕ, ◌+◌, ◌-◌, ◌≤◌, Bool, true, false, cond, ltb, List, [], ◌∷◌, ◌++◌, length, take, drop, Option, Result, Ok, Err, refl, sym, ap, subst, ◌∙◌, append_assoc, arith, length-append}
use Rattle.std.proofs.lemmas.Bool.{ltb-false, ltb-true, le-ltb}
use Rattle.std.proofs.lemmas.List.{take_at, drop_at, take-append-drop, length-take, append-nil}
use Rattle.vr_wasm_ast.specs.declared.cursor.LebFault.{LebFault}
use Rattle.vr_wasm_ast.specs.declared.cursor.LebFault.TheVariants as leb
use Rattle.vr_wasm_ast.specs.Rest.{Rest, rest}
use Rattle.vr_wasm_ast.specs.Numbers.{IsNumber, number_from, from_place, last_unsigned, more_unsigned, last_signed, more_signed}
use Rattle.vr_wasm_ast.specs.Grammar.{Sequence, gives, where_, of_length, byte_then, bytes}
use Rattle.vr_wasm_ast.specs.Modules as grammar
use Rattle.vr_wasm_ast.proofs.NumberLemmas as numbers
use Rattle.vr_wasm_ast.proofs.CursorLemmas.{is_found}
use Rattle.vr_wasm_decode.specs.declared.fault.DecodeFault.{DecodeFault}
use Rattle.vr_wasm_decode.specs.declared.fault.DecodeKind.{DecodeKind}
use Rattle.vr_wasm_decode.specs.declared.fault.DecodeKind.TheVariants.{SectionSize, BadByte, TooMany}
use Rattle.vr_wasm_decode.specs.Faults.{fault_at}
use Rattle.vr_wasm_decode.specs.Reader.{Reader, on_ok, ◌>>=◌, expect_at, number_or, u32_or_at, u32_at, s32_at, s64_at, count_at, vector_at, part_at, contents_at, ended_at, whole_at, after_contents, sized_at}
use Rattle.vr_wasm_decode.specs.Types.{bytes_at}
use Rattle.vr_wasm_decode.proofs.ReaderLemmas.{Found, Reads, ok_is, bind_ok, reads_give, reads_then, reads_here, reads_as, reads_byte, reads_last, reads_stop, reads_items}

-- ---- numbers

number_ok : {N : Type 0} (short : DecodeKind) (place : ℕ) (r : Result (N × Rest) LebFault) (x : N × Rest) → number_or short place r ≡ Ok x → r ≡ Ok x
number_ok short place (Ok y) x e = ap (λ z. Ok z) (let p : y ≡ x = cc in p)
number_ok short place (Err leb.Bad) x e = absurd cc
number_ok short place (Err leb.Short) x e = absurd cc

pub reads_number : {N : Type 0} (last : ℕ → ℕ → Option N) (more : N → ℕ → N) (bits : ℕ) (short : DecodeKind)
    → Reads (λ before. number_or short before.place (from_place before (number_from last more bits before.bytes))) (IsNumber last more bits)
reads_number last more bits short = record {
  found = λ before n after e.
      let f = is_found last more bits (Ok n) before after (number_ok short before.place (from_place before (number_from last more bits before.bytes)) (n, after) e) in
      record { text = f.0; taken = f.2; spelled = f.1 };
  again = λ place text tail n h.
      let len : place + (length (text ++ tail) - length tail) ≡ place + length text = omega (arith, length-append text tail) in
      rw (numbers.again last more bits text tail n h) (ap (λ p. Ok (n, rest p tail)) len);
}

pub reads_u32_or : (short : DecodeKind) → Reads (u32_or_at short) grammar.u32
reads_u32_or short = reads_number last_unsigned more_unsigned 32 short

pub reads_u32 : Reads u32_at grammar.u32
reads_u32 = reads_u32_or SectionSize

pub reads_s32 : Reads s32_at grammar.s32
reads_s32 = reads_number last_signed more_signed 32 SectionSize

pub reads_s64 : Reads s64_at grammar.s64
reads_s64 = reads_number last_signed more_signed 64 SectionSize

-- ---- counts and vectors

-- no more than the limit
pub reads_where : {A : Type 0} {r s : Reader A} {R : List ℕ → A → Type 0} (n limit : ℕ) → Reads r R → Reads s (λ text a. ⊥) → Reads (cond (ltb limit n) s r) (where_ (n ≤ limit) R)
reads_where {A} {r} {s} {R} n limit one none = decide (ltb limit n) refl where
  decide : (t : Bool) → ltb limit n ≡ t → Reads (cond t s r) (where_ (n ≤ limit) R)
  decide true e = record {
    found = λ before a after h. absurd (none.found before a after h).spelled;
    again = λ place text tail a h. let lt = ltb-true limit n e in absurd (omega (arith, lt, h.0));
  }
  decide false e = record {
    found = λ before a after h. let f = one.found before a after h in record { text = f.text; taken = f.taken; spelled = (ltb-false limit n e, f.spelled) };
    again = λ place text tail a h. one.again place text tail a h.1;
  }

pub reads_count : (limit : ℕ) → Reads (count_at limit) (grammar.count limit)
reads_count limit = reads_here (λ place. reads_then reads_u32 (λ n. reads_where n limit (reads_give n) (reads_stop TooMany place)))

pub reads_vector : {A : Type 0} {r : Reader A} {R : List ℕ → A → Type 0} (limit : ℕ) → Reads r R → Reads (vector_at limit r) (grammar.vector limit R)
unfolding vector_at
reads_vector limit h = reads_then (reads_count limit) (λ n. reads_items n h)

-- ---- a byte that must stand there

-- the byte, and nothing
abbrev only : ℕ → List ℕ → Unit {0} → Type 0
only k = byte_then k (gives tt)

alone : (k : ℕ) → Reads (expect_at k) (only k)
alone k = reads_here (λ place. reads_byte (only k) (λ a h. h) (λ b. reads_last b k (reads_give tt) (reads_stop BadByte place)))

joined : {A : Type 0} (k : ℕ) (R : List ℕ → A → Type 0) (prefix back : List ℕ) (u : Unit {0}) (a : A) → only k prefix u → R back a → byte_then k R (prefix ++ back) a
joined k R [] back u a h r = absurd h
joined k R (b ∷ prefix) back u a h r = (h.0, subst (λ (bytes : List ℕ). R (bytes ++ back) a) (sym h.1.0) r)

cut : {A : Type 0} (k : ℕ) (R : List ℕ → A → Type 0) (text : List ℕ) (a : A) → byte_then k R text a → Sequence (only k) (λ _. R) text a
cut k R [] a h = absurd h
cut k R (b ∷ text) a h = record { prefix = b ∷ []; suffix = text; value = tt; parts = refl; first = (h.0, (refl, refl)); second = h.1 }

pub reads_expect : {A : Type 0} {r : Reader A} {R : List ℕ → A → Type 0} (k : ℕ) → Reads r R → Reads (expect_at k >>= λ _. r) (byte_then k R)
reads_expect {A} {r} {R} k h =
    reads_as (byte_then k R)
    (λ text a s. subst (λ (t : List ℕ). byte_then k R t a) (sym s.parts) (joined k R s.prefix s.suffix s.value a s.first s.second))
    (cut k R)
    (reads_then (alone k) (λ _. h))

-- ---- so many bytes

pub reads_bytes : (n : ℕ) → Reads (bytes_at n) (of_length n bytes)
reads_bytes n = record {
  found = λ before a after e.
      let p = reads_bytes_found n before a after e in p;
  again = λ place text tail a h.
      let long : ltb (length (text ++ tail)) n ≡ false = le-ltb _ _ (omega (arith, h.0, length-append text tail)) in
      rw (long, take_at text tail n h.0, drop_at text tail n h.0, h.1, h.0) refl;
} where
  reads_bytes_found : (n : ℕ) (before : Rest) (a : List ℕ) (after : Rest) → bytes_at n before ≡ Ok (a, after) → Found (of_length n bytes) before a after
  reads_bytes_found n before a after e = decide (ltb (length before.bytes) n) refl e where
    decide : (t : Bool) → ltb (length before.bytes) n ≡ t
        → ◌≡◌ {A = Result (List ℕ × Rest) DecodeFault} (cond t (Err (fault_at SectionSize (before.place + length before.bytes))) (Ok (take n before.bytes, rest (before.place + n) (drop n before.bytes)))) (Ok (a, after))
        → Found (of_length n bytes) before a after
    decide true lt h = absurd cc
    decide false ge h =
        let p = ok_is (take n before.bytes) a (rest (before.place + n) (drop n before.bytes)) after h in
        let len : length (take n before.bytes) ≡ n = omega (arith, length-take n before.bytes, ltb-false _ _ ge) in
        record {
          text = take n before.bytes;
          taken = record {
            parts = sym (take-append-drop n before.bytes) ∙ ap (λ (r : Rest). take n before.bytes ++ r.bytes) p.1;
            moved = ap (λ (r : Rest). r.place) (sym p.1) ∙ omega (arith, len);
          };
          spelled = (len, sym p.0);
        }

-- ---- contents of a stated size

-- what takes all the bytes that it is given
pub record ReadsAll {A : Type 0} (f : Rest → Result A DecodeFault) (R : List ℕ → A → Type 0) : Type 0 where
  pub found : (before : Rest) (a : A) → f before ≡ Ok a → R before.bytes a
  pub again : (place : ℕ) (text : List ℕ) (a : A) → R text a → f (rest place text) ≡ Ok a

ended_ok : {A : Type 0} (a b : A) (place : ℕ) (bytes : List ℕ) → ended_at a place bytes ≡ Ok b → (bytes ≡ []) × (a ≡ b)
ended_ok a b place [] e = (refl, cc)
ended_ok a b place (c ∷ bytes) e = absurd cc

pub reads_whole : {A : Type 0} {r : Reader A} {R : List ℕ → A → Type 0} → Reads r R → ReadsAll (whole_at r) R
reads_whole {A} {r} {R} h = record {
  found = λ before a e.
      let p = bind_ok (r before) (λ b after. ended_at b after.place after.bytes) a e in
      let q = ended_ok p.0 a p.1.place p.1.bytes p.3 in
      let f = h.found before p.0 p.1 p.2 in
      let all : before.bytes ≡ f.text = f.taken.parts ∙ ap (λ (bytes : List ℕ). f.text ++ bytes) q.0 ∙ append-nil f.text in
      subst (λ (b : A). R before.bytes b) q.1 (subst (λ (t : List ℕ). R t p.0) (sym all) f.spelled);
  again = λ place text a s.
      let one : r (rest place text) ≡ Ok (a, rest (place + length text) []) = ap (λ (t : List ℕ). r (rest place t)) (sym (append-nil text)) ∙ h.again place text [] a s in
      ap (λ (x : Result (A × Rest) DecodeFault). on_ok x (λ b after. ended_at b after.place after.bytes)) one;
}

part_ok : (short : DecodeKind) (n : ℕ) (before inner after : Rest) → part_at short n before ≡ Ok (inner, after)
    → (n ≤ length before.bytes) × (inner ≡ rest before.place (take n before.bytes)) × (after ≡ rest (before.place + n) (drop n before.bytes))
part_ok short n before inner after e = decide (ltb (length before.bytes) n) refl e where
  decide : (t : Bool) → ltb (length before.bytes) n ≡ t
      → ◌≡◌ {A = Result (Rest × Rest) DecodeFault} (cond t (Err (fault_at short before.place)) (Ok (rest before.place (take n before.bytes), rest (before.place + n) (drop n before.bytes)))) (Ok (inner, after))
      → (n ≤ length before.bytes) × (inner ≡ rest before.place (take n before.bytes)) × (after ≡ rest (before.place + n) (drop n before.bytes))
  decide true lt h = absurd cc
  decide false ge h =
      let p = ok_is (rest before.place (take n before.bytes)) inner (rest (before.place + n) (drop n before.bytes)) after h in
      (ltb-false _ _ ge, sym p.0, sym p.1)

within_ok : {A : Type 0} (x : Result A DecodeFault) (before : Rest) (a : A) (after : Rest) → after_contents x before ≡ Ok (a, after) → (x ≡ Ok a) × (before ≡ after)
within_ok (Ok b) before a after e = let p = ok_is b a before after e in (ap (λ (c : _). Ok c) p.0, p.1)
within_ok (Err d) before a after e = absurd cc

pub reads_inside : {A : Type 0} {f : Rest → Result A DecodeFault} {R : List ℕ → A → Type 0} (short : DecodeKind) → ReadsAll f R → Reads (contents_at short >>= λ inner. after_contents (f inner)) (grammar.in_contents R)
unfolding contents_at
reads_inside {A} {f} {R} short h = record {
  found = λ before a after e.
      let p = bind_ok (on_ok (u32_or_at short before) (part_at short)) (λ inner. after_contents (f inner)) (a, after) e in
      let q = bind_ok (u32_or_at short before) (part_at short) (p.0, p.1) p.2 in
      let n = (reads_u32_or short).found before q.0 q.1 q.2 in
      let s = part_ok short q.0 q.1 p.0 p.1 q.3 in
      let w = within_ok (f p.0) p.1 a after p.3 in
      let spelled : R (take q.0 q.1.bytes) a = subst (λ (i : Rest). R i.bytes a) s.1 (h.found p.0 a w.0) in
      let len : length (take q.0 q.1.bytes) ≡ q.0 = omega (arith, length-take q.0 q.1.bytes, s.0) in
      let end : after ≡ rest (q.1.place + q.0) (drop q.0 q.1.bytes) = sym w.1 ∙ s.2 in
      record {
        text = n.text ++ take q.0 q.1.bytes;
        taken = record {
          parts = n.taken.parts ∙ ap (λ (bytes : List ℕ). n.text ++ bytes) (sym (take-append-drop q.0 q.1.bytes) ∙ ap (λ (r : Rest). take q.0 q.1.bytes ++ r.bytes) (sym end)) ∙ sym (append_assoc n.text (take q.0 q.1.bytes) after.bytes);
          moved = ap (λ (r : Rest). r.place) end ∙ omega (arith, n.taken.moved, length-append n.text (take q.0 q.1.bytes), len);
        };
        spelled = record { prefix = n.text; suffix = take q.0 q.1.bytes; value = q.0; parts = refl; first = n.spelled; second = (len, spelled) };
      };
  again = λ place text tail a s.
      let len : length s.suffix ≡ s.value = s.second.0 in
      let parted : text ++ tail ≡ s.prefix ++ (s.suffix ++ tail) = ap (λ (t : List ℕ). t ++ tail) s.parts ∙ append_assoc s.prefix s.suffix tail in
      let first : u32_or_at short (rest place (text ++ tail)) ≡ Ok (s.value, rest (place + length s.prefix) (s.suffix ++ tail)) =
      ap (λ (bytes : List ℕ). u32_or_at short (rest place bytes)) parted ∙ (reads_u32_or short).again place s.prefix (s.suffix ++ tail) s.value s.first in
      let long : ltb (length (s.suffix ++ tail)) s.value ≡ false = le-ltb _ _ (omega (arith, len, length-append s.suffix tail)) in
      let second : part_at short s.value (rest (place + length s.prefix) (s.suffix ++ tail)) ≡ Ok (rest (place + length s.prefix) s.suffix, rest (place + length s.prefix + s.value) tail) =
      rw (long, take_at s.suffix tail s.value len, drop_at s.suffix tail s.value len) refl in
      let inner : f (rest (place + length s.prefix) s.suffix) ≡ Ok a = h.again (place + length s.prefix) s.suffix a s.second.1 in
      let moved : place + length s.prefix + s.value ≡ place + length text = omega (arith, ap length s.parts, length-append s.prefix s.suffix, len) in
      ap (λ (x : Result (ℕ × Rest) DecodeFault). on_ok (on_ok x (part_at short)) (λ i. after_contents (f i))) first
      ∙ ap (λ (x : Result (Rest × Rest) DecodeFault). on_ok x (λ i. after_contents (f i))) second
      ∙ ap (λ (x : Result A DecodeFault). after_contents x (rest (place + length s.prefix + s.value) tail)) inner
      ∙ ap (λ (p : ℕ). Ok (a, rest p tail)) moved;
}

pub reads_sized : {A : Type 0} {r : Reader A} {R : List ℕ → A → Type 0} (short : DecodeKind) → Reads r R → Reads (sized_at short r) (grammar.in_contents R)
reads_sized short h = reads_inside short (reads_whole h)
