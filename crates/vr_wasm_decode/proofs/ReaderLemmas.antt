-- Readers and grammars: what is read is so spelled, and what is so spelled is read.
use Rattle.std.proofs.Common.{◌≡◌, ℕ, zero, suc, ◌+◌, ◌≤◌, Bool, true, false, cond, eqb, List, [], ◌∷◌, ◌++◌, length, Result, Ok, Err, ◌⊎◌, inl, inr, refl, sym, ap, ◌∙◌, append_assoc, arith, length-append}
use Rattle.std.proofs.lemmas.Bool.{eqb-true, eqb-false}
use Rattle.vr_wasm_ast.specs.Rest.{Rest, rest, Consumes}
use Rattle.vr_wasm_ast.specs.Grammar.{Sequence, gives, many}
use Rattle.vr_wasm_decode.specs.declared.fault.DecodeFault.{DecodeFault}
use Rattle.vr_wasm_decode.specs.declared.fault.DecodeKind.{DecodeKind}
use Rattle.vr_wasm_decode.specs.Reader.{Reader, on_ok, ◌>>=◌, give, here, stop, byte_at, byte_from, items_at}

-- what was read is spelled by what was taken
pub record Found {A : Type 0} (R : List ℕ → A → Type 0) (before : Rest) (a : A) (after : Rest) : Type 0 where
  pub text : List ℕ
  pub taken : Consumes before text after
  pub spelled : R text a

pub record Reads {A : Type 0} (r : Reader A) (R : List ℕ → A → Type 0) : Type 0 where
  pub found : (before : Rest) (a : A) (after : Rest) → r before ≡ Ok (a, after) → Found R before a after
  pub again : (place : ℕ) (text tail : List ℕ) (a : A) → R text a → r (rest place (text ++ tail)) ≡ Ok (a, rest (place + length text) tail)

-- ---- what is left

-- what is left has no more bytes
pub shorter : {A : Type 0} {R : List ℕ → A → Type 0} {before after : Rest} {a : A} → Found R before a after → length after.bytes ≤ length before.bytes
shorter {before = before} {after = after} f = omega (arith, ap length f.taken.parts, length-append f.text after.bytes)

pub ok_is : {A : Type 0} (a b : A) (x y : Rest) → ◌≡◌ {A = Result (A × Rest) DecodeFault} (Ok (a, x)) (Ok (b, y)) → (a ≡ b) × (x ≡ y)
ok_is {A} a b x y e =
    let both : (a, x) ≡ (b, y) = cc in
    (ap (λ (p : A × Rest). p.0) both, ap (λ (p : A × Rest). p.1) both)

-- the value of a step that gave no fault
pub bind_ok : {A B : Type 0} (r : Result (A × Rest) DecodeFault) (f : A → Rest → Result B DecodeFault) (y : B) → on_ok r f ≡ Ok y → (a : A) × (middle : Rest) × (r ≡ Ok (a, middle)) × (f a middle ≡ Ok y)
bind_ok (Ok x) f y e = (x.0, x.1, refl, e)
bind_ok (Err d) f y e = absurd cc

same_rest : (place other : ℕ) (bytes : List ℕ) → place ≡ other → rest place bytes ≡ rest other bytes
same_rest place other bytes e = ap (λ p. rest p bytes) e

-- ---- readers from readers

pub reads_give : {A : Type 0} (a : A) → Reads (give a) (gives a)
reads_give a = record {
  found = λ before b after e.
      let p = ok_is a b before after e in
      record {
        text = [];
        taken = record { parts = ap (λ (r : Rest). r.bytes) p.1; moved = ap (λ (r : Rest). r.place) (sym p.1) ∙ omega arith };
        spelled = (refl, sym p.0);
      };
  again = λ place text tail b h. rw (h.0, h.1, same_rest place (place + 0) tail (omega arith)) refl;
}

pub reads_stop : {A : Type 0} (kind : DecodeKind) (place : ℕ) → Reads {A = A} (stop kind place) (λ text a. ⊥)
reads_stop kind place = record {
  found = λ before a after e. absurd cc;
  again = λ at text tail a h. absurd h;
}

pub takes_then : (before : Rest) (prefix : List ℕ) (middle : Rest) (back : List ℕ) (after : Rest) → Consumes before prefix middle → Consumes middle back after → Consumes before (prefix ++ back) after
takes_then before prefix middle back after p q = record {
  parts = p.parts ∙ ap (λ bytes. prefix ++ bytes) q.parts ∙ sym (append_assoc prefix back after.bytes);
  moved = q.moved ∙ omega (arith, p.moved, length-append prefix back);
}

pub reads_then : {A B : Type 0} {r : Reader A} {R : List ℕ → A → Type 0} {f : A → Reader B} {S : A → List ℕ → B → Type 0} → Reads r R → ((a : A) → Reads (f a) (S a)) → Reads (r >>= f) (Sequence R S)
reads_then {r = r} {R = R} {f = f} {S = S} one two = record {
  found = λ before b after e.
      let p = bind_ok (r before) f (b, after) e in
      let q = one.found before p.0 p.1 p.2 in
      let s = (two p.0).found p.1 b after p.3 in
      record {
        text = q.text ++ s.text;
        taken = takes_then before q.text p.1 s.text after q.taken s.taken;
        spelled = record { prefix = q.text; suffix = s.text; value = p.0; parts = refl; first = q.spelled; second = s.spelled };
      };
  again = λ place text tail b h.
      let cut : text ++ tail ≡ h.prefix ++ (h.suffix ++ tail) = ap (λ t. t ++ tail) h.parts ∙ append_assoc h.prefix h.suffix tail in
      let len : place + length h.prefix + length h.suffix ≡ place + length text = omega (arith, ap length h.parts, length-append h.prefix h.suffix) in
      let first : r (rest place (text ++ tail)) ≡ Ok (h.value, rest (place + length h.prefix) (h.suffix ++ tail)) =
      ap (λ bytes. r (rest place bytes)) cut ∙ one.again place h.prefix (h.suffix ++ tail) h.value h.first in
      ap (λ x. on_ok x f) first ∙ (two h.value).again (place + length h.prefix) h.suffix tail b h.second ∙ ap (λ p. Ok (b, rest p tail)) len;
}

-- the offset is no part of what is spelled
pub reads_here : {A : Type 0} {f : ℕ → Reader A} {R : List ℕ → A → Type 0} → ((place : ℕ) → Reads (f place) R) → Reads (here >>= f) R
reads_here h = record {
  found = λ before a after e. (h before.place).found before a after e;
  again = λ place text tail a s. (h place).again place text tail a s;
}

-- another grammar that says the same
pub reads_as : {A : Type 0} {r : Reader A} {R : List ℕ → A → Type 0} (S : List ℕ → A → Type 0) → ((text : List ℕ) (a : A) → R text a → S text a) → ((text : List ℕ) (a : A) → S text a → R text a) → Reads r R → Reads r S
reads_as S there back h = record {
  found = λ before a after e. let f = h.found before a after e in record { text = f.text; taken = f.taken; spelled = there f.text a f.spelled };
  again = λ place text tail a s. h.again place text tail a (back text a s);
}

-- ---- a byte, and what it chooses

byte_ok : (place : ℕ) (bytes : List ℕ) (b : ℕ) (after : Rest) → byte_from place bytes ≡ Ok (b, after) → (bytes ≡ b ∷ after.bytes) × (after.place ≡ place + 1)
byte_ok place [] b after e = absurd cc
byte_ok place (c ∷ bytes) b after e =
    let p = ok_is c b (rest (place + 1) bytes) after e in
    (ap (λ x. x ∷ bytes) p.0 ∙ ap (λ (r : Rest). b ∷ r.bytes) p.1, ap (λ (r : Rest). r.place) (sym p.1))

-- a byte, and what is taken counted_on it
pub takes_byte : (before : Rest) (b : ℕ) (middle : Rest) (text : List ℕ) (after : Rest) → byte_at before ≡ Ok (b, middle) → Consumes middle text after → Consumes before (b ∷ text) after
takes_byte before b middle text after e t =
    let p = byte_ok before.place before.bytes b middle e in
    record { parts = p.0 ∙ ap (λ bytes. b ∷ bytes) t.parts; moved = t.moved ∙ omega (arith, p.1) }

byte_again : {A : Type 0} (f : ℕ → Reader A) (G : List ℕ → A → Type 0) (none : (a : A) → G [] a → ⊥) (h : (b : ℕ) → Reads (f b) (λ back a. G (b ∷ back) a))
    → (place : ℕ) (text tail : List ℕ) (a : A) → G text a → on_ok (byte_at (rest place (text ++ tail))) f ≡ Ok (a, rest (place + length text) tail)
byte_again f G none h place [] tail a g = absurd (none a g)
byte_again f G none h place (b ∷ text) tail a g =
    (h b).again (place + 1) text tail a g ∙ ap (λ p. Ok (a, rest p tail)) (let e : place + 1 + length text ≡ place + length (b ∷ text) = omega arith in e)

pub reads_byte : {A : Type 0} {f : ℕ → Reader A} (G : List ℕ → A → Type 0) → ((a : A) → G [] a → ⊥) → ((b : ℕ) → Reads (f b) (λ back a. G (b ∷ back) a)) → Reads (byte_at >>= f) G
reads_byte {f = f} G none h = record {
  found = λ before a after e.
      let p = bind_ok (byte_at before) f (a, after) e in
      let b = byte_ok before.place before.bytes p.0 p.1 p.2 in
      let q = (h p.0).found p.1 a after p.3 in
      record {
        text = p.0 ∷ q.text;
        taken = record { parts = b.0 ∙ ap (λ bytes. p.0 ∷ bytes) q.taken.parts; moved = q.taken.moved ∙ omega (arith, b.1) };
        spelled = q.spelled;
      };
  again = λ place text tail a g. byte_again f G none h place text tail a g;
}

-- the byte is the one that is asked for, or what the other grammar wants is none of it
pub reads_case : {A : Type 0} {r s : Reader A} {R S : List ℕ → A → Type 0} (b k : ℕ) → Reads r R → Reads s S → ((text : List ℕ) (a : A) → b ≡ k → S text a → ⊥)
    → Reads (cond (eqb b k) r s) (λ text a. ((b ≡ k) × R text a) ⊎ S text a)
reads_case {A} {r} {s} {R} {S} b k one two apart = decide (eqb b k) refl where
  decide : (t : Bool) → eqb b k ≡ t → Reads (cond t r s) (λ text a. ((b ≡ k) × R text a) ⊎ S text a)
  decide true e = record {
    found = λ before a after h. let f = one.found before a after h in record { text = f.text; taken = f.taken; spelled = inl (eqb-true b k e, f.spelled) };
    again = λ place text tail a h. elim h [ inl p ↦ one.again place text tail a p.1 | inr q ↦ absurd (apart text a (eqb-true b k e) q) ];
  }
  decide false e = record {
    found = λ before a after h. let f = two.found before a after h in record { text = f.text; taken = f.taken; spelled = inr f.spelled };
    again = λ place text tail a h. elim h [ inl p ↦ absurd (eqb-false b k e p.0) | inr q ↦ two.again place text tail a q ];
  }

pub reads_last : {A : Type 0} {r s : Reader A} {R : List ℕ → A → Type 0} (b k : ℕ) → Reads r R → Reads s (λ text a. ⊥) → Reads (cond (eqb b k) r s) (λ text a. (b ≡ k) × R text a)
reads_last b k one two = reads_as (λ text a. (b ≡ k) × _) (λ text a h. elim h [ inl p ↦ p | inr q ↦ absurd q ]) (λ text a h. inl h) (reads_case b k one two (λ text a e q. q))

-- ---- several items

pub reads_items : {A : Type 0} {r : Reader A} {R : List ℕ → A → Type 0} (n : ℕ) → Reads r R → Reads (items_at n r) (many n R)
reads_items zero h = reads_give []
reads_items (suc n) h = reads_then h (λ first. reads_then (reads_items n h) (λ others. reads_give (first ∷ others)))
