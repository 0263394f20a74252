-- Sets of places as bits of words.
use Rattle.std.proofs.Common.{◌≡◌, ◌≢◌, ℕ, ◌+◌, ◌*◌, ◌/◌, ◌%◌, ◌^◌, ◌<◌, ◌≤◌, min, max, Bool, true, false, ◌||◌, eqb, List, [], length, ◌++◌, get_or, set, take, drop, replicate, bit_and, bit_or, w64, refl, sym, ◌∙◌, ap, ◌⊎◌, inl, inr, arith}
use Rattle.std.specs.Int.{bit_at, trailing_zeros}
use Rattle.std.proofs.lemmas.Bool.{eqb-true, eq-eqb, cases_lt}
use Rattle.std.proofs.lemmas.Bool.Decides.{eqb_tells}
use Rattle.std.proofs.lemmas.List.{get_or-replicate, get_or_past, get_or_default, get_or-set_same, get_or-set_other}
use Rattle.std.proofs.lemmas.Nat.{and_le_l}
use Rattle.std.proofs.lemmas.Nat.Bits.{bit_at-zero, bit_at_or, bit_at_and, bit_at-lt, bit_at_set_same, bit_at_set_other, bit_at-trailing_zeros}
use Rattle.std.proofs.Math.Bool.{or-false, or-true}
use Rattle.std.proofs.Math.Seq.{take-append_seam}
use Rattle.std.proofs.Math.ListN.{length-replicate, length-set}
use Rattle.vr_flow.specs.Places.{has_place, Adds, just, those_of, Meet}

-- ---- no place

pub past_end : (words : List ℕ) (place : ℕ) → length words ≤ place / 64 → has_place words place ≡ false
unfolding has_place
past_end words place l = ap (λ w. eqb (bit_at w (place % 64)) 1) (get_or_past words (place / 64) 0 l) ∙ ap (λ b. eqb b 1) (bit_at-zero (place % 64))

pub empty_set : (place : ℕ) → has_place [] place ≡ false
empty_set place = past_end [] place (omega arith)

pub copies_at : {X : Type 0} (n i : ℕ) (x : X) → get_or (replicate n x) i x ≡ x
copies_at {X} n i x = by_cases (cases_lt i n)
  where
    by_cases : (i < n) ⊎ (n ≤ i) → get_or (replicate n x) i x ≡ x
    by_cases (inl l) = get_or-replicate n i x x l
    by_cases (inr g) = get_or_past (replicate n x) i x (rw length-replicate g)

pub zeros_have_none : (n place : ℕ) → has_place (replicate n 0) place ≡ false
unfolding has_place
zeros_have_none n place = ap (λ w. eqb (bit_at w (place % 64)) 1) (copies_at n (place / 64) 0) ∙ ap (λ b. eqb b 1) (bit_at-zero (place % 64))

-- ---- one place more

-- two tests of numbers agree where the numbers do
same_test : (a b c d : ℕ) → (a ≡ b → c ≡ d) → (c ≡ d → a ≡ b) → eqb a b ≡ eqb c d
same_test a b c d f g = elim (eqb_tells a b) [
  | inl h ↦ h.0 ∙ sym (eq-eqb c d (f h.1))
  | inr h ↦ elim (eqb_tells c d) [ inl k ↦ absurd (h.1 (g k.1)) | inr k ↦ h.0 ∙ sym k.0 ]
]

put_bit : (word k i : ℕ) → k < 64 → eqb (bit_at (bit_or word (1 * 2 ^ k % 2 ^ 64)) i) 1 ≡ (eqb (bit_at word i) 1 || eqb i k)
put_bit word k i l = elim (eqb_tells i k) [
  | inl h ↦ ap (λ n. eqb (bit_at (bit_or word (1 * 2 ^ k % 2 ^ 64)) n) 1) h.1 ∙ ap (λ n. eqb n 1) (bit_at_set_same w64 word k l) ∙ sym (ap (λ t. eqb (bit_at word i) 1 || t) h.0 ∙ or-true (eqb (bit_at word i) 1))
  | inr h ↦ ap (λ n. eqb n 1) (bit_at_set_other w64 word k l i h.1) ∙ sym (ap (λ t. eqb (bit_at word i) 1 || t) h.0 ∙ or-false (eqb (bit_at word i) 1))
]

pub put_place : (words : List ℕ) (place other : ℕ) → place / 64 < length words
    → has_place (set words (place / 64) (bit_or (get_or words (place / 64) 0) (1 * 2 ^ (place % 64) % 2 ^ 64))) other ≡ (has_place words other || eqb other place)
unfolding has_place
put_place words place other l = elim (eqb_tells (other / 64) (place / 64)) [ inl h ↦ here h.1 | inr h ↦ elsewhere h.1 ]
  where
    changed : ℕ
    changed = bit_or (get_or words (place / 64) 0) (1 * 2 ^ (place % 64) % 2 ^ 64)

    here : other / 64 ≡ place / 64 → eqb (bit_at (get_or (set words (place / 64) (bit_or (get_or words (place / 64) 0) (1 * 2 ^ (place % 64) % 2 ^ 64))) (other / 64) 0) (other % 64)) 1 ≡ (eqb (bit_at (get_or words (other / 64) 0) (other % 64)) 1 || eqb other place)
    here same =
        let small : place % 64 < 64 = omega arith in
        let test : eqb (other % 64) (place % 64) ≡ eqb other place = same_test (other % 64) (place % 64) other place (λ e. omega arith) (λ e. ap (λ n. n % 64) e) in
        rw (same, get_or-set_same words (place / 64) (bit_or (get_or words (place / 64) 0) (1 * 2 ^ (place % 64) % 2 ^ 64)) 0 l, put_bit (get_or words (place / 64) 0) (place % 64) (other % 64) small, test) refl

    elsewhere : other / 64 ≢ place / 64 → eqb (bit_at (get_or (set words (place / 64) (bit_or (get_or words (place / 64) 0) (1 * 2 ^ (place % 64) % 2 ^ 64))) (other / 64) 0) (other % 64)) 1 ≡ (eqb (bit_at (get_or words (other / 64) 0) (other % 64)) 1 || eqb other place)
    elsewhere far =
        let apart : other ≢ place = λ e. far (ap (λ n. n / 64) e) in
        let test : eqb other place ≡ false = elim (eqb_tells other place) [ inl h ↦ absurd (apart h.1) | inr h ↦ h.0 ] in
        rw (get_or-set_other words (place / 64) (other / 64) (bit_or (get_or words (place / 64) 0) (1 * 2 ^ (place % 64) % 2 ^ 64)) 0 far, test, or-false) refl

pub puts : (words old : List ℕ) (place word : ℕ) (is_in : Bool) → words ≡ old → place / 64 < length old → is_in ≡ true → word ≡ get_or words (place / 64) word
    → Adds (just place is_in) old (set words (place / 64) (bit_or word (1 * 2 ^ (place % 64) % 2 ^ 64)))
puts words old place word is_in same l t is =
    let there : place / 64 < length words = rw same l in
    let w : word ≡ get_or words (place / 64) 0 = is ∙ get_or_default words (place / 64) word 0 there in
    record {
      room = length-set words (place / 64) _ ∙ ap length same;
      added = λ other. (rw t (ap (λ x. has_place (set words (place / 64) (bit_or x (1 * 2 ^ (place % 64) % 2 ^ 64))) other) w ∙ put_place words place other there ∙ ap (λ ws. has_place ws other || eqb other place) same));
    }

pub has_here : (words old : List ℕ) (place word : ℕ) → words ≡ old → place / 64 < length words → word ≡ get_or words (place / 64) word → eqb (word / 2 ^ (place % 64) % 2) 1 ≡ has_place old place
unfolding has_place
has_here words old place word same l is =
    ap (λ w. eqb (bit_at w (place % 64)) 1) (is ∙ get_or_default words (place / 64) word 0 l) ∙ ap (λ ws. has_place ws place) same

-- ---- the places of two sets

bit_cases : (n : ℕ) → n < 2 → (n ≡ 0) ⊎ (n ≡ 1)
bit_cases n l = elim (eqb_tells n 0) [ inl h ↦ inl h.1 | inr h ↦ inr (omega (arith, h.1)) ]

either_bit : (x y : ℕ) → x < 2 → y < 2 → eqb (max x y) 1 ≡ (eqb x 1 || eqb y 1)
either_bit x y hx hy = by_cases (bit_cases x hx) (bit_cases y hy)
  where
    by_cases : (x ≡ 0) ⊎ (x ≡ 1) → (y ≡ 0) ⊎ (y ≡ 1) → eqb (max x y) 1 ≡ (eqb x 1 || eqb y 1)
    by_cases (inl a) (inl b) = rw (a, b) refl
    by_cases (inl a) (inr b) = rw (a, b) refl
    by_cases (inr a) (inl b) = rw (a, b) refl
    by_cases (inr a) (inr b) = rw (a, b) refl

pub either_place : (words others new : List ℕ) → ((i : ℕ) → get_or new i 0 ≡ bit_or (get_or words i 0) (get_or others i 0))
    → (place : ℕ) → has_place new place ≡ (has_place words place || has_place others place)
unfolding has_place
either_place words others new h place =
    ap (λ w. eqb (bit_at w (place % 64)) 1) (h (place / 64))
    ∙ ap (λ b. eqb b 1) (bit_at_or (get_or words (place / 64) 0) (get_or others (place / 64) 0) (place % 64))
    ∙ either_bit _ _ (bit_at-lt (get_or words (place / 64) 0) (place % 64)) (bit_at-lt (get_or others (place / 64) 0) (place % 64))

pub adds : (old more items added : List ℕ) (is_in : Bool) (len : ℕ) → items ≡ old → is_in ≡ true → length added ≡ length items → len ≡ length items
    → ((i : ℕ) → get_or added i 0 ≡ bit_or (get_or items i 0) (get_or more i 0))
    → Adds (those_of more is_in) old (take len (added ++ drop (length added) items))
adds old more items added is_in len same t room all each =
    let new : take len (added ++ drop (length added) items) ≡ added = rw (all, ← room) (take-append_seam added (drop (length added) items)) in
    record {
      room = ap length new ∙ room ∙ ap length same;
      added = λ place. (rw t (ap (λ ws. has_place ws place) new ∙ either_place items more added each place ∙ ap (λ ws. has_place ws place || has_place more place) same));
    }

-- a bit of both words is a place of both sets
pub meet_here : (words others : List ℕ) (i : ℕ) → bit_and (get_or words i 0) (get_or others i 0) ≢ 0 → get_or words i 0 < 2 ^ 64 → Meet words others
unfolding has_place
meet_here words others i some fits =
    let small : bit_and (get_or words i 0) (get_or others i 0) < 2 ^ 64 = omega (arith, and_le_l (get_or words i 0) (get_or others i 0)) in
    let bit = trailing_zeros w64 (bit_and (get_or words i 0) (get_or others i 0)) in
    let found = bit_at-trailing_zeros w64 (bit_and (get_or words i 0) (get_or others i 0)) (omega arith) small in
    let within : bit < 64 = found.0 in
    let at : (i * 64 + bit) / 64 ≡ i = omega arith in
    let of : (i * 64 + bit) % 64 ≡ bit = omega arith in
    let both : min (bit_at (get_or words i 0) bit) (bit_at (get_or others i 0) bit) ≡ 1 = sym (bit_at_and (get_or words i 0) (get_or others i 0) bit) ∙ found.1 in
    let left : bit_at (get_or words i 0) bit ≡ 1 = omega (arith, bit_at-lt (get_or words i 0) bit, both) in
    let right : bit_at (get_or others i 0) bit ≡ 1 = omega (arith, bit_at-lt (get_or others i 0) bit, both) in (
      i * 64 + bit,
      rw (at, of) (eq-eqb _ 1 left),
      rw (at, of) (eq-eqb _ 1 right),
    )

-- no bit of both words, no place of both sets
pub meet_nowhere : (words others : List ℕ) → ((i : ℕ) → i < length words → bit_and (get_or words i 0) (get_or others i 0) ≡ 0) → Meet words others → ⊥
unfolding has_place
meet_nowhere words others h (place, left, right) = elim (cases_lt (place / 64) (length words)) [
  | inl l ↦
      (let a : bit_at (get_or words (place / 64) 0) (place % 64) ≡ 1 = eqb-true _ 1 left in
      let b : bit_at (get_or others (place / 64) 0) (place % 64) ≡ 1 = eqb-true _ 1 right in
      let both : min (bit_at (get_or words (place / 64) 0) (place % 64)) (bit_at (get_or others (place / 64) 0) (place % 64)) ≡ 0 =
      sym (bit_at_and (get_or words (place / 64) 0) (get_or others (place / 64) 0) (place % 64)) ∙ ap (λ n. bit_at n (place % 64)) (h (place / 64) l) ∙ bit_at-zero (place % 64) in
      absurd (omega (arith, a, b, both)))
  | inr g ↦ (let none : has_place words place ≡ false = past_end words place g in cc)
]
