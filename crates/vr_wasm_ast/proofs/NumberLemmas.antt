-- What is read as a number is one, and a number is read, or there is the fault that the bytes have.
use Rattle.std.proofs.Common.{◌≡◌, ℕ, ◌+◌, ◌-◌, ◌*◌, ◌<◌, ◌≤◌, Bool, true, false, cond, ltb, List, [], ◌∷◌, ◌++◌, length, Option, None, Some, Result, Ok, Err, ◌⊎◌, inl, inr, refl, sym, ap, arith}
use Rattle.std.proofs.lemmas.Bool.{ltb-false, ltb-true, le-ltb, lt-ltb}
use Rattle.vr_wasm_ast.specs.declared.cursor.LebFault.{LebFault}
use Rattle.vr_wasm_ast.specs.declared.cursor.LebFault.TheVariants.{Bad, Short}
use Rattle.vr_wasm_ast.specs.Numbers.{IsNumber, number_from, or_bad, with_low, EndsFirst, AllGoOn, IsBad}

-- what a test chose
pub chosen : {A : Type 0} (b : Bool) (x y z : A) → cond b x y ≡ z → ((b ≡ true) × (x ≡ z)) ⊎ ((b ≡ false) × (y ≡ z))
chosen true x y z e = inl (refl, e)
chosen false x y z e = inr (refl, e)

module _ {N : Type 0} (last : ℕ → ℕ → Option N) (more : N → ℕ → N) where
  -- what was read is spelled by what was taken
  pub record Found (bits : ℕ) (bytes : List ℕ) (n : N) (after text : List ℕ) : Type 0 where
    pub parts : bytes ≡ text ++ after
    pub spelled : IsNumber last more bits text n

  ends_ok : (o : Option N) (bytes : List ℕ) (n : N) (after : List ℕ) → or_bad o bytes ≡ Ok (n, after) → (o ≡ Some n) × (bytes ≡ after)
  ends_ok (Some m) bytes n after e =
      let both : (m, bytes) ≡ (n, after) = cc in
      (ap (λ (p : N × List ℕ). Some p.0) both, ap (λ (p : N × List ℕ). p.1) both)
  ends_ok None bytes n after e = absurd cc

  low_ok : (low : ℕ) (read : Result (N × List ℕ) LebFault) (n : N) (after : List ℕ) → with_low more low read ≡ Ok (n, after) → (high : N) × (read ≡ Ok (high, after)) × (n ≡ more high low)
  low_ok low (Ok x) n after e =
      let both : (more x.0 low, x.1) ≡ (n, after) = cc in
      (x.0, ap (λ (bs : List ℕ). Ok (x.0, bs)) (ap (λ (p : N × List ℕ). p.1) both), sym (ap (λ (p : N × List ℕ). p.0) both))
  low_ok low (Err f) n after e = absurd cc

  longer : (bits b : ℕ) (text : List ℕ) (high n : N) → 128 ≤ b → 7 < bits → n ≡ more high (b - 128) → IsNumber last more (bits - 7) text high → IsNumber last more bits (b ∷ text) n
  longer bits b [] high n ge wide e h = absurd h
  longer bits b (c ∷ text) high n ge wide e h = (ge, wide, high, e, h)

  pub found : (bits : ℕ) (bytes : List ℕ) (n : N) (after : List ℕ) → number_from last more bits bytes ≡ Ok (n, after) → (text : List ℕ) × Found bits bytes n after text
  unfolding number_from
  found bits [] n after e = absurd cc
  found bits (b ∷ bytes) n after e =
      elim (chosen (ltb b 128) (or_bad (last bits b) bytes) (cond (ltb 7 bits) (with_low more (b - 128) (number_from last more (bits - 7) bytes)) (Err Bad)) (Ok (n, after)) e) [
        | inl p ↦
            let o = ends_ok (last bits b) bytes n after p.1 in
            (b ∷ [], record { parts = ap (λ (bs : List ℕ). b ∷ bs) o.1; spelled = (ltb-true _ _ p.0, o.0) })
        | inr p ↦
            elim (chosen (ltb 7 bits) (with_low more (b - 128) (number_from last more (bits - 7) bytes)) (Err Bad) (Ok (n, after)) p.1) [
              | inl q ↦
                  let l = low_ok (b - 128) (number_from last more (bits - 7) bytes) n after q.1 in
                  let r = found (bits - 7) bytes l.0 after l.1 in
                  (b ∷ r.0, record { parts = ap (λ (bs : List ℕ). b ∷ bs) r.1.parts; spelled = longer bits b r.0 l.0 n (ltb-false _ _ p.0) (ltb-true _ _ q.0) l.2 r.1.spelled })
              | inr q ↦ absurd (let z = q.1 in cc)
            ]
      ]

  pub again : (bits : ℕ) (text tail : List ℕ) (n : N) → IsNumber last more bits text n → number_from last more bits (text ++ tail) ≡ Ok (n, tail)
  unfolding number_from
  again bits [] tail n h = absurd h
  again bits (b ∷ []) tail n h = rw (lt-ltb b 128 h.0, h.1) refl
  again bits (b ∷ c ∷ text) tail n h =
      rw (le-ltb b 128 h.0, lt-ltb 7 bits h.1, again (bits - 7) (c ∷ text) tail h.2 h.4, h.3) refl

  pub short_if : (bits : ℕ) (bytes : List ℕ) → EndsFirst bits bytes → number_from last more bits bytes ≡ Err Short
  unfolding number_from
  short_if bits [] h = refl
  short_if bits (b ∷ bytes) h =
      let wide : 7 < bits = omega (arith, h.0) in
      rw (le-ltb b 128 h.1.0, lt-ltb 7 bits wide, short_if (bits - 7) bytes (omega (arith, h.0), h.1.1)) refl

  low_err : (low : ℕ) (read : Result (N × List ℕ) LebFault) (f : LebFault) → with_low more low read ≡ Err f → read ≡ Err f
  low_err low (Ok x) f e = absurd cc
  low_err low (Err g) f e = cc

  ends_err : (o : Option N) (bytes : List ℕ) (f : LebFault) → or_bad o bytes ≡ Err f → (o ≡ None) × (f ≡ Bad)
  ends_err (Some m) bytes f e = absurd cc
  ends_err None bytes f e = (refl, cc)

  pub short_only : (bits : ℕ) (bytes : List ℕ) → 0 < bits → number_from last more bits bytes ≡ Err Short → EndsFirst bits bytes
  unfolding number_from
  short_only bits [] some e = (omega arith, tt)
  short_only bits (b ∷ bytes) some e =
      elim (chosen (ltb b 128) (or_bad (last bits b) bytes) (cond (ltb 7 bits) (with_low more (b - 128) (number_from last more (bits - 7) bytes)) (Err Bad)) (Err Short) e) [
        | inl p ↦ absurd (let z = (ends_err (last bits b) bytes Short p.1).1 in cc)
        | inr p ↦
            elim (chosen (ltb 7 bits) (with_low more (b - 128) (number_from last more (bits - 7) bytes)) (Err Bad) (Err Short) p.1) [
              | inl q ↦
                  let wide = ltb-true _ _ q.0 in
                  let r = short_only (bits - 7) bytes (omega (arith, wide)) (low_err (b - 128) (number_from last more (bits - 7) bytes) Short q.1) in
                  (omega (arith, wide, r.0), (ltb-false _ _ p.0, r.1))
              | inr q ↦ absurd (let z = q.1 in cc)
            ]
      ]

  bad_after : (bits : ℕ) (prefix : List ℕ) (b : ℕ) (after : List ℕ) → AllGoOn prefix → 7 * length prefix < bits
      → ((128 ≤ b) × (bits ≤ 7 * length prefix + 7)) ⊎ ((b < 128) × (last (bits - 7 * length prefix) b ≡ None))
      → number_from last more bits (prefix ++ b ∷ after) ≡ Err Bad
  unfolding number_from
  bad_after bits [] b after goes_on allowed (inl h) =
      let narrow : bits ≤ 7 = omega (arith, h.1) in
      rw (le-ltb b 128 h.0, le-ltb 7 bits narrow) refl
  bad_after bits [] b after goes_on allowed (inr h) =
      let same : bits - 7 * 0 ≡ bits = omega arith in
      let none : last bits b ≡ None = rw same at h.1 in
      rw (lt-ltb b 128 h.0, none) refl
  bad_after bits (c ∷ prefix) b after goes_on allowed h =
      let wide : 7 < bits = omega arith in
      let less : bits - 7 - 7 * length prefix ≡ bits - 7 * length (c ∷ prefix) = omega arith in
      let inner : ((128 ≤ b) × (bits - 7 ≤ 7 * length prefix + 7)) ⊎ ((b < 128) × (last (bits - 7 - 7 * length prefix) b ≡ None)) =
      elim h [ inl p ↦ inl (p.0, omega (arith, p.1)) | inr p ↦ inr (p.0, rw less p.1) ] in
      rw (le-ltb c 128 goes_on.0, lt-ltb 7 bits wide, bad_after (bits - 7) prefix b after goes_on.1 (omega arith) inner) refl

  pub bad_if : (bits : ℕ) (bytes : List ℕ) → IsBad last bits bytes → number_from last more bits bytes ≡ Err Bad
  bad_if bits bytes h = rw h.3.parts (bad_after bits h.0 h.1 h.2 h.3.goes_on h.3.allowed h.3.wrong)

  bad_one_later : (bits c : ℕ) (bytes : List ℕ) → 128 ≤ c → 7 < bits → IsBad last (bits - 7) bytes → IsBad last bits (c ∷ bytes)
  bad_one_later bits c bytes ge wide h =
      let less : bits - 7 - 7 * length h.0 ≡ bits - 7 * length (c ∷ h.0) = omega arith in (
        c ∷ h.0,
        h.1,
        h.2,
        record {
          parts = ap (λ (bs : List ℕ). c ∷ bs) h.3.parts;
          goes_on = (ge, h.3.goes_on);
          allowed = omega (arith, h.3.allowed);
          wrong = elim h.3.wrong [ inl p ↦ inl (p.0, omega (arith, p.1)) | inr p ↦ inr (p.0, rw (← less) p.1) ];
        },
      )

  pub bad_only : (bits : ℕ) (bytes : List ℕ) → 0 < bits → number_from last more bits bytes ≡ Err Bad → IsBad last bits bytes
  unfolding number_from
  bad_only bits [] some e = absurd cc
  bad_only bits (b ∷ bytes) some e =
      elim (chosen (ltb b 128) (or_bad (last bits b) bytes) (cond (ltb 7 bits) (with_low more (b - 128) (number_from last more (bits - 7) bytes)) (Err Bad)) (Err Bad) e) [
        | inl p ↦
            let same : bits ≡ bits - 7 * 0 = omega arith in
            let none : last bits b ≡ None = (ends_err (last bits b) bytes Bad p.1).0 in
            ([], b, bytes, record { parts = refl; goes_on = tt; allowed = omega arith; wrong = inr (ltb-true _ _ p.0, rw same at none) })
        | inr p ↦
            elim (chosen (ltb 7 bits) (with_low more (b - 128) (number_from last more (bits - 7) bytes)) (Err Bad) (Err Bad) p.1) [
              | inl q ↦
                  let wide = ltb-true _ _ q.0 in
                  bad_one_later bits b bytes (ltb-false _ _ p.0) wide (bad_only (bits - 7) bytes (omega (arith, wide)) (low_err (b - 128) (number_from last more (bits - 7) bytes) Bad q.1))
              | inr q ↦ ([], b, bytes, record { parts = refl; goes_on = tt; allowed = omega arith; wrong = inl (ltb-false _ _ p.0, omega (arith, ltb-false _ _ q.0)) })
            ]
      ]
