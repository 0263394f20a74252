-- What a cursor's answer says of the bytes that it had.
use Rattle.std.proofs.Common.{◌≡◌, ℕ, ◌+◌, ◌-◌, ◌<◌, List, ◌++◌, length, Option, Result, Ok, Err, IfOk, ◌↔◌, sym, ap, ◌∙◌, arith, length-append}
use Rattle.vr_wasm_ast.specs.declared.cursor.LebFault.{LebFault}
use Rattle.vr_wasm_ast.specs.declared.cursor.LebFault.TheVariants.{Bad, Short}
use Rattle.vr_wasm_ast.specs.Rest.{Rest, rest, Consumes}
use Rattle.vr_wasm_ast.specs.Numbers.{IsNumber, IsBad, EndsFirst, ReadsNumber, number_from, from_place}
use Rattle.vr_wasm_ast.proofs.NumberLemmas.{found, bad_if, bad_only, short_if, short_only}

module _ {N : Type 0} (last : ℕ → ℕ → Option N) (more : N → ℕ → N) where
  moved_ok : (before after : Rest) (read : Result (N × List ℕ) LebFault) (n : N) → from_place before read ≡ Ok (n, after)
      → (bytes : List ℕ) × (read ≡ Ok (n, bytes)) × (after ≡ rest (before.place + (length before.bytes - length bytes)) bytes)
  moved_ok before after (Ok x) n e =
      let both : (x.0, rest (before.place + (length before.bytes - length x.1)) x.1) ≡ (n, after) = cc in
      (x.1, ap (λ (m : N). Ok (m, x.1)) (ap (λ (p : N × Rest). p.0) both), sym (ap (λ (p : N × Rest). p.1) both))
  moved_ok before after (Err f) n e = absurd cc

  moved_err : (before : Rest) (read : Result (N × List ℕ) LebFault) (f : LebFault) → from_place before read ≡ Err f → read ≡ Err f
  moved_err before (Ok x) f e = absurd cc
  moved_err before (Err g) f e = cc

  pub is_found : (bits : ℕ) (result : Result N LebFault) (before after : Rest) → ReadsNumber result before after (from_place before (number_from last more bits before.bytes))
      → IfOk result (λ n. (text : List ℕ) × IsNumber last more bits text n × Consumes before text after)
  is_found bits (Ok n) before after h =
      let m = moved_ok before after (number_from last more bits before.bytes) n h in
      let f = found last more bits before.bytes n m.0 m.1 in
      let len : length before.bytes ≡ length f.0 + length m.0 = ap length f.1.parts ∙ length-append f.0 m.0 in
      let place : before.place + (length before.bytes - length m.0) ≡ before.place + length f.0 = omega (arith, len) in
      (f.0, f.1.spelled, record { parts = f.1.parts ∙ ap (λ (r : Rest). f.0 ++ r.bytes) (sym m.2); moved = ap (λ (r : Rest). r.place) m.2 ∙ place })
  is_found bits (Err f) before after h = tt

  is_fault : (f : LebFault) (result : Result N LebFault) (before after : Rest) (read : Result (N × List ℕ) LebFault) → ReadsNumber result before after (from_place before read) → (result ≡ Err f) ↔ (read ≡ Err f)
  is_fault f (Ok n) before after read h = (λ e. absurd cc, λ e. let m = moved_ok before after read n h in absurd (let z = m.1 in cc))
  is_fault f (Err g) before after read h =
      let m = moved_err before read g h.0 in
      (λ e. m ∙ ap (λ (k : LebFault). Err k) (let k : g ≡ f = cc in k), λ e. ap (λ (k : LebFault). Err k) (let k : g ≡ f = (let z : Err g ≡ Err f = sym m ∙ e in cc) in k))

  pub is_bad : (bits : ℕ) → 0 < bits → (result : Result N LebFault) (before after : Rest) → ReadsNumber result before after (from_place before (number_from last more bits before.bytes))
      → (result ≡ Err Bad) ↔ IsBad last bits before.bytes
  is_bad bits some result before after h =
      let f = is_fault Bad result before after (number_from last more bits before.bytes) h in
      (λ e. bad_only last more bits before.bytes some (f.0 e), λ b. f.1 (bad_if last more bits before.bytes b))

  pub is_short : (bits : ℕ) → 0 < bits → (result : Result N LebFault) (before after : Rest) → ReadsNumber result before after (from_place before (number_from last more bits before.bytes))
      → (result ≡ Err Short) ↔ EndsFirst bits before.bytes
  is_short bits some result before after h =
      let f = is_fault Short result before after (number_from last more bits before.bytes) h in
      (λ e. short_only last more bits before.bytes some (f.0 e), λ b. f.1 (short_if last more bits before.bytes b))
