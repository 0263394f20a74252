-- Reading items one after the other, as a loop does.
use Rattle.std.proofs.Common.{◌≡◌, ℕ, suc, ◌-◌, ◌+◌, ◌≤◌, ◌<◌, List, [], ◌∷◌, ◌++◌, Result, Ok, Err, refl, sym, ap, ◌∙◌, append_assoc, arith}
use Rattle.std.proofs.lemmas.List.{append-nil}
use Rattle.vr_wasm_ast.specs.Rest.{Rest}
use Rattle.vr_wasm_decode.specs.declared.fault.DecodeFault.{DecodeFault}
use Rattle.vr_wasm_ast.specs.Checks.{Tells}
use Rattle.vr_wasm_decode.specs.declared.fault.ReadError.{ReadError}
use Rattle.vr_wasm_decode.specs.declared.fault.ReadError.TheVariants as errors
use Rattle.vr_wasm_decode.specs.Faults.{told}
use Rattle.vr_wasm_decode.specs.Reader.{Reader, on_ok, items_at}

-- what was read before, and what is still read
abbrev pub with_prefix : {A : Type 0} → List A → Result (List A × Rest) DecodeFault → Result (List A × Rest) DecodeFault
with_prefix prefix read = on_ok read (λ xs after. Ok (prefix ++ xs, after))

pub regroup : {A : Type 0} (prefix : List A) (x : A) (read : Result (List A × Rest) DecodeFault)
    → with_prefix prefix (on_ok read (λ xs after. Ok (x ∷ xs, after))) ≡ with_prefix (prefix ++ x ∷ []) read
regroup prefix x (Ok xs) = ap (λ ys. Ok (ys, xs.1)) (simp append_assoc)
regroup prefix x (Err f) = refl

pub no_prefix : {A : Type 0} (read : Result (List A × Rest) DecodeFault) → with_prefix [] read ≡ read
no_prefix (Ok xs) = refl
no_prefix (Err f) = refl

-- a fault is handed on
pub fails_on : {A B : Type 0} (e : ReadError) (read : Result (A × Rest) DecodeFault) (f : A → Rest → Result B DecodeFault) → Tells (told e) read → Tells (told e) (on_ok read f)
fails_on errors.OutOfMemory read f h = tt
fails_on (errors.Fault d) read f h = ap (λ r. on_ok r f) h

pub fails_by : {A : Type 0} (e : ReadError) (one other : Result A DecodeFault) → one ≡ other → Tells (told e) one → Tells (told e) other
fails_by errors.OutOfMemory one other same h = tt
fails_by (errors.Fault d) one other same h = sym same ∙ h

module _ {A : Type 0} (r : Reader A) (total : Result (List A × Rest) DecodeFault) where
  pub goes_on : (prefix : List A) (count i : ℕ) (before after : Rest) (x : A) → i < count → r before ≡ Ok (x, after)
      → with_prefix prefix (items_at (count - i) r before) ≡ total → with_prefix (prefix ++ x ∷ []) (items_at (count - (i + 1)) r after) ≡ total
  goes_on prefix count i before after x lt h so_far =
      let k : count - i ≡ suc (count - (i + 1)) = omega arith in
      let one : with_prefix prefix (items_at (count - i) r before) ≡ with_prefix (prefix ++ x ∷ []) (items_at (count - (i + 1)) r after) =
      rw (k, h) (regroup prefix x (items_at (count - (i + 1)) r after)) in
      sym one ∙ so_far

  pub ends : (e : ReadError) (prefix : List A) (count i : ℕ) (before : Rest) → i < count → Tells (told e) (r before)
      → with_prefix prefix (items_at (count - i) r before) ≡ total → Tells (told e) total
  ends errors.OutOfMemory prefix count i before lt h so_far = tt
  ends (errors.Fault f) prefix count i before lt h so_far =
      let k : count - i ≡ suc (count - (i + 1)) = omega arith in
      let one : with_prefix prefix (items_at (count - i) r before) ≡ Err f = rw (k, h) refl in
      sym so_far ∙ one

  pub is_done : (prefix : List A) (count i : ℕ) (before : Rest) → count ≤ i → with_prefix prefix (items_at (count - i) r before) ≡ total → total ≡ Ok (prefix, before)
  is_done prefix count i before le so_far =
      let k : count - i ≡ 0 = omega arith in
      let one : with_prefix prefix (items_at (count - i) r before) ≡ Ok (prefix, before) = rw k (ap (λ (xs : List A). Ok (xs, before)) (append-nil prefix)) in
      sym so_far ∙ one
