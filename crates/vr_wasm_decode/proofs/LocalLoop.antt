-- Reading groups of locals one after the other, as a loop does.
use Rattle.std.proofs.Common.{◌≡◌, ℕ, suc, ◌-◌, ◌+◌, ◌≤◌, ◌<◌, cond, ltb, List, [], ◌++◌, length, replicate, Result, Ok, Err, refl, sym, ap, ◌∙◌, append_assoc, arith, length-append}
use Rattle.std.proofs.lemmas.Bool.{le-ltb, lt-ltb}
use Rattle.std.proofs.lemmas.List.{append-nil}
use Rattle.std.proofs.Math.ListN.{length-replicate}
use Rattle.vr_wasm_ast.specs.declared.tree.ValType.{ValType}
use Rattle.vr_wasm_ast.specs.Rest.{Rest}
use Rattle.vr_wasm_decode.specs.declared.fault.DecodeFault.{DecodeFault}
use Rattle.vr_wasm_decode.specs.declared.fault.DecodeKind.TheVariants.{TooMany}
use Rattle.vr_wasm_ast.specs.Checks.{Tells}
use Rattle.vr_wasm_decode.specs.declared.fault.ReadError.{ReadError}
use Rattle.vr_wasm_decode.specs.Faults.{fault_at, told}
use Rattle.vr_wasm_decode.specs.Reader.{Reader, on_ok, ◌>>=◌, give, stop, u32_at}
use Rattle.vr_wasm_decode.specs.Types.{val_type_at}
use Rattle.vr_wasm_decode.specs.Modules.{groups_at}
use Rattle.vr_wasm_decode.proofs.ItemLoop.{with_prefix, no_prefix, fails_on, fails_by}

abbrev Locals : Type 0
Locals = Result (List ValType × Rest) DecodeFault

-- the locals before and those that are still read are all, and not too many
pub record SoFar (count : ℕ) (first : Rest) (prefix : List ValType) (i : ℕ) (now : Rest) : Type 0 where
  pub within : length prefix ≤ 8192
  pub read : with_prefix prefix (groups_at (count - i) (length prefix) now) ≡ groups_at count 0 first

pub begins : (count : ℕ) (first : Rest) → SoFar count first [] 0 first
begins count first = record { within = omega arith; read = rw (no_zero count) (no_prefix (groups_at count 0 first)) } where
  no_zero : (n : ℕ) → n - 0 ≡ n
  no_zero n = omega arith

pub is_done : (count : ℕ) (first : Rest) (prefix : List ValType) (i : ℕ) (now : Rest) → count ≤ i → SoFar count first prefix i now → groups_at count 0 first ≡ Ok (prefix, now)
unfolding groups_at
is_done count first prefix i now le so_far =
    let k : count - i ≡ 0 = omega arith in
    let one : with_prefix prefix (groups_at (count - i) (length prefix) now) ≡ Ok (prefix, now) = rw k (ap (λ (xs : List ValType). Ok (xs, now)) (append-nil prefix)) in
    sym so_far.read ∙ one

-- what comes counted_on a count
after_count : (n so_far place more : ℕ) → Reader (List ValType)
after_count n so_far place more =
    cond (ltb 8192 (so_far + more)) (stop TooMany place) (val_type_at >>= λ t. groups_at n (so_far + more) >>= λ others. give (replicate more t ++ others))

module _ (count : ℕ) (first : Rest) (prefix : List ValType) (i : ℕ) (now : Rest) (lt : i < count) (so_far : SoFar count first prefix i now) where
  next : with_prefix prefix (on_ok (u32_at now) (after_count (count - (i + 1)) (length prefix) now.place)) ≡ groups_at count 0 first
  unfolding groups_at after_count
  next = (let k : count - i ≡ suc (count - (i + 1)) = omega arith in rw k at so_far.read)

  pub count_fails : (e : ReadError) → Tells (told e) (u32_at now) → Tells (told e) (groups_at count 0 first)
  count_fails e h =
      fails_by e _ _ next (fails_on e (on_ok (u32_at now) (after_count (count - (i + 1)) (length prefix) now.place)) (λ xs after. Ok (prefix ++ xs, after)) (fails_on e (u32_at now) (after_count (count - (i + 1)) (length prefix) now.place) h))

  module _ (more : ℕ) (after : Rest) (counted : u32_at now ≡ Ok (more, after)) where
    counted_on : with_prefix prefix (after_count (count - (i + 1)) (length prefix) now.place more after) ≡ groups_at count 0 first
    counted_on = sym (ap (λ (r : Result (ℕ × Rest) DecodeFault). with_prefix prefix (on_ok r (after_count (count - (i + 1)) (length prefix) now.place))) counted) ∙ next

    pub too_many : 8192 < length prefix + more → groups_at count 0 first ≡ Err (fault_at TooMany now.place)
    unfolding after_count
    too_many large = sym counted_on ∙ rw (lt-ltb 8192 (length prefix + more) large) refl

    module _ (small : length prefix + more ≤ 8192) where
      typed : with_prefix prefix (on_ok (val_type_at after) (λ t. groups_at (count - (i + 1)) (length prefix + more) >>= λ others. give (replicate more t ++ others))) ≡ groups_at count 0 first
      unfolding after_count
      typed = sym (rw (le-ltb 8192 (length prefix + more) small) refl) ∙ counted_on

      pub type_fails : (e : ReadError) → Tells (told e) (val_type_at after) → Tells (told e) (groups_at count 0 first)
      type_fails e h =
          fails_by e _ _ typed (fails_on e (on_ok (val_type_at after) (λ t. groups_at (count - (i + 1)) (length prefix + more) >>= λ others. give (replicate more t ++ others))) (λ xs after. Ok (prefix ++ xs, after))
          (fails_on e (val_type_at after) (λ t. groups_at (count - (i + 1)) (length prefix + more) >>= λ others. give (replicate more t ++ others)) h))

      regroup : (t : ValType) (read : Locals) → with_prefix prefix (on_ok read (λ others end. Ok (replicate more t ++ others, end))) ≡ with_prefix (prefix ++ replicate more t) read
      regroup t (Ok xs) = ap (λ (ys : List ValType). Ok (ys, xs.1)) (sym (append_assoc prefix (replicate more t) xs.0))
      regroup t (Err e) = refl

      pub goes_on : (t : ValType) (end : Rest) → val_type_at after ≡ Ok (t, end) → SoFar count first (prefix ++ replicate more t) (i + 1) end
      goes_on t end h =
          let len : length (prefix ++ replicate more t) ≡ length prefix + more = omega (arith, length-append prefix (replicate more t), length-replicate more t) in
          let one : with_prefix prefix (on_ok (val_type_at after) (λ t. groups_at (count - (i + 1)) (length prefix + more) >>= λ others. give (replicate more t ++ others)))
          ≡ with_prefix (prefix ++ replicate more t) (groups_at (count - (i + 1)) (length (prefix ++ replicate more t)) end) =
          ap (λ (r : Result (ValType × Rest) DecodeFault). with_prefix prefix (on_ok r (λ t. groups_at (count - (i + 1)) (length prefix + more) >>= λ others. give (replicate more t ++ others)))) h
          ∙ regroup t (groups_at (count - (i + 1)) (length prefix + more) end)
          ∙ ap (λ (n : ℕ). with_prefix (prefix ++ replicate more t) (groups_at (count - (i + 1)) n end)) (sym len) in
          record { within = omega (arith, len, small); read = sym one ∙ typed }
