-- Seven bits more of a signed number.
use Rattle.std.proofs.Common.{◌≡◌, ℕ, ◌-◌, ◌^◌, ◌<◌, ◌≤◌, ◌≤ℤ◌, ◌<ℤ◌, neg_ℤ, pos, w64, ℤ, ◌+ℤ◌, ◌*ℤ◌, FitsSigned, to_z, of_z, arith}
use Rattle.std.proofs.lemmas.Int.{ints}
use Rattle.vr_wasm_ast.proofs.PowerLemmas.{seven_more_half, most63}

-- the number as it is computed
abbrev pub shifted : ℤ → ℤ
shifted high = to_z w64 (of_z w64 (pos 128 *ℤ to_z w64 (of_z w64 high)))

abbrev pub joined : ℤ → ℤ → ℤ
joined high low = to_z w64 (of_z w64 (shifted high +ℤ to_z w64 (of_z w64 low)))

module _ (bits : ℕ) (more : 7 < bits) (most : bits ≤ 64) (high : ℤ) (low : ℕ) (seven : low < 128)
    (from : neg_ℤ (pos (2 ^ (bits - 7 - 1))) ≤ℤ high) (below : high <ℤ pos (2 ^ (bits - 7 - 1))) where
  pub fits : FitsSigned w64 (pos 128 *ℤ to_z w64 (of_z w64 high))
  fits = omega (arith, ints, seven_more_half bits more, most63 (bits - 1) (omega arith))

  pub is_joined : joined high (pos low) ≡ (pos 128 *ℤ high) +ℤ pos low
  is_joined = omega (arith, ints, seven_more_half bits more, most63 (bits - 1) (omega arith))

  pub from_joined : neg_ℤ (pos (2 ^ (bits - 1))) ≤ℤ ((pos 128 *ℤ high) +ℤ pos low)
  from_joined = omega (arith, ints, seven_more_half bits more)

  pub below_joined : ((pos 128 *ℤ high) +ℤ pos low) <ℤ pos (2 ^ (bits - 1))
  below_joined = omega (arith, ints, seven_more_half bits more)
