-- Powers of two, seven bits apart.
use Rattle.std.proofs.Common.{◌≡◌, ℕ, ◌+◌, ◌-◌, ◌*◌, ◌^◌, ◌<◌, ◌≤◌, ap, ◌∙◌, arith}
use Rattle.std.proofs.lemmas.Nat.{pow-add}
use Rattle.std.proofs.Math.Pow.{pow_mono}

pub seven_more : (bits : ℕ) → 7 < bits → 2 ^ bits ≡ 128 * 2 ^ (bits - 7)
seven_more bits h =
    let e : bits ≡ 7 + (bits - 7) = omega arith in
    ap (λ (k : ℕ). 2 ^ k) e ∙ pow-add 2 7 (bits - 7)

pub seven_more_half : (bits : ℕ) → 7 < bits → 2 ^ (bits - 1) ≡ 128 * 2 ^ (bits - 7 - 1)
seven_more_half bits h =
    let e : bits - 1 ≡ 7 + (bits - 7 - 1) = omega arith in
    ap (λ (k : ℕ). 2 ^ k) e ∙ pow-add 2 7 (bits - 7 - 1)

pub most32 : (bits : ℕ) → bits ≤ 32 → 2 ^ bits ≤ 2 ^ 32
most32 bits h = pow_mono h

pub most63 : (bits : ℕ) → bits ≤ 63 → 2 ^ bits ≤ 2 ^ 63
most63 bits h = pow_mono h
