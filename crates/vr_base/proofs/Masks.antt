-- Masks: a word that is known_rights twice, a union of known_rights words, and a union of three.
use Rattle.std.proofs.Common.{◌≡◌, ℕ, min, bit_and, bit_or, ap, arith}
use Rattle.std.proofs.lemmas.Nat.Bits.{bit_at_and, bit_at_or, same_from_bits}
use Rattle.std.specs.Int.{bit_at}

pub and_and : (a m : ℕ) → bit_and (bit_and a m) m ≡ bit_and a m
and_and a m = same_from_bits _ _ (λ i. simp bit_at_and (omega arith))

pub and_or : (a b m : ℕ) → bit_and a m ≡ a → bit_and b m ≡ b → bit_and (bit_or a b) m ≡ bit_or a b
and_or a b m h k = same_from_bits _ _ (λ i.
    let ha : min (bit_at a i) (bit_at m i) ≡ bit_at a i = simp bit_at_and at (ap (λ w. bit_at w i) h) in
    let hb : min (bit_at b i) (bit_at m i) ≡ bit_at b i = simp bit_at_and at (ap (λ w. bit_at w i) k) in
    simp (bit_at_and, bit_at_or) (omega arith))

pub or_assoc : (a b c : ℕ) → bit_or (bit_or a b) c ≡ bit_or a (bit_or b c)
or_assoc a b c = same_from_bits _ _ (λ i. simp bit_at_or (omega arith))
