use Rattle.std.proofs.Common.{◌≡◌, ◌∙◌, Bool, true, false, not, ◌&&◌, refl, sym, arith}
use Rattle.vr_base.specs.Rights.{right_bits}
use Rattle.vr_base.proofs.Places.{find_past}
use Rattle.vr_base.proofs.rights.RightsWord.missing.Goals as goal
use Rattle.vr_base.proofs.rights.RightsWord.missing.Goals.{else-has-via-then-has+else-not-has, else-has-via-else-has}

is_there : (needed there : Bool) → there ≡ true → (needed && not there) ≡ false
is_there false there e = refl
is_there true true e = refl
is_there true false e = cc

not_needed : (needed there : Bool) → needed ≡ false → (needed && not there) ≡ false
not_needed false there e = refl
not_needed true there e = cc

pub loop-bit-preserved : goal.loop-bit-preserved
loop-bit-preserved c =
    record {
      known = refl;
      left = find_past _ right_bits c.loop-bit.bit-index 0 (omega arith) (elim c.else-has.branch [
        | else-has-via-then-has+else-not-has w ↦ is_there _ _ (sym w.has-then-has.ensures ∙ w.if-not-has.false)
        | else-has-via-else-has w ↦ not_needed _ _ (sym c.has.ensures ∙ w.if-has.false)
      ]) ∙ c.loop-bit.invariant.left;
    }
