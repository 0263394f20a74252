use Rattle.std.proofs.Common.{arith, take-add, ◌∙◌}
use Rattle.std.proofs.lemmas.List.{take_rest}
use Rattle.vr_base.proofs.Written.{Appends-then}
use Rattle.vr_base.proofs.outside.write_all.Goals as goal

pub loop-at-preserved : goal.loop-at-preserved
loop-at-preserved g c =
    let taken = c.in_ok-at.ensures.taken in
    let cause = c.in_ok-at.ensures.cause in
    let both = Appends-then _ _ _ _ _ c.loop-at.invariant.written c.in_ok-at.ensures.bytes in
    record {
      within = omega arith;
      written = rw take-add (rw (take_rest c.args.bytes.now c.loop-at.at) at both);
      beside = c.in_ok-at.ensures.beside ∙ c.loop-at.invariant.beside;
      later = omega arith;
    }
