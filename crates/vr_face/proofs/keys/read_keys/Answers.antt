use Rattle.std.proofs.Common.{arith, ap, sym, ◌∙◌}
use Rattle.std.specs.Str.Lines.{lines}
use Rattle.vr_face.specs.Keys.{keys_from}
use Rattle.vr_face.proofs.KeyLemmas.{keys_step}
use Rattle.vr_face.proofs.keys.read_keys.Goals as goal

pub loop-left-preserved : goal.loop-left-preserved
loop-left-preserved c =
    let held = c.loop-left.invariant.keys in
    let next = c.in_ok-add_line.ensures held.0 held.1 in
    let policy = c.args.policy.now in
    let number = c.loop-left.number in
    let rest = lines c.cut_line.result.1.now in
    record {
      keys = (
        next.0,
        next.2,
        sym (keys_step policy number held.0 next.0 c.cut_line.result.0.now rest next.1)
            ∙ ap (λ ls. keys_from policy number held.0 ls) (sym c.cut_line.ensures.lines) ∙ held.2,
      );
      numbers = omega arith;
    }
