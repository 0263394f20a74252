use Rattle.vr_base.specs.Rights.{every_right}
use Rattle.vr_base.proofs.Masks.{and_and}
use Rattle.vr_base.proofs.rights.RightsWord.new.Goals as goal

pub invariant_of-result : goal.invariant_of-result
invariant_of-result c = and_and c.args.word every_right
