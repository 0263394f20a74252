use Rattle.vr_base.proofs.Places.{parts_place}
use Rattle.vr_base.proofs.cuts.cut_at.Goals as goal

pub returns-in-Some-clause-parts : goal.returns-in-Some-clause-parts
returns-in-Some-clause-parts c = parts_place c.args.sign c.args.bytes.now c.in-Some.at c.in-Some.ensures
