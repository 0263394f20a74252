use Rattle.std.proofs.Common.{sym, refl}
use Rattle.vr_core.proofs.checks.find_pipeline.Goals as goal

pub returns-in-Some-clause-pipeline : goal.returns-in-Some-clause-pipeline
returns-in-Some-clause-pipeline c = rw (sym c.in-Some.ensures.place, c.pipe-pipe.ensures.tree) refl

pub returns-in-None-clause-pipeline : goal.returns-in-None-clause-pipeline
returns-in-None-clause-pipeline c = rw (sym c.in-None.ensures.place) refl
