use Rattle.std.proofs.Common.{sym, ◌∙◌}
use Rattle.vr_exec.proofs.ObserveLemmas.{observes_none, observes_number}
use Rattle.vr_exec.proofs.starts.observes_file.Goals as goal

pub returns-in-Some : goal.returns-in-Some
returns-in-Some c tree found =
    c.observes.ensures ∙ observes_number c.args.policy.now c.args.regions.now c.requires.regions c.args.pipeline tree found c.args.path.now c.in-Some.region (sym c.in-Some.ensures.region)

pub returns-in-None : goal.returns-in-None
returns-in-None c tree found = sym (observes_none c.args.policy.now c.args.regions.now c.requires.regions c.args.pipeline tree found c.args.path.now (sym c.in-None.ensures.region))
