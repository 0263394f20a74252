use Rattle.vr_pipe.proofs.WordLemmas.{path_is_normal_form}
use Rattle.vr_pipe.proofs.parsing.path_at.Goals as goal

pub returns-in-Ok-clause-normal : goal.returns-in-Ok-clause-normal
returns-in-Ok-clause-normal c = path_is_normal_form c.args.word.now c.in-Ok.path c.in-Ok.ensures
