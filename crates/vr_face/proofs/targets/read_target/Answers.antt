use Rattle.std.proofs.Common.{ap, sym, ◌∙◌}
use Rattle.std.proofs.lemmas.Str.{is_utf8-from_IsUtf8}
use Rattle.vr_face.specs.Resources.{kind_of}
use Rattle.vr_face.proofs.PathLemmas.{no-text}
use Rattle.vr_face.proofs.targets.read_target.Goals as goal

pub returns-in-Ok : goal.returns-in-Ok
returns-in-Ok c =
    rw (is_utf8-from_IsUtf8 c.args.target.now c.in-Ok.ensures.cases.1)
    (c.target_of.ensures.kind ∙ ap kind_of c.in-Ok.ensures.cases.0)

pub returns-in-Err : goal.returns-in-Err
returns-in-Err c = sym (no-text c.args.target.now c.in-Err.ensures.cases.0)
