use Rattle.vr_cli.proofs.StartLemmas.{only_memory}
use Rattle.vr_cli.proofs.replaying.start_over.Goals as goal

pub unreachable-requires : goal.unreachable-requires
unreachable-requires g c =
    only_memory c.in-Err.fault _ _ _ c.in_default.not-OutOfMemory (c.requires.never _) (c.requires.never _) c.requires.empty c.in-Err.ensures.cause c.in-Err.ensures.bad_row
