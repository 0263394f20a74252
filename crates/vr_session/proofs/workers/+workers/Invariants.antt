-- Each worker's recursion has one worker fewer.
use Rattle.std.specs.Prelude.{◌+◌, ◌*◌}
use Rattle.vr_session.proofs.workers.+workers.Given as goal

abbrev pub decreases-serve_by_workers : goal.decreases-serve_by_workers
decreases-serve_by_workers g l = 2 * l.workers + 1

abbrev pub decreases-others : goal.decreases-others
decreases-others g l = 2 * l.left + 2
