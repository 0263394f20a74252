use Rattle.std.proofs.Common.{sym}
use Rattle.vr_files.proofs.EntryLemmas.{find_at, find_gap}
use Rattle.vr_files.proofs.entries.get.Goals as goal

pub returns-in-Ok : goal.returns-in-Ok
returns-in-Ok g c = sym (find_at c.args.path.now c.args.entries.now c.in-Ok.place c.index-entries-place.result c.in-Ok.ensures.found)

pub returns-in-Err : goal.returns-in-Err
returns-in-Err g c = sym (find_gap c.args.path.now c.args.entries.now c.in-Err.field-0 c.in-Err.ensures.absent)
