use Rattle.std.proofs.Common.{codes, sym}
use Rattle.vr_wasi_cases.proofs.worlds.Case.ask.Goals as goal

-- the function was found by these names and this type
pub call-requires : goal.call-requires
call-requires c =
    (codes "wasi_snapshot_preview1", c.args.name.now, c.args.sort.now, sym c.in-Some.ensures, c.requires)
