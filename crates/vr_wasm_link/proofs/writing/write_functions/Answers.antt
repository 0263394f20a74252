use Rattle.std.proofs.Common.{arith}
use Rattle.vr_wasm_link.proofs.StoreLemmas.{put_more}
use Rattle.vr_wasm_link.proofs.writing.write_functions.Goals as goal

pub loop-place-preserved : goal.loop-place-preserved
loop-place-preserved c =
    put_more c.args.table.now c.loop-place.table c.args.start c.args.functions.now c.loop-place.place
    (omega arith) c.requires c.loop-place.invariant
