use Rattle.vr_wasm_decode.specs.Reader.{items_at}
use Rattle.vr_wasm_decode.proofs.ItemLoop.{goes_on}
use Rattle.vr_wasm_decode.proofs.vectors.items.Goals as goal

pub loop-preserved : goal.loop-preserved
loop-preserved g c =
    rw c.in_ok-push.ensures.ok
    (goes_on g.P.Part.reading (items_at c.args.count g.P.Part.reading c.args.cursor.now) c.loop.items c.args.count c.loop.counter c.loop.cursor c.read.new.cursor c.in_ok-item.item c.loop-test.true c.in_ok-item.ensures c.loop.invariant)
