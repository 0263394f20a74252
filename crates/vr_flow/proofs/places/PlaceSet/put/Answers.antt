-- The bit of a place is set.
use Rattle.vr_flow.proofs.PlaceLemmas.{puts}
use Rattle.vr_flow.proofs.places.PlaceSet.put.Goals as goal

pub returns-then-is_in : goal.returns-then-is_in
returns-then-is_in c = puts c.self.inside.words.items c.args.self.now c.args.place c.index.result.now c.args.is_in c.self.view_is c.requires c.if-is_in.true c.index.ensures
