-- A place is there where its bit is set.
use Rattle.std.proofs.Common.{◌/◌, rules, sym, ◌∙◌}
use Rattle.std.proofs.lemmas.Bool.{le-ltb}
use Rattle.vr_flow.proofs.PlaceLemmas.{past_end, has_here}
use Rattle.vr_flow.proofs.places.PlaceSet.has.Goals as goal

pub returns-then-index-len : goal.returns-then-index-len
returns-then-index-len c = has_here c.self.inside.words.items c.args.self.now c.args.place c.index.result.now c.self.view_is (search rules) c.index.ensures

pub returns-else-index-len : goal.returns-else-index-len
returns-else-index-len c = le-ltb (c.args.place / 64) c.len.result c.if-index-len.false ∙ sym (past_end c.args.self.now c.args.place (search rules))
