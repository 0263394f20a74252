-- One path more.
use Rattle.std.proofs.Common.{◌≡◌, length, Some, slice_get, Contains, refl, subst, sym}
use Rattle.std.proofs.lemmas.Option.{slice_get_read}
use Rattle.vr_flow.proofs.NameLemmas.{named_more, named_none}
use Rattle.vr_flow.proofs.tables.add_named.Goals as goal

pub loop-path-init : goal.loop-path-init
loop-path-init c = named_none c.args.regions.now.names c.args.paths.now c.args.set.now

pub region_named-requires-clause-named : goal.region_named-requires-clause-named
region_named-requires-clause-named c = subst (Contains c.args.regions.now.names) (sym c.path-item.is) (c.requires.named c.loop-path.path-index c.path-item.result c.loop-path-test.true)

pub loop-path-preserved : goal.loop-path-preserved
loop-path-preserved c =
    let paths = c.args.paths.now in
    let index = c.loop-path.path-index in
    let here : slice_get paths index ≡ Some c.path-item.result = slice_get_read paths (length paths) index c.path-item.result refl c.loop-path-test.true c.path-item.is in
    named_more c.args.regions.now.names paths index c.path-item.result c.region_named.result c.args.set.now c.loop-path.set c.put.new.self c.requires.ordered here c.region_named.ensures c.loop-path.invariant c.put.ensures
