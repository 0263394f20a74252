-- Where the name at the place doesn't enclose, one goes on to the longest that encloses it.
use Rattle.std.proofs.Common.{◌≡◌, ◌<◌, false, arith, length, [], None, get_or}
use Rattle.std.proofs.lemmas.List.{get_or_read}
use Rattle.vr_rights.specs.Regions.{encloses}
use Rattle.vr_rights.specs.Ordered.{Includes}
use Rattle.vr_rights.proofs.ChainLemmas.{reaches_outer}
use Rattle.vr_rights.proofs.names.nearest.Goals as goal

pub loop-at-preserved : goal.loop-at-preserved
loop-at-preserved c =
    let names = c.args.names.now in
    let place = c.in-Some.place in
    let here : Includes names (length c.args.outer.now) c.args.name.now place = rw c.in-Some.is at c.loop-at.invariant in
    let within : place < length names = omega (arith, here.within, c.requires.outer.long) in
    let read = get_or_read names place c.index-names-place.result within c.index-names-place.is [] in
    let apart : encloses (get_or names place []) c.args.name.now ≡ false = rw (← read, ← c.as_slice.ensures, ← c.encloses.ensures) c.if-encloses.false in
    reaches_outer names c.args.name.now place (length c.args.outer.now) (get_or c.args.outer.now place None) c.requires.outer.long c.requires.ordered here apart (c.requires.outer.each place here.within)
