-- Each name comes after those before it, and the longest that encloses it is found among these.
use Rattle.std.proofs.Common.{◌≡◌, ◌<◌, ◌≤◌, arith, length, [], get_or}
use Rattle.std.proofs.lemmas.List.{get_or_read, length_push}
use Rattle.vr_rights.specs.Regions.{IsOuter}
use Rattle.vr_rights.proofs.ChainLemmas.{above_itself, reaches_before, AreOuter-push}
use Rattle.vr_rights.proofs.names.outer_places.Goals as goal

pub nearest-found-requires-clause-from : goal.nearest-found-requires-clause-from
nearest-found-requires-clause-from c =
    let names = c.args.names.now in
    let place = c.loop-place.place in
    let here : place < length names = omega arith in
    let read = get_or_read names place c.index-names-place.result here c.index-names-place.is [] in
    let first : length c.loop-place.outer.items ≡ place = c.loop-place.invariant.0 in
    let few : place ≤ length c.loop-place.outer.items = omega arith in
    rw (c.place_before.ensures, c.as_slice.ensures, read, c.deref.ensures.value)
    (reaches_before names (get_or names place []) place (length c.loop-place.outer.items) c.requires (above_itself names place c.requires here) few)

pub loop-place-preserved : goal.loop-place-preserved
loop-place-preserved c =
    let names = c.args.names.now in
    let place = c.loop-place.place in
    let here : place < length names = omega arith in
    let read = get_or_read names place c.index-names-place.result here c.index-names-place.is [] in
    let outer = c.loop-place.outer.items in
    let first : length outer ≡ place = c.loop-place.invariant.0 in
    let few : length outer < length names = omega arith in
    let found : IsOuter names (get_or names (length outer) []) c.nearest-found.result = rw first (rw (c.as_slice.ensures, read) at c.nearest-found.ensures) in
    rw c.in_ok-push.ensures.items (rw length_push (omega arith), AreOuter-push names outer c.nearest-found.result c.loop-place.invariant.1 few found)
