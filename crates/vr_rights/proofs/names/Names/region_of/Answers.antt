-- The path's own place, or the longest name that encloses it.
use Rattle.std.proofs.Common.{◌≡◌, ◌≤◌, length, arith, sym}
use Rattle.vr_rights.specs.Ordered.{IsAt, IsAfter, IsOrdered}
use Rattle.vr_rights.specs.Regions.{IsOuter}
use Rattle.vr_rights.proofs.ChainLemmas.{above_search, outer_within, reaches_before}
use Rattle.vr_rights.proofs.RegionLemmas.{region_here, region_outer}
use Rattle.vr_rights.proofs.names.Names.region_of.Goals as goal

pub nearest-requires-clause-from : goal.nearest-requires-clause-from
nearest-requires-clause-from c =
    let names = c.self.inside.names.items in
    let is : names ≡ c.args.self.now = c.self.view_is in
    let after : IsAfter names c.args.path.now c.in-Err.place = rw (is, ← c.as_slice.ensures.bytes) c.in-Err.ensures.found in
    let few : c.in-Err.place ≤ length c.self.inside.outer.items = omega (arith, c.self.invariant.all, after.within) in
    rw (c.deref.ensures.value, c.deref-in-Err.ensures.value, c.as_slice-in-Err.ensures.bytes, c.place_before-before.ensures)
    (reaches_before names c.args.path.now c.in-Err.place (length c.self.inside.outer.items) c.self.invariant.ordered (above_search names c.args.path.now c.in-Err.place after) few)

pub returns-in-Ok : goal.returns-in-Ok
returns-in-Ok c =
    let is : c.self.inside.names.items ≡ c.args.self.now = c.self.view_is in
    let ordered : IsOrdered c.args.self.now = rw is at c.self.invariant.ordered in
    let here : IsAt c.args.self.now c.args.path.now c.in-Ok.place = rw c.as_slice.ensures.bytes at c.in-Ok.ensures.found in
    record { region = sym (region_here c.args.self.now c.args.path.now c.in-Ok.place ordered c.as_slice.ensures.is_path here); within = here.within }

pub returns-in-Err : goal.returns-in-Err
returns-in-Err c =
    let is : c.self.inside.names.items ≡ c.args.self.now = c.self.view_is in
    let ordered : IsOrdered c.args.self.now = rw is at c.self.invariant.ordered in
    let after : IsAfter c.args.self.now c.args.path.now c.in-Err.place = rw c.as_slice.ensures.bytes at c.in-Err.ensures.found in
    let outer : IsOuter c.args.self.now c.args.path.now c.nearest.result = rw (c.deref.ensures.value, is, c.as_slice-in-Err.ensures.bytes) at c.nearest.ensures in
    record { region = sym (region_outer c.args.self.now c.args.path.now c.in-Err.place c.nearest.result ordered after outer); within = outer_within c.args.self.now c.args.path.now c.nearest.result outer }
