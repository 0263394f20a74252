use Rattle.std.proofs.Common.{Some}
use Rattle.vr_files.specs.Bodies.{resized}
use Rattle.vr_files.proofs.ChangeLemmas.{set_sorted}
use Rattle.vr_files.proofs.OverlayLemmas.{edited, owned_there, never_none}
use Rattle.vr_files.proofs.overlay.Overlay.set_size.Goals as goal

pub own-requires-clause-there : goal.own-requires-clause-there
own-requires-clause-there c = owned_there c.self.inside.base.map c.self.inside.changed.items c.args.path.now c.args.self.now c.self.invariant c.self.view_is c.requires

pub unreachable-requires : goal.unreachable-requires
unreachable-requires c =
    let base = c.self.inside.base.map in
    let es = c.self.inside.changed.items in
    let path = c.args.path.now in
    never_none base es c.own.new.changed.items path c.in_ok-place.place c.index_mut.result.now (owned_there base es path c.args.self.now c.self.invariant c.self.view_is c.requires)
    c.in_ok-place.ensures.ok c.index_mut.ensures.value c.in-None.is

pub invariant_of-self-2 : goal.invariant_of-self-2
invariant_of-self-2 c =
    let own = c.in_ok-place.ensures.ok in
    set_sorted c.own.new.changed.items c.args.path.now c.in_ok-place.place c.index_mut.result.now (Some c.set_size.new.self) own.sorted own.found c.index_mut.ensures.value

pub returns : goal.returns
returns c =
    edited c.self.inside.base.map c.self.inside.changed.items c.own.new.changed.items c.args.path.now c.in_ok-place.place c.index_mut.result.now c.in-Some.body c.set_size.new.self c.args.self.now
    (λ x. resized x c.args.size) c.set_size.result c.self.invariant c.self.view_is c.in_ok-place.ensures.ok c.index_mut.ensures.value c.in-Some.is c.set_size.ensures
