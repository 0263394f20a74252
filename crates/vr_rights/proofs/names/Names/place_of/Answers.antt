-- A name that is listed is found.
use Rattle.vr_rights.proofs.SearchLemmas.{not_after}
use Rattle.vr_rights.proofs.names.Names.place_of.Goals as goal

pub unreachable-requires : goal.unreachable-requires
unreachable-requires c = not_after c.args.self.now c.args.name.now c.in-Err.field-0 c.in-Err.ensures.found c.requires
