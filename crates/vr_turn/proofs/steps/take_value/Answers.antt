use Rattle.std.proofs.Common.{Some}
use Rattle.vr_turn.proofs.Slots.{one_slot}
use Rattle.vr_turn.proofs.steps.take_value.Goals as goal

pub exchange-requires : goal.exchange-requires
exchange-requires g c = (c.requires.table.same, (Some c.requires.full.0, one_slot _ _ c.requires.full.1))
