use Rattle.std.proofs.Common.{None}
use Rattle.vr_turn.proofs.Slots.{one_slot}
use Rattle.vr_turn.proofs.steps.give_value.Goals as goal

pub exchange-requires : goal.exchange-requires
exchange-requires g c = (c.requires.table.same, (None, one_slot _ _ c.requires.empty))
