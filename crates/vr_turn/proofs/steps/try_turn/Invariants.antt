-- The value has the origin of the first one.
use Rattle.vr_turn.specs.Turns.{IsFrom}
use Rattle.vr_turn.proofs.steps.try_turn.Given as goal

abbrev pub ghosts-try_from : goal.ghosts-try_from
ghosts-try_from g a = record { holds = IsFrom g.T.Chronicle.account a.top.now.key.first.value }
