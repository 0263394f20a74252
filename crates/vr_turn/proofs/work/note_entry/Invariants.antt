-- The entry that is recorded is the last of the value's history.
use Rattle.vr_turn.specs.Accounts.{last_entry}
use Rattle.vr_turn.proofs.work.note_entry.Given as goal

abbrev pub ghosts-record_entry : goal.ghosts-record_entry
ghosts-record_entry g a = record { entry = last_entry (g.T.Chronicle.account a.value.now).history }
