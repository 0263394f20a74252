-- The porch is named by what the listener tells as it is handed in.
use Rattle.vr_session.proofs.attending.attend_all.Given as goal

abbrev pub ghosts-attend_from : goal.ghosts-attend_from
ghosts-attend_from g a = record {
  left = a.sessions;
  handed_out = g.L.Listener.handed_out a.listener;
  faults = g.L.Listener.faults a.listener;
  listens = g.L.Listener.listens a.listener;
  ended = g.L.Listener.ended a.listener;
}
