-- No empty line comes after the LFs that were passed, and the stream is as it was.
use Rattle.std.proofs.Common.{◌≡◌, ◌-◌, ◌≤◌, length}
use Rattle.vr_http.specs.Inboxes.{unread, Gathers}
use Rattle.vr_http.specs.Reading.{most_head}
use Rattle.vr_http.specs.Searches.{Passes}
use Rattle.vr_http.proofs.reading.read_text.Given as goal

abbrev pub invariant-loop-end : goal.invariant-loop-end
invariant-loop-end g l = record {
  gathered : Gathers (unread l.fn.inbox) (unread l.inbox) (g.S.Source.left l.fn.source) (g.S.Source.left l.source);
  passes : Passes (unread l.inbox) l.start l.at;
  beside : g.S.Source.beside l.source ≡ g.S.Source.beside l.fn.source;
  later : g.S.Source.faults l.fn.source ≤ g.S.Source.faults l.source;
}

abbrev pub decreases-loop-end : goal.decreases-loop-end
decreases-loop-end g l = most_head - length (unread l.inbox)
