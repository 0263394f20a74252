-- What was looked at is CR and LF alone, and the stream is as it was.
use Rattle.std.proofs.Common.{◌≡◌, ◌+◌, ◌-◌, ◌≤◌, length, drop}
use Rattle.vr_http.specs.Heads.{blank_length}
use Rattle.vr_http.specs.Inboxes.{unread, Gathers}
use Rattle.vr_http.specs.Reading.{most_head}
use Rattle.vr_http.proofs.reading.read_blank.Given as goal

abbrev pub invariant-loop-blank : goal.invariant-loop-blank
invariant-loop-blank g l = record {
  gathered : Gathers (unread l.fn.inbox) (unread l.inbox) (g.S.Source.left l.fn.source) (g.S.Source.left l.source);
  within : l.blank ≤ length (unread l.inbox);
  blank : blank_length (unread l.inbox) ≡ l.blank + blank_length (drop l.blank (unread l.inbox));
  beside : g.S.Source.beside l.source ≡ g.S.Source.beside l.fn.source;
  later : g.S.Source.faults l.fn.source ≤ g.S.Source.faults l.source;
}

abbrev pub decreases-loop-blank : goal.decreases-loop-blank
decreases-loop-blank g l = most_head - length (unread l.inbox)
