-- The first calls were made and their lines handed in.
use Rattle.std.proofs.Common.{◌≡◌, ◌≤◌, length}
use Rattle.std.specs.Vec.Iter.{into_iter_items, into_iter_len}
use Rattle.vr_cli.specs.Replays.{reached}
use Rattle.vr_cli.proofs.ReplayLemmas.{CalledSoFar}
use Rattle.vr_cli.proofs.replaying.write_calls.Given as goal

abbrev pub invariant-loop-line : goal.invariant-loop-line
invariant-loop-line g l =
    let rest = into_iter_items l.line-iterator in
    record {
      called : CalledSoFar l.fn.book.origin (reached l.fn.book) l.fn.script (reached l.book) rest
          (g.O.Sink.written l.fn.out) (g.O.Sink.written l.out) l.fn.text l.left;
      origin : l.book.origin ≡ l.fn.book.origin;
      later : g.O.Sink.faults l.fn.out ≤ g.O.Sink.faults l.out;
      sized : into_iter_len l.line-iterator ≡ length rest;
    }
