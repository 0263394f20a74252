use Rattle.std.proofs.Common.{◌≡◌, ◌≤◌, ◌*◌, take}
use Rattle.vr_wasi_calls.specs.Pieces.{size_of}
use Rattle.vr_wasi_calls.proofs.pieces.size_of.Given as goal

abbrev pub invariant-loop-piece : goal.invariant-loop-piece
invariant-loop-piece l = record {
  sum : l.size ≡ size_of (take l.piece-index l.pieces);
  small : l.size ≤ l.piece-index * 4294967295;
}
