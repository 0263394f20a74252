use Rattle.std.proofs.Common.{◌≡◌, drop, length}
use Rattle.vr_wasi_calls.specs.Pieces.{spread}
use Rattle.vr_wasi_calls.proofs.reads.lay.Given as goal

abbrev pub invariant-loop-piece : goal.invariant-loop-piece
invariant-loop-piece l = record {
  laid : spread l.memory (drop l.piece-index l.pieces) l.left ≡ spread l.fn.memory l.pieces l.bytes;
  size : length l.memory.bytes ≡ length l.fn.memory.bytes;
}
