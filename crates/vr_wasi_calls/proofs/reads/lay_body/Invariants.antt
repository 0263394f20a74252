use Rattle.std.proofs.Common.{◌≡◌, ◌+◌, drop, length, min, take}
use Rattle.vr_wasi_calls.specs.Pieces.{size_of, spread}
use Rattle.vr_wasi_calls.proofs.reads.lay_body.Given as goal

abbrev pub invariant-loop-piece : goal.invariant-loop-piece
invariant-loop-piece l = record {
  laid : spread l.memory (drop l.piece-index l.pieces)
      (drop l.place l.body) ≡ spread l.fn.memory l.pieces (drop l.from l.body);
  size : length l.memory.bytes ≡ length l.fn.memory.bytes;
  counted : l.place ≡ l.from + min (length (drop l.from l.body)) (size_of
      (take l.piece-index l.pieces));
}
