use Rattle.std.proofs.Common.{◌≡◌, take}
use Rattle.vr_wasi_calls.specs.Pieces.{bytes_in}
use Rattle.vr_wasi_calls.proofs.pieces.gather.Given as goal

abbrev pub invariant-loop-piece : goal.invariant-loop-piece
invariant-loop-piece l = l.bytes.items ≡ bytes_in l.memory (take l.piece-index l.pieces)
