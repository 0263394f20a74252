-- The log has the bytes that were passed.
use Rattle.std.proofs.Common.{◌≡◌, ◌++◌, take}
use Rattle.vr_cli.specs.Taken.{bytes_in}
use Rattle.vr_cli.proofs.digest_sink.extend.Given as goal

abbrev pub invariant-loop-byte : goal.invariant-loop-byte
invariant-loop-byte l = bytes_in l.taken.items ≡ bytes_in l.fn.taken.items ++ take l.byte-index l.piece
