-- What is left, read from the state that the pieces before it led to, gives what the whole text gives.
use Rattle.std.proofs.Common.{◌≡◌, ◌+◌, false, length}
use Rattle.vr_pipe.specs.Pieces.{pieces_from}
use Rattle.vr_pipe.specs.Parser.{parse_from, parse, state_of}
use Rattle.vr_pipe.proofs.pipes.parse.Given as goal

abbrev pub invariant-loop-found : goal.invariant-loop-found
invariant-loop-found l = record {
  reads : parse_from (length l.text) (state_of l.parser) (pieces_from l.at false l.rest) ≡ parse l.text;
  place : l.at + length l.rest ≡ length l.text;
}

abbrev pub decreases-loop-found : goal.decreases-loop-found
decreases-loop-found l = length l.rest
