use Rattle.std.proofs.Common.{◌≡◌, map, take, Some}
use Rattle.std.specs.Prelude.{string_bytes}
use Rattle.vr_words.specs.Reading.{fresh, steps}
use Rattle.vr_words.specs.Views.{state_of}
use Rattle.vr_words.proofs.scan.scan.Given as goal

abbrev pub invariant-loop-place : goal.invariant-loop-place
invariant-loop-place l = steps l.verbs 0 fresh (take l.place (map string_bytes l.words)) ≡ Some (state_of l.state)
