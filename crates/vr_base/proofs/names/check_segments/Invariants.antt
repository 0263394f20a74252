-- What is left has the first fault of all.
use Rattle.std.proofs.Common.{◌≡◌, option_map}
use Rattle.vr_base.specs.Cuts.{parts_left, parts_at, left_length}
use Rattle.vr_base.specs.Names.{first_segment_fault}
use Rattle.vr_base.proofs.names.check_segments.Given as goal

abbrev pub invariant-loop-left : goal.invariant-loop-left
invariant-loop-left l = first_segment_fault (parts_left 47 (option_map (λ bytes. bytes.now) l.left)) ≡ first_segment_fault (parts_at 47 l.rest)

abbrev pub decreases-loop-left : goal.decreases-loop-left
decreases-loop-left l = left_length (option_map (λ bytes. bytes.now) l.left)
