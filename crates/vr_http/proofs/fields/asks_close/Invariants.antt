-- What is left asks for the same as all.
use Rattle.std.proofs.Common.{◌≡◌, option_map}
use Rattle.std.specs.List.{list_any}
use Rattle.vr_base.specs.Cuts.{parts_left, left_length}
use Rattle.vr_http.specs.Fields.{asks_close, is_close}
use Rattle.vr_http.proofs.fields.asks_close.Given as goal

abbrev pub invariant-loop-left : goal.invariant-loop-left
invariant-loop-left l = list_any is_close (parts_left 44 (option_map (λ bytes. bytes.now) l.left)) ≡ asks_close l.value

abbrev pub decreases-loop-left : goal.decreases-loop-left
decreases-loop-left l = left_length (option_map (λ bytes. bytes.now) l.left)
