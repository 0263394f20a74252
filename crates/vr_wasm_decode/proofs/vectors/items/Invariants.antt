use Rattle.std.proofs.Common.{◌≡◌, ◌-◌}
use Rattle.vr_wasm_decode.specs.Reader.{items_at}
use Rattle.vr_wasm_decode.proofs.ItemLoop.{with_prefix}
use Rattle.vr_wasm_decode.proofs.vectors.items.Given as goal

-- what was read and what is still read are the whole
abbrev pub invariant-loop : goal.invariant-loop
invariant-loop g l = with_prefix l.items (items_at (l.count - l.counter) g.P.Part.reading l.cursor) ≡ items_at l.count g.P.Part.reading l.initial.cursor
