use Rattle.std.proofs.Common.{◌≤◌, ◌<◌, ◌*◌, ℕ, List, length, take, arith}
use Rattle.vr_digests.proofs.Pages.{pages_more, pages_past}
use Rattle.vr_digests.proofs.digests.digest_of.Goals as goal
use Rattle.vr_digests.proofs.digests.digest_of.Goals.{in-Some, in_default}

pub loop-place-preserved : goal.loop-place-preserved
loop-place-preserved c =
    let k : ℕ = c.loop-place.place in
    let bytes : List ℕ = c.args.body.now in
    elim c.match-page.branch [
      | in-Some w ↦ rw (w.hasher-is, pages_more k bytes, ← w.in-Some.ensures.bytes) (w.update.ensures (take (4096 * k) bytes) c.loop-place.invariant)
      | in_default w ↦
          let below : 4096 * k < length bytes → ⊥ = λ h. let there = w.in_default.ensures.some.1 h in let no : ⊥ = cc in no in
          let past : length bytes ≤ 4096 * k = grind (arith, below) in
          rw (w.hasher-is, pages_past k bytes past) c.loop-place.invariant
    ]
