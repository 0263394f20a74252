use Rattle.std.proofs.Common.{◌≡◌, ◌+◌, ◌<◌, ◌≤◌, List, ℕ, drop, length, min, take, ap, ◌∙◌, arith}
use Rattle.std.proofs.lemmas.List.{length-take}
use Rattle.vr_wasm_num.specs.Memory.{with_piece}
use Rattle.vr_wasi_calls.proofs.MemoryLemmas.{range_ends}
use Rattle.vr_wasi_calls.proofs.RunLemmas.{laid_more, part_of_run}
use Rattle.vr_wasi_calls.proofs.reads.lay_run.Goals as goal

pub loop-done-preserved : goal.loop-done-preserved
loop-done-preserved c =
    let m = c.args.memory.now in
    let left : List ℕ = drop c.args.from c.args.body.now in
    let run : List ℕ = take c.min.result c.run_at-run.result.now in
    let some : 0 < c.args.count = omega arith in
    let ends : c.args.at + c.args.count ≤ length m.bytes = range_ends m c.args.at c.args.count
    c.requires.within some in
    let size : length run ≡ min c.min.result (length c.run_at-run.result.now) = length-take
    c.min.result c.run_at-run.result.now in
    record {
      laid =
          c.put_bytes.ensures ∙ ap (λ at. with_piece c.loop-done.memory
          (at + c.loop-done.done) run) c.from.ensures
          ∙ laid_more m c.loop-done.memory c.args.at c.loop-done.done left run (omega arith)
          (omega arith) c.loop-done.invariant.laid
          (part_of_run c.min.result c.args.from c.loop-done.done c.args.body.now
          c.run_at-run.result.now c.run_at-run.ensures.bytes);
      few = omega arith;
    }
