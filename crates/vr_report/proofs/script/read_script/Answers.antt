use Rattle.std.proofs.Common.{arith, rules, ◌≡◌, ◌++◌, ap, sym, ◌∙◌}
use Rattle.std.specs.Option.{option_to_list}
use Rattle.std.specs.Str.Lines.{lines}
use Rattle.vr_report.specs.Script.{script_from}
use Rattle.vr_report.proofs.Calls.{after, after_line}
use Rattle.vr_report.proofs.script.read_script.Goals as goal
use Rattle.vr_report.proofs.script.read_script.Goals.{in-Some+in_ok-push, in_default}

pub loop-left-preserved : goal.loop-left-preserved
loop-left-preserved c =
    let read = c.loop-left.calls.items in
    let more : c.match-branch-2.calls.items ≡ read ++ option_to_list c.in_ok-line.field-0 =
    elim c.match-branch-2.branch [ in-Some+in_ok-push w ↦ search rules | in_default w ↦ search rules ] in
    let step = after_line read c.loop-left.number c.cut_line.result.0.now (lines c.cut_line.result.1.now) c.in_ok-line.field-0 c.in_ok-line.ensures in
    record {
      calls = rw more (sym step ∙ ap (λ ls. after read (script_from c.loop-left.number ls)) (sym c.cut_line.ensures.lines) ∙ c.loop-left.invariant.calls);
      numbers = omega arith;
    }
