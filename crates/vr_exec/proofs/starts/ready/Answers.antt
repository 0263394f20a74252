use Rattle.std.proofs.Common.{◌≡◌, ◌<◌, ◌≤◌, List, length, get_or, None, ap, ◌∙◌, subst}
use Rattle.std.proofs.lemmas.List.{take_all}
use Rattle.std.proofs.lemmas.Result.{err_from_is_err_and}
use Rattle.std.specs.Prelude.{slice_get}
use Rattle.vr_pipe.specs.Trees.{pipe_tree}
use Rattle.vr_policy_read.specs.PolicyData.{PolicyData}
use Rattle.vr_policy_read.specs.declared.entries.Pin.{Pin}
use Rattle.vr_exec.specs.Starts.{first_pin_fault}
use Rattle.vr_exec.proofs.StartLemmas.{may_start, pin_passed, pin_told, programs_there}
use Rattle.vr_exec.proofs.starts.ready.Goals as goal

pub returns-in_err-check_pin-clause-answer : goal.returns-in_err-check_pin-clause-answer
returns-in_err-check_pin-clause-answer c tree found =
    let listed : c.as_slice-pin-items.result.now ≡ c.args.policy.now.policy.pins = c.as_slice-pin-items.ensures ∙ ap (λ (p : PolicyData). p.pins) (c.behind-policy.view_is ∙ c.policy.ensures.policy) in
    let within = subst (λ (pins : List Pin). c.loop-pin.pin-index < length pins) listed c.loop-pin-test.true in
    let is = c.pin-item.is ∙ ap (λ (pins : List Pin). get_or pins c.loop-pin.pin-index c.pin-item.result) listed in
    let there = programs_there c.args.files.now.map c.programs.result.now (slice_get c.args.policy.now.pipes c.args.pipeline) c.pipe.result.now tree c.programs.ensures c.pipe.ensures.tree found c.in_ok-check_files.ensures in
    let same = err_from_is_err_and c.from_residual-in_err-check_pin.result c.from_residual-in_err-check_pin.ensures.1 in
    rw (same.1, same.2) (pin_told c.args.policy.now (pipe_tree tree) c.args.files.now.map c.loop-pin.pin-index c.pin-item.result within is (c.loop-pin.invariant tree found) there c.in_err-check_pin.field-0.0
    (c.in_err-check_pin.ensures tree found))

pub loop-pin-preserved : goal.loop-pin-preserved
loop-pin-preserved c tree found =
    let listed : c.as_slice-pin-items.result.now ≡ c.args.policy.now.policy.pins = c.as_slice-pin-items.ensures ∙ ap (λ (p : PolicyData). p.pins) (c.behind-policy.view_is ∙ c.policy.ensures.policy) in
    let within = subst (λ (pins : List Pin). c.loop-pin.pin-index < length pins) listed c.loop-pin-test.true in
    let is = c.pin-item.is ∙ ap (λ (pins : List Pin). get_or pins c.loop-pin.pin-index c.pin-item.result) listed in
    pin_passed c.args.policy.now (pipe_tree tree) c.args.files.now.map c.loop-pin.pin-index c.pin-item.result within is (c.loop-pin.invariant tree found) (c.in_ok-check_pin.ensures tree found)

pub returns-clause-starts : goal.returns-clause-starts
returns-clause-starts c tree found =
    let listed : c.as_slice-pin-items.result.now ≡ c.args.policy.now.policy.pins = c.as_slice-pin-items.ensures ∙ ap (λ (p : PolicyData). p.pins) (c.behind-policy.view_is ∙ c.policy.ensures.policy) in
    let past = subst (λ (pins : List Pin). length pins ≤ c.loop-pin.pin-index) listed c.loop-pin-test.false in
    let there = programs_there c.args.files.now.map c.programs.result.now (slice_get c.args.policy.now.pipes c.args.pipeline) c.pipe.result.now tree c.programs.ensures c.pipe.ensures.tree found c.in_ok-check_files.ensures in
    let whole = take_all c.loop-pin.pin-index c.args.policy.now.policy.pins past in
    may_start c.args.policy.now (pipe_tree tree) c.args.files.now.map there (subst (λ (pins : List Pin). first_pin_fault c.args.policy.now (pipe_tree tree) c.args.files.now.map pins ≡ None) whole (c.loop-pin.invariant tree found))
