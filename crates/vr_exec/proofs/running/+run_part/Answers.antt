use Rattle.std.proofs.Common.{true, false, ap, ◌∙◌}
use Rattle.std.proofs.lemmas.Result.{err_from_is_err_and}
use Rattle.vr_pipe.specs.declared.trees.Tree.TheVariants.{If}
use Rattle.vr_pipe.specs.Trees.{pipe_tree, programs_of}
use Rattle.vr_exec.proofs.LoadLemmas.{first_fed, first_followed, loaded_over, other_loaded, program_loaded, second_fed, second_followed, taken_loaded}
use Rattle.vr_exec.proofs.RunLemmas.{tested, ran_program, ran_taken, ran_other, ran_none, fed_stops, fed_ends, fed_goes, followed_stops, followed_ends, followed_then_stops, followed_then_ends}
use Rattle.vr_exec.proofs.running.+run_part.Goals as goal

pub returns-in-Program : goal.returns-in-Program
returns-in-Program t c are =
    ran_program c.args.runner.now.policy.now c.args.files c.args.tree.now c.args.input c.args.fuel c.in-Program.path c.run_program.result c.in-Program.is
    (c.run_program.ensures (program_loaded c.args.runner.now.policy.now.pages c.args.files.base c.args.runner.now.programs.now c.args.tree.now c.in-Program.path c.in-Program.is are))

pub returns-then-is_some : goal.returns-then-is_some
returns-then-is_some t c are =
    ran_taken c.args.runner.now.policy.now c.args.files c.args.tree.now c.args.input c.args.fuel c.in-If.path c.in-If.taken c.in-If.other c.get-then-is_some.result.now c.run_part.result
    c.in-If.is c.get-then-is_some.ensures (tested c.get.result _ c.is_some.result true c.get.ensures c.is_some.ensures c.if-is_some.true)
    (c.run_part.ensures (taken_loaded c.args.runner.now.policy.now.pages c.args.files.base c.args.runner.now.programs.now c.args.tree.now c.in-If.path c.in-If.taken c.in-If.other c.get-then-is_some.result.now c.in-If.is c.get-then-is_some.ensures are))

pub returns-in-Some : goal.returns-in-Some
returns-in-Some t c are =
    ran_other c.args.runner.now.policy.now c.args.files c.args.tree.now c.args.input c.args.fuel c.in-If.path c.in-If.taken c.in-If.other c.in-Some.other c.get-in-Some.result.now c.run_part-in-Some.result
    c.in-If.is c.in-Some.is c.get-in-Some.ensures (tested c.get.result _ c.is_some.result false c.get.ensures c.is_some.ensures c.if-is_some.false)
    (c.run_part-in-Some.ensures (other_loaded c.args.runner.now.policy.now.pages c.args.files.base c.args.runner.now.programs.now c.args.tree.now c.in-If.path c.in-If.taken c.in-Some.other c.get-in-Some.result.now (c.in-If.is ∙ ap (If c.in-If.path c.in-If.taken) c.in-Some.is) c.get-in-Some.ensures are))

pub returns-in-None : goal.returns-in-None
returns-in-None t c are =
    ran_none c.args.runner.now.policy.now c.args.files c.args.tree.now c.args.input c.args.fuel c.in-If.path c.in-If.taken c.in-If.other c.of.result
    c.in-If.is c.in-None.is (tested c.get.result _ c.is_some.result false c.get.ensures c.is_some.ensures c.if-is_some.false) (c.of.ensures ∙ c.new.ensures.items)

pub returns-in_err-left-in-Feed : goal.returns-in_err-left-in-Feed
returns-in_err-left-in-Feed t c are =
    let same = err_from_is_err_and c.from_residual.result c.from_residual.ensures.1 in
    rw (same.1, same.2) (fed_stops c.args.runner.now.policy.now c.args.files c.args.tree.now c.args.input c.args.fuel c.in-Feed.first c.in-Feed.second c.get-in-Feed.result.now _
    c.in-Feed.is c.get-in-Feed.ensures (c.in_err-left-in-Feed.ensures (first_fed c.args.runner.now.policy.now.pages c.args.files.base c.args.runner.now.programs.now c.args.tree.now c.in-Feed.first c.in-Feed.second c.get-in-Feed.result.now c.in-Feed.is c.get-in-Feed.ensures are)))

pub returns-then-left-ne0 : goal.returns-then-left-ne0
returns-then-left-ne0 t c are =
    fed_ends c.args.runner.now.policy.now c.args.files c.args.tree.now c.args.input c.args.fuel c.in-Feed.first c.in-Feed.second c.get-in-Feed.result.now c.in_ok-left-in-Feed.left c.silenced.result
    c.in-Feed.is c.get-in-Feed.ensures c.if-left-ne0.true c.silenced.ensures (c.in_ok-left-in-Feed.ensures (first_fed c.args.runner.now.policy.now.pages c.args.files.base c.args.runner.now.programs.now c.args.tree.now c.in-Feed.first c.in-Feed.second c.get-in-Feed.result.now c.in-Feed.is c.get-in-Feed.ensures are))

pub returns-else-left-ne0 : goal.returns-else-left-ne0
returns-else-left-ne0 t c are =
    let left = c.in_ok-left-in-Feed.ensures (first_fed c.args.runner.now.policy.now.pages c.args.files.base c.args.runner.now.programs.now c.args.tree.now c.in-Feed.first c.in-Feed.second c.get-in-Feed.result.now c.in-Feed.is c.get-in-Feed.ensures are) in
    fed_goes c.args.runner.now.policy.now c.args.files c.args.tree.now c.args.input c.args.fuel c.in-Feed.first c.in-Feed.second c.get-in-Feed.result.now c.get-in-Feed-2.result.now c.in_ok-left-in-Feed.left
    c.run_part-in-Feed-2.result c.in-Feed.is c.get-in-Feed.ensures c.get-in-Feed-2.ensures c.if-left-ne0.false left
    (c.run_part-in-Feed-2.ensures (loaded_over c.args.runner.now.policy.now.pages c.args.files.base c.in_ok-left-in-Feed.left.files.base (programs_of (pipe_tree c.get-in-Feed-2.result.now)) c.args.runner.now.programs.now left.0
    (second_fed c.args.runner.now.policy.now.pages c.args.files.base c.args.runner.now.programs.now c.args.tree.now c.in-Feed.first c.in-Feed.second c.get-in-Feed-2.result.now c.in-Feed.is c.get-in-Feed-2.ensures are)))

pub returns-in_err-left-in-Then : goal.returns-in_err-left-in-Then
returns-in_err-left-in-Then t c are =
    let same = err_from_is_err_and c.from_residual-in_err-left-in-Then.result c.from_residual-in_err-left-in-Then.ensures.1 in
    rw (same.1, same.2) (followed_stops c.args.runner.now.policy.now c.args.files c.args.tree.now c.args.input c.args.fuel c.in-Then.first c.in-Then.second c.get-in-Then.result.now _
    c.in-Then.is c.get-in-Then.ensures (c.in_err-left-in-Then.ensures (first_followed c.args.runner.now.policy.now.pages c.args.files.base c.args.runner.now.programs.now c.args.tree.now c.in-Then.first c.in-Then.second c.get-in-Then.result.now c.in-Then.is c.get-in-Then.ensures are)))

pub returns-then-left-ne0-2 : goal.returns-then-left-ne0-2
returns-then-left-ne0-2 t c are =
    followed_ends c.args.runner.now.policy.now c.args.files c.args.tree.now c.args.input c.args.fuel c.in-Then.first c.in-Then.second c.get-in-Then.result.now c.in_ok-left-in-Then.left
    c.in-Then.is c.get-in-Then.ensures c.if-left-ne0-2.true (c.in_ok-left-in-Then.ensures (first_followed c.args.runner.now.policy.now.pages c.args.files.base c.args.runner.now.programs.now c.args.tree.now c.in-Then.first c.in-Then.second c.get-in-Then.result.now c.in-Then.is c.get-in-Then.ensures are))

pub returns-in_err-rest-in-Then : goal.returns-in_err-rest-in-Then
returns-in_err-rest-in-Then t c are =
    let left = c.in_ok-left-in-Then.ensures (first_followed c.args.runner.now.policy.now.pages c.args.files.base c.args.runner.now.programs.now c.args.tree.now c.in-Then.first c.in-Then.second c.get-in-Then.result.now c.in-Then.is c.get-in-Then.ensures are) in
    let same = err_from_is_err_and c.from_residual-in_err-rest-in-Then.result c.from_residual-in_err-rest-in-Then.ensures.1 in
    rw (same.1, same.2) (followed_then_stops c.args.runner.now.policy.now c.args.files c.args.tree.now c.args.input c.args.fuel c.in-Then.first c.in-Then.second c.get-in-Then.result.now c.get-in-Then-2.result.now
    c.in_ok-left-in-Then.left c.of-input.result _ c.in-Then.is c.get-in-Then.ensures c.get-in-Then-2.ensures c.if-left-ne0-2.false (c.of-input.ensures ∙ c.new-in-Then.ensures.items) left (c.in_err-rest-in-Then.ensures (loaded_over c.args.runner.now.policy.now.pages c.args.files.base c.in_ok-left-in-Then.left.files.base (programs_of (pipe_tree c.get-in-Then-2.result.now)) c.args.runner.now.programs.now left.0
    (second_followed c.args.runner.now.policy.now.pages c.args.files.base c.args.runner.now.programs.now c.args.tree.now c.in-Then.first c.in-Then.second c.get-in-Then-2.result.now c.in-Then.is c.get-in-Then-2.ensures are))))

pub returns-in_ok-rest-in-Then : goal.returns-in_ok-rest-in-Then
returns-in_ok-rest-in-Then t c are =
    let left = c.in_ok-left-in-Then.ensures (first_followed c.args.runner.now.policy.now.pages c.args.files.base c.args.runner.now.programs.now c.args.tree.now c.in-Then.first c.in-Then.second c.get-in-Then.result.now c.in-Then.is c.get-in-Then.ensures are) in
    followed_then_ends c.args.runner.now.policy.now c.args.files c.args.tree.now c.args.input c.args.fuel c.in-Then.first c.in-Then.second c.get-in-Then.result.now c.get-in-Then-2.result.now
    c.in_ok-left-in-Then.left c.in_ok-rest-in-Then.rest c.of-input.result c.preceded.result c.in-Then.is c.get-in-Then.ensures c.get-in-Then-2.ensures c.if-left-ne0-2.false (c.of-input.ensures ∙ c.new-in-Then.ensures.items)
    left (c.in_ok-rest-in-Then.ensures (loaded_over c.args.runner.now.policy.now.pages c.args.files.base c.in_ok-left-in-Then.left.files.base (programs_of (pipe_tree c.get-in-Then-2.result.now)) c.args.runner.now.programs.now left.0
    (second_followed c.args.runner.now.policy.now.pages c.args.files.base c.args.runner.now.programs.now c.args.tree.now c.in-Then.first c.in-Then.second c.get-in-Then-2.result.now c.in-Then.is c.get-in-Then-2.ensures are))) c.preceded.ensures
