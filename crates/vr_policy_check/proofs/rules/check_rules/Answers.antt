use Rattle.std.proofs.Common.{List, ap, sym, ◌∙◌, subst}
use Rattle.vr_base.specs.Checks.{Tells}
use Rattle.vr_policy_read.specs.PolicyData.{IsShort}
use Rattle.vr_pipe.specs.declared.trees.Tree.{Tree}
use Rattle.vr_policy_check.specs.declared.faults.CheckKind.TheVariants.{UnlistedProgram}
use Rattle.vr_policy_check.specs.Faults.{told}
use Rattle.vr_policy_check.specs.Rules.{rule, unlisted_program, check_of}
use Rattle.vr_policy_check.proofs.CheckedLemmas.{few_trees}
use Rattle.vr_policy_check.proofs.RuleLemmas.{past_1, past_2, past_3, past_4, past_5, past_6, past_7, past_8, past_9, told_first, told_next, told_trees}
use Rattle.vr_policy_check.proofs.TellLemmas.{hands_on}
use Rattle.vr_policy_check.proofs.rules.check_rules.Goals as goal

pub returns-in_err-check_some_identity-clause-answer : goal.returns-in_err-check_some_identity-clause-answer
returns-in_err-check_some_identity-clause-answer c =
    hands_on _ c.from_residual.result c.in_err-check_some_identity.field-0.0 (check_of c.args.policy.now) c.from_residual.ensures.1
    (told_first c.args.policy.now (told c.in_err-check_some_identity.field-0.0) c.in_err-check_some_identity.ensures.rule)

pub returns-in_err-identity_places-clause-answer : goal.returns-in_err-identity_places-clause-answer
returns-in_err-identity_places-clause-answer c =
    hands_on _ c.from_residual-in_err-identity_places.result c.in_err-identity_places.field-0.0 (check_of c.args.policy.now) c.from_residual-in_err-identity_places.ensures.1
    (told_next c.args.policy.now (told c.in_err-identity_places.field-0.0) _ _
    (past_1 c.args.policy.now c.in_ok-check_some_identity.ensures.rule)
    c.in_err-identity_places.ensures.rule)

pub returns-in_err-listed-clause-answer : goal.returns-in_err-listed-clause-answer
returns-in_err-listed-clause-answer c =
    hands_on _ c.from_residual-in_err-listed.result c.in_err-listed.field-0.0 (check_of c.args.policy.now) c.from_residual-in_err-listed.ensures.1
    (told_next c.args.policy.now (told c.in_err-listed.field-0.0) _ _
    (past_2 c.args.policy.now c.in_ok-check_some_identity.ensures.rule c.in_ok-identity_places.ensures.rule)
    c.in_err-listed.ensures.rule)

pub returns-in_err-pipeline_places-clause-answer : goal.returns-in_err-pipeline_places-clause-answer
returns-in_err-pipeline_places-clause-answer c =
    hands_on _ c.from_residual-in_err-pipeline_places.result c.in_err-pipeline_places.field-0.0 (check_of c.args.policy.now) c.from_residual-in_err-pipeline_places.ensures.1
    (told_next c.args.policy.now (told c.in_err-pipeline_places.field-0.0) _ _
    (past_3 c.args.policy.now c.in_ok-check_some_identity.ensures.rule c.in_ok-identity_places.ensures.rule c.in_ok-listed.ensures.rule)
    c.in_err-pipeline_places.ensures.rule)

pub returns-in_err-check_pins-clause-answer : goal.returns-in_err-check_pins-clause-answer
returns-in_err-check_pins-clause-answer c =
    hands_on _ c.from_residual-in_err-check_pins.result c.in_err-check_pins.field-0.0 (check_of c.args.policy.now) c.from_residual-in_err-check_pins.ensures.1
    (told_next c.args.policy.now (told c.in_err-check_pins.field-0.0) _ _
    (past_4 c.args.policy.now c.in_ok-check_some_identity.ensures.rule c.in_ok-identity_places.ensures.rule c.in_ok-listed.ensures.rule
    c.in_ok-pipeline_places.ensures.rule)
    c.in_err-check_pins.ensures)

pub returns-in_err-check_grants-clause-answer : goal.returns-in_err-check_grants-clause-answer
returns-in_err-check_grants-clause-answer c =
    hands_on _ c.from_residual-in_err-check_grants.result c.in_err-check_grants.field-0.0 (check_of c.args.policy.now) c.from_residual-in_err-check_grants.ensures.1
    (told_next c.args.policy.now (told c.in_err-check_grants.field-0.0) _ _
    (past_5 c.args.policy.now c.in_ok-check_some_identity.ensures.rule c.in_ok-identity_places.ensures.rule c.in_ok-listed.ensures.rule
    c.in_ok-pipeline_places.ensures.rule c.in_ok-check_pins.ensures)
    c.in_err-check_grants.ensures)

pub returns-in_err-check_program_files-clause-answer : goal.returns-in_err-check_program_files-clause-answer
returns-in_err-check_program_files-clause-answer c =
    hands_on _ c.from_residual-in_err-check_program_files.result c.in_err-check_program_files.field-0.0 (check_of c.args.policy.now) c.from_residual-in_err-check_program_files.ensures.1
    (told_next c.args.policy.now (told c.in_err-check_program_files.field-0.0) _ _
    (past_6 c.args.policy.now c.in_ok-check_some_identity.ensures.rule c.in_ok-identity_places.ensures.rule c.in_ok-listed.ensures.rule
    c.in_ok-pipeline_places.ensures.rule c.in_ok-check_pins.ensures c.in_ok-check_grants.ensures)
    c.in_err-check_program_files.ensures)

pub returns-in_err-pipes-clause-answer : goal.returns-in_err-pipes-clause-answer
returns-in_err-pipes-clause-answer c =
    hands_on _ c.from_residual-in_err-pipes.result c.in_err-pipes.field-0.0 (check_of c.args.policy.now) c.from_residual-in_err-pipes.ensures.1
    (told_trees c.args.policy.now (told c.in_err-pipes.field-0.0)
    (past_7 c.args.policy.now c.in_ok-check_some_identity.ensures.rule c.in_ok-identity_places.ensures.rule c.in_ok-listed.ensures.rule
    c.in_ok-pipeline_places.ensures.rule c.in_ok-check_pins.ensures c.in_ok-check_grants.ensures
    c.in_ok-check_program_files.ensures)
    c.in_err-pipes.ensures)

pub returns-in_err-check_listed-clause-answer : goal.returns-in_err-check_listed-clause-answer
returns-in_err-check_listed-clause-answer c =
    hands_on _ c.from_residual-in_err-check_listed.result c.in_err-check_listed.field-0.0 (check_of c.args.policy.now) c.from_residual-in_err-check_listed.ensures.1
    (told_next c.args.policy.now (told c.in_err-check_listed.field-0.0) _ _
    (past_8 c.args.policy.now (past_7 c.args.policy.now c.in_ok-check_some_identity.ensures.rule c.in_ok-identity_places.ensures.rule c.in_ok-listed.ensures.rule
    c.in_ok-pipeline_places.ensures.rule c.in_ok-check_pins.ensures c.in_ok-check_grants.ensures
    c.in_ok-check_program_files.ensures) c.in_ok-pipes.pipes.items c.in_ok-pipes.ensures)
    (let P : List Tree → Type 0 = λ trees. Tells (told c.in_err-check_listed.field-0.0) (rule UnlistedProgram (unlisted_program c.args.policy.now trees)) in
    subst P c.deref.ensures.value (c.in_err-check_listed.ensures _ c.in_ok-listed.ensures.names)))

pub check_listed-requires : goal.check_listed-requires
check_listed-requires c =
    subst IsShort (sym c.deref.ensures.value)
    (few_trees c.args.policy.now c.in_ok-pipes.pipes.items c.in_ok-check_some_identity.ensures.limits c.in_ok-pipes.ensures)

pub returns-clause-answer : goal.returns-clause-answer
returns-clause-answer c =
    past_9 c.args.policy.now c.in_ok-pipes.pipes.items
    (past_8 c.args.policy.now (past_7 c.args.policy.now c.in_ok-check_some_identity.ensures.rule c.in_ok-identity_places.ensures.rule c.in_ok-listed.ensures.rule
    c.in_ok-pipeline_places.ensures.rule c.in_ok-check_pins.ensures c.in_ok-check_grants.ensures
    c.in_ok-check_program_files.ensures) c.in_ok-pipes.pipes.items c.in_ok-pipes.ensures)
    (ap (λ trees. rule UnlistedProgram (unlisted_program c.args.policy.now trees)) (sym c.deref.ensures.value)
    ∙ c.in_ok-check_listed.ensures _ c.in_ok-listed.ensures.names)
