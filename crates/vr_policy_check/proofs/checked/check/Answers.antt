use Rattle.vr_policy_check.proofs.CheckedLemmas.{checked_of}
use Rattle.vr_policy_check.proofs.checked.check.Goals as goal

pub invariant_of-result : goal.invariant_of-result
invariant_of-result c = record {
  checked = checked_of c.args.policy _ c.in_ok-passed.ensures.passed.limits c.in_ok-passed.ensures.answer;
  places = c.in_ok-passed.ensures.passed;
}

pub returns-clause-checked : goal.returns-clause-checked
returns-clause-checked c = checked_of c.args.policy _ c.in_ok-passed.ensures.passed.limits c.in_ok-passed.ensures.answer
