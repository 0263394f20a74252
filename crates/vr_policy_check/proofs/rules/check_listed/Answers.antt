use Rattle.std.proofs.Common.{rules, sym, not}
use borrow.Author.Tests.{tests}
use Rattle.std.proofs.lemmas.Iterator.{YieldsList-from_slice}
use Rattle.std.proofs.lemmas.Iterator.Search.{position_from_yields_List}
use Rattle.vr_policy_check.specs.Rules.{has_programs}
use Rattle.vr_policy_check.proofs.rules.check_listed.Goals as goal

pub returns : goal.returns
returns c = λ names has.
    rw (sym (position_from_yields_List (λ tree. not (has_programs names tree)) _ _ c.position-unlisted.result c.position-unlisted.ensures.ran
    (YieldsList-from_slice c.args.pipes.now cc) (λ x b q k. search (rules, tests, has)))) c.rule.ensures
