use Rattle.std.proofs.Common.{rules, ℕ, List}
use borrow.Author.Tests.{tests}
use Rattle.std.proofs.lemmas.Iterator.{YieldsList-from_slice, YieldsList-from_map_by}
use Rattle.std.proofs.lemmas.Iterator.Consumers.{map_from_collect}
use Rattle.vr_policy_check.proofs.rules.grant_names.Goals as goal

pub returns : goal.returns
returns c =
    map_from_collect _ c.collect.ensures.ran
    (YieldsList-from_map_by _ (λ name. name.now) (λ (grant : List ℕ × ℕ). grant.0) (YieldsList-from_slice c.args.grants.now cc) c.map.ensures.closure
    (λ x r q k. search (rules, tests)))
