use Rattle.std.proofs.Common.{rules}
use borrow.Author.Tests.{tests}
use Rattle.std.proofs.lemmas.Iterator.{YieldsList-from_slice, YieldsList-from_map_by}
use Rattle.std.proofs.lemmas.Iterator.Consumers.{map_from_collect}
use Rattle.vr_policy_read.specs.declared.entries.Pin.{Pin}
use Rattle.vr_policy_check.proofs.rules.pin_paths.Goals as goal

pub returns-clause-paths : goal.returns-clause-paths
returns-clause-paths c =
    map_from_collect _ c.collect.ensures.ran
    (YieldsList-from_map_by _ (λ name. name.now) (λ (pin : Pin). pin.path) (YieldsList-from_slice c.args.policy.now.pins cc) c.map.ensures.closure
    (λ x r q k. search (rules, tests)))
