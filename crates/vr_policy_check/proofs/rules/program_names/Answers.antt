use Rattle.std.proofs.Common.{rules}
use borrow.Author.Tests.{tests}
use Rattle.std.proofs.lemmas.Iterator.{YieldsList-from_slice, YieldsList-from_map_by}
use Rattle.std.proofs.lemmas.Iterator.Consumers.{map_from_collect}
use Rattle.vr_policy_read.specs.declared.entries.Program.{Program}
use Rattle.vr_policy_check.proofs.rules.program_names.Goals as goal

pub returns-clause-names : goal.returns-clause-names
returns-clause-names c =
    map_from_collect _ c.collect.ensures.ran
    (YieldsList-from_map_by _ (λ name. name.now) (λ (program : Program). program.name) (YieldsList-from_slice c.args.policy.now.programs cc) c.map.ensures.closure
    (λ x r q k. search (rules, tests)))
