use Rattle.std.proofs.Common.{rules, sym}
use borrow.Author.Tests.{tests}
use Rattle.std.proofs.lemmas.Iterator.{YieldsList-from_slice}
use Rattle.std.proofs.lemmas.Iterator.Search.{position_from_yields_List}
use Rattle.vr_base.specs.Names.{names_directory}
use Rattle.vr_policy_read.specs.declared.entries.Program.{Program}
use Rattle.vr_policy_check.proofs.rules.check_program_files.Goals as goal

pub returns : goal.returns
returns c =
    rw (sym (position_from_yields_List (λ (program : Program). names_directory program.name) _ _ c.position-directory.result c.position-directory.ensures.ran
    (YieldsList-from_slice c.args.policy.now.programs cc) (λ x b q k. search (rules, tests)))) c.rule.ensures
