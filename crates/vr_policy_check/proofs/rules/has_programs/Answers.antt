use Rattle.std.proofs.Common.{rules}
use borrow.Author.Tests.{tests}
use Rattle.std.specs.Prelude.{bytes_eq}
use Rattle.std.specs.List.{list_any}
use Rattle.std.proofs.lemmas.Iterator.{YieldsList-from_slice}
use Rattle.std.proofs.lemmas.Iterator.Search.{all_from_yields_List}
use Rattle.vr_pipe.specs.Trees.{pipe_tree, programs_of}
use Rattle.vr_policy_check.proofs.rules.has_programs.Goals as goal

pub returns : goal.returns
returns c = λ names has.
    all_from_yields_List (λ path. list_any (bytes_eq path) names) _ _ c.all.result c.all.ensures.ran
    (YieldsList-from_slice (programs_of (pipe_tree c.args.pipe.now)) cc) (λ x b q k. search (rules, tests))
