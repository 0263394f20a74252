use Rattle.std.proofs.Common.{◌≡◌, List, [], length, ap, rules, arith}
use Rattle.std.proofs.lemmas.Bool.Decides.{nat_tests}
use Rattle.std.proofs.lemmas.List.{nil_from_length}
use Rattle.vr_files.specs.Changes.{Change}
use Rattle.vr_core.proofs.ChangeLemmas.{changes_something, ended_unchanged}
use Rattle.vr_core.proofs.book.Book.plan_ended.Goals as goal

pub returns-then-is_empty-clause-plan : goal.returns-then-is_empty-clause-plan
returns-then-is_empty-clause-plan g c =
    let items = ap (λ (cs : List Change). length cs) c.as_slice.ensures.items in
    let none : c.args.changes ≡ [] = nil_from_length c.args.changes (grind (arith, nat_tests, items, c.is_empty.ensures, c.if-is_empty.true)) in
    ended_unchanged c.args.self.now.origin.policy c.args.self.now.files c.args.code c.args.out c.args.changes none

pub returns-clause-asks : goal.returns-clause-asks
returns-clause-asks g c = changes_something c.args.self.now.files c.args.changes c.requires (search rules)
