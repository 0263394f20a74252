use Rattle.std.proofs.lemmas.Result.{IfOk-equal}
use Rattle.vr_pipe.proofs.TextLemmas.{written_if, writes_feed, writes_then}
use Rattle.vr_pipe.proofs.printing.+print.Goals as goal

pub print_tree-returns-in_ok-print_tree-in-If : goal.print_tree-returns-in_ok-print_tree-in-If
print_tree-returns-in_ok-print_tree-in-If t c =
    IfOk-equal c.print_else.result _ _ _ c.print_else.ensures
    (written_if c.args.out.now c.print_opening.new.out c.print_tree.new.out c.in-If.path c.in-If.taken c.get.result.now c.args.tree.now c.in-If.other
    c.in_ok-print_opening-in-If.ensures c.get.ensures c.in_ok-print_tree-in-If.ensures c.in-If.is)

pub print_tree-returns-in_ok-push_slice-in-Feed : goal.print_tree-returns-in_ok-push_slice-in-Feed
print_tree-returns-in_ok-push_slice-in-Feed t c =
    let w = writes_feed c.args.out.now c.in-Feed.first c.in-Feed.second in
    IfOk-equal c.print_tree-in-Feed-2.result _ _ _ c.print_tree-in-Feed-2.ensures
    (cc (c.in_ok-print_tree-in-Feed.ensures, c.in_ok-push_slice-in-Feed.ensures.ok, c.get-in-Feed.ensures, c.get-in-Feed-2.ensures, c.in-Feed.is))

pub print_tree-returns-in_ok-push_slice-in-Then : goal.print_tree-returns-in_ok-push_slice-in-Then
print_tree-returns-in_ok-push_slice-in-Then t c =
    let w = writes_then c.args.out.now c.in-Then.first c.in-Then.second in
    IfOk-equal c.print_tree-in-Then-2.result _ _ _ c.print_tree-in-Then-2.ensures
    (cc (c.in_ok-print_tree-in-Then.ensures, c.in_ok-push_slice-in-Then.ensures.ok, c.get-in-Then.ensures, c.get-in-Then-2.ensures, c.in-Then.is))
