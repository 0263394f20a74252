use Rattle.std.proofs.Common.{refl}
use Rattle.vr_wasm_valid.proofs.ShapeLemmas.{checks_nowhere, checks_on, selects_differ, selects_first, selects_second, selects_steps, selects_third}
use Rattle.vr_wasm_valid.proofs.stack.Stack.select.Goals as goal

pub returns-then-not-take : goal.returns-then-not-take
returns-then-not-take c = checks_nowhere (selects_first (c.if-not-take.ensures.sticks refl))

pub returns-in_default : goal.returns-in_default
returns-in_default c = checks_nowhere (selects_second (c.if-not-take.ensures.steps refl) c.in_default.ensures)

pub returns-in_default-pop : goal.returns-in_default-pop
returns-in_default-pop c =
    checks_nowhere (selects_third (c.if-not-take.ensures.steps refl) c.in-Some.ensures c.in_default-pop.ensures)

pub returns-in_default-both : goal.returns-in_default-both
returns-in_default-both c =
    let taken = c.if-not-take.ensures.steps refl in
    checks_nowhere (selects_differ taken c.in-Some.ensures c.in-Some-pop.ensures c.in_default-both.ensures)

pub returns : goal.returns
returns c =
    let taken = c.if-not-take.ensures.steps refl in
    let kind = c.in-Some-both.ensures in
    checks_on (selects_steps taken c.in-Some.ensures c.in-Some-pop.ensures kind c.in_ok-push.ensures)
