use Rattle.std.proofs.Common.{◌≤◌, length, refl, arith}
use Rattle.vr_wasm_valid.proofs.ShapeLemmas.{free_takes, moves_on, sticks_cut, takes_cut}
use Rattle.vr_wasm_valid.proofs.stack.Stack.take_all.Goals as goal

pub returns-then-not-take_each : goal.returns-then-not-take_each
returns-then-not-take_each c =
    let within : c.saturating_sub-unknown.result ≤ length c.args.wanted.now = omega arith in
    sticks_cut c.args.wanted.now c.saturating_sub-unknown.result within (c.if-not-take_each.ensures.sticks refl)

pub returns-then-is_free : goal.returns-then-is_free
returns-then-is_free c =
    let within : c.saturating_sub-unknown.result ≤ length c.args.wanted.now = omega arith in
    let free = free_takes (c.if-is_free.ensures.0 refl) in
    takes_cut c.args.wanted.now c.saturating_sub-unknown.result within
    (c.if-not-take_each.ensures.steps refl) (moves_on free)

pub returns : goal.returns
returns c =
    let within : c.saturating_sub-unknown.result ≤ length c.args.wanted.now = omega arith in
    takes_cut c.args.wanted.now c.saturating_sub-unknown.result within
    (c.if-not-take_each.ensures.steps refl) c.take_each-2.ensures
