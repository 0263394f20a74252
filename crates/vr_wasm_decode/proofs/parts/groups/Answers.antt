use Rattle.std.proofs.Common.{arith}
use Rattle.std.proofs.lemmas.Result.{err_from_is_err_and}
use Rattle.vr_wasm_decode.proofs.LocalLoop.{begins, is_done, count_fails, too_many, type_fails, goes_on}
use Rattle.vr_wasm_decode.proofs.parts.groups.Goals as goal

pub loop-init : goal.loop-init
loop-init c = rw c.new-locals.ensures.items (begins c.args.count c.args.cursor.now)

pub returns-in_err-more : goal.returns-in_err-more
returns-in_err-more c =
    let p = err_from_is_err_and c.from_residual.result c.from_residual.ensures.1 in
    rw (p.1, p.2) (count_fails c.args.count c.args.cursor.now c.loop.locals.items c.loop.counter c.loop.cursor c.loop-test.true c.loop.invariant c.in_err-more.field-0.0 c.in_err-more.ensures)

pub returns-then-len-from-gt-MOST_LOCALS : goal.returns-then-len-from-gt-MOST_LOCALS
returns-then-len-from-gt-MOST_LOCALS c =
    rw (c.fault.ensures, c.place-at.ensures)
    (too_many c.args.count c.args.cursor.now c.loop.locals.items c.loop.counter c.loop.cursor c.loop-test.true c.loop.invariant c.in_ok-more.more c.u32.new.cursor c.in_ok-more.ensures
    (omega (arith, c.if-len-from-gt-MOST_LOCALS.true, c.len.ensures, c.from.ensures)))

pub returns-in_err-sort : goal.returns-in_err-sort
returns-in_err-sort c =
    let p = err_from_is_err_and c.from_residual-in_err-sort.result c.from_residual-in_err-sort.ensures.1 in
    rw (p.1, p.2)
    (type_fails c.args.count c.args.cursor.now c.loop.locals.items c.loop.counter c.loop.cursor c.loop-test.true c.loop.invariant c.in_ok-more.more c.u32.new.cursor c.in_ok-more.ensures
    (omega (arith, c.if-len-from-gt-MOST_LOCALS.false, c.len.ensures, c.from.ensures)) c.in_err-sort.field-0.0 c.in_err-sort.ensures)

pub loop-preserved : goal.loop-preserved
loop-preserved c =
    rw c.in_ok-add_locals.ensures
    (goes_on c.args.count c.args.cursor.now c.loop.locals.items c.loop.counter c.loop.cursor c.loop-test.true c.loop.invariant c.in_ok-more.more c.u32.new.cursor c.in_ok-more.ensures
    (omega (arith, c.if-len-from-gt-MOST_LOCALS.false, c.len.ensures, c.from.ensures)) c.in_ok-sort.sort c.val_type.new.cursor c.in_ok-sort.ensures)

pub returns : goal.returns
returns c = rw c.from_vec.ensures (is_done c.args.count c.args.cursor.now c.loop.locals.items c.loop.counter c.loop.cursor c.loop-test.false c.loop.invariant)
