use Rattle.std.proofs.lemmas.Result.{err_from_is_err_and}
use Rattle.vr_wasm_decode.proofs.SectionLoop.{begins, ends, section_fails, fewer, goes_on}
use Rattle.vr_wasm_decode.proofs.sections.sections.Goals as goal

pub each-init : goal.each-init
each-init c = rw c.begin-so_far.ensures (begins c.args.cursor.now)

pub returns-in_default : goal.returns-in_default
returns-in_default c =
    ends c.args.cursor.now c.each.last c.each.so_far c.each.cursor c.finished.result c.each.invariant c.in_default.ensures.none.0 (rw c.place-at.ensures at c.finished.ensures)

pub returns-in_err-next_last : goal.returns-in_err-next_last
returns-in_err-next_last c =
    let p = err_from_is_err_and c.from_residual.result c.from_residual.ensures.1 in
    rw (p.1, p.2)
    (section_fails c.args.cursor.now c.each.last c.each.so_far c.each.cursor c.in-Some.id c.read_byte.new.self c.each.invariant c.in-Some.ensures.some c.in_err-next_last.field-0.0 (rw c.place-at.ensures at c.in_err-next_last.ensures))

pub each-smaller : goal.each-smaller
each-smaller c =
    fewer c.args.cursor.now c.each.last c.each.so_far c.each.cursor c.in-Some.id c.read_byte.new.self c.each.invariant c.in-Some.ensures.some (c.in_ok-next_last.next_last, c.in_ok-next_last.next) c.any_section.new.cursor
    (rw c.place-at.ensures at c.in_ok-next_last.ensures)

pub each-preserved : goal.each-preserved
each-preserved c =
    goes_on c.args.cursor.now c.each.last c.each.so_far c.each.cursor c.in-Some.id c.read_byte.new.self c.each.invariant c.in-Some.ensures.some (c.in_ok-next_last.next_last, c.in_ok-next_last.next) c.any_section.new.cursor
    (rw c.place-at.ensures at c.in_ok-next_last.ensures)
