use Rattle.std.proofs.Common.{◌≡◌, ◌-◌, false, eqb, length, arith}
use Rattle.std.specs.Prelude.{◌&&◌}
use Rattle.std.proofs.lemmas.Bool.{ne_eqb}
use Rattle.std.proofs.lemmas.Result.{err_from_is_err_and}
use Rattle.vr_wasm_decode.specs.Instructions.{sequence_at}
use Rattle.vr_wasm_decode.proofs.ReaderLemmas.{shorter}
use Rattle.vr_wasm_decode.proofs.InstructionLemmas.{sequence_found, instruction_found}
use Rattle.vr_wasm_decode.proofs.SequenceLoop.{begins, byte_fails, ends, ends_by_else, instruction_fails, goes_on, no_else_allowed, other_than_else, stood, block_ok, loop_ok, block_fails, loop_fails, if_fails, other_fails, if_ok}
use Rattle.vr_wasm_decode.proofs.instructions.+nesting.Goals as goal
use Rattle.vr_wasm_decode.proofs.instructions.+nesting.Goals.{sequence-else-op-eq-ELSE-via-then-op-eq-ELSE+else-may_else, sequence-else-op-eq-ELSE-via-else-op-eq-ELSE}

pub nested-returns-in_err-body-in-2 : goal.nested-returns-in_err-body-in-2
nested-returns-in_err-body-in-2 t c =
    let p = err_from_is_err_and c.from_residual-in_err-body-in-2.result c.from_residual-in_err-body-in-2.ensures.1 in
    rw (p.1, p.2) (block_fails (c.args.deep - 1) c.args.cursor.now c.in_ok-sort.sort c.block_type.new.cursor c.in_ok-sort.ensures c.args.op c.in_err-body-in-2.field-0.0 c.in-2.is c.in_err-body-in-2.ensures)

pub nested-returns-in_err-body-in-3 : goal.nested-returns-in_err-body-in-3
nested-returns-in_err-body-in-3 t c =
    let p = err_from_is_err_and c.from_residual-in_err-body-in-3.result c.from_residual-in_err-body-in-3.ensures.1 in
    rw (p.1, p.2) (loop_fails (c.args.deep - 1) c.args.cursor.now c.in_ok-sort.sort c.block_type.new.cursor c.in_ok-sort.ensures c.args.op c.in_err-body-in-3.field-0.0 c.in-3.is c.in_err-body-in-3.ensures)

pub nested-returns-in_err-body-in_default : goal.nested-returns-in_err-body-in_default
nested-returns-in_err-body-in_default t c =
    let p = err_from_is_err_and c.from_residual-in_err-body-in_default.result c.from_residual-in_err-body-in_default.ensures.1 in
    rw (p.1, p.2) (if_fails (c.args.deep - 1) c.args.cursor.now c.in_ok-sort.sort c.block_type.new.cursor c.in_ok-sort.ensures c.args.op c.in_err-body-in_default.field-0.0 (λ e. omega arith) (λ e. omega arith) c.in_err-body-in_default.ensures)

pub nested-returns-in_err-other-in_default : goal.nested-returns-in_err-other-in_default
nested-returns-in_err-other-in_default t c =
    let p = err_from_is_err_and c.from_residual-in_err-other-in_default.result c.from_residual-in_err-other-in_default.ensures.1 in
    rw (p.1, p.2) (other_fails (c.args.deep - 1) c.args.cursor.now c.in_ok-sort.sort c.block_type.new.cursor c.in_ok-sort.ensures c.args.op (λ e. omega arith) (λ e. omega arith) c.in_ok-body-in_default.body c.in_ok-body-in_default.by_else c.sequence-in_default.new.cursor c.in_ok-body-in_default.ensures c.in_err-other-in_default.field-0.0 c.in_err-other-in_default.ensures)

pub nested-returns-in_ok-body-in-2 : goal.nested-returns-in_ok-body-in-2
nested-returns-in_ok-body-in-2 t c =
    block_ok (c.args.deep - 1) c.args.cursor.now c.in_ok-sort.sort c.block_type.new.cursor c.in_ok-sort.ensures c.args.op c.in-2.is c.in_ok-body-in-2.body c.in_ok-body-in-2.field-0-1 c.sequence.new.cursor c.in_ok-body-in-2.ensures

pub nested-returns-in_ok-body-in-3 : goal.nested-returns-in_ok-body-in-3
nested-returns-in_ok-body-in-3 t c =
    loop_ok (c.args.deep - 1) c.args.cursor.now c.in_ok-sort.sort c.block_type.new.cursor c.in_ok-sort.ensures c.args.op c.in-3.is c.in_ok-body-in-3.body c.in_ok-body-in-3.field-0-1 c.sequence-in-3.new.cursor c.in_ok-body-in-3.ensures

pub nested-returns-in_ok-other-in_default : goal.nested-returns-in_ok-other-in_default
nested-returns-in_ok-other-in_default t c =
    if_ok (c.args.deep - 1) c.args.cursor.now c.in_ok-sort.sort c.block_type.new.cursor c.in_ok-sort.ensures c.args.op (λ e. omega arith) (λ e. omega arith) c.in_ok-body-in_default.body c.in_ok-body-in_default.by_else c.sequence-in_default.new.cursor c.in_ok-body-in_default.ensures c.in_ok-other-in_default.other c.other_branch.new.cursor c.in_ok-other-in_default.ensures

pub sequence-each-init : goal.sequence-each-init
sequence-each-init t c = rw c.new-items.ensures (begins c.args.deep c.args.may_else c.args.cursor.now)

pub sequence-returns-in_err-op : goal.sequence-returns-in_err-op
sequence-returns-in_err-op t c =
    let p = err_from_is_err_and c.from_residual.result c.from_residual.ensures.1 in
    rw (p.1, p.2) (byte_fails c.args.deep c.args.may_else c.args.cursor.now c.each.items c.each.cursor c.in_err-op.field-0.0 c.each.invariant c.in_err-op.ensures)

pub sequence-returns-then-op-eq-END : goal.sequence-returns-then-op-eq-END
sequence-returns-then-op-eq-END t c =
    ends c.args.deep c.args.may_else c.args.cursor.now c.each.items c.each.cursor c.in_ok-op.op c.byte.new.cursor c.each.invariant c.in_ok-op.ensures c.if-op-eq-END.true

pub sequence-returns-then-may_else : goal.sequence-returns-then-may_else
sequence-returns-then-may_else t c =
    ends_by_else c.args.deep c.args.may_else c.args.cursor.now c.each.items c.each.cursor c.in_ok-op.op c.byte.new.cursor c.each.invariant c.in_ok-op.ensures c.if-op-eq-ELSE.true c.if-may_else.true

pub sequence-returns-in_err-first : goal.sequence-returns-in_err-first
sequence-returns-in_err-first t c =
    let p = err_from_is_err_and c.from_residual-in_err-first.result c.from_residual-in_err-first.ensures.1 in
    let no_else : (eqb c.in_ok-op.op 5 && c.args.may_else) ≡ false = elim c.else-op-eq-ELSE.branch [
      | sequence-else-op-eq-ELSE-via-then-op-eq-ELSE+else-may_else w ↦ no_else_allowed c.in_ok-op.op c.args.may_else w.if-may_else.false
      | sequence-else-op-eq-ELSE-via-else-op-eq-ELSE w ↦ other_than_else c.in_ok-op.op c.args.may_else w.if-op-eq-ELSE.false
    ] in
    rw (p.1, p.2) (instruction_fails c.args.deep c.args.may_else c.args.cursor.now c.each.items c.each.cursor c.in_ok-op.op c.byte.new.cursor c.each.invariant c.in_ok-op.ensures c.in_err-first.field-0.0 (ne_eqb c.in_ok-op.op 11 c.if-op-eq-END.false) no_else (rw c.place-at.ensures at c.in_err-first.ensures))

pub sequence-each-smaller : goal.sequence-each-smaller
sequence-each-smaller t c =
    let fuel = length c.byte.new.cursor.bytes in
    let f = instruction_found c.args.deep (sequence_at fuel (c.args.deep - 1)) (sequence_found fuel (c.args.deep - 1)) c.in_ok-op.op c.place-at.result c.byte.new.cursor c.in_ok-first.first c.instruction.new.cursor (c.in_ok-first.ensures fuel (omega arith)) in
    omega (arith, shorter f, stood c.each.cursor c.in_ok-op.op c.byte.new.cursor c.in_ok-op.ensures)

pub sequence-each-preserved : goal.sequence-each-preserved
sequence-each-preserved t c =
    let fuel = length c.byte.new.cursor.bytes in
    let f = instruction_found c.args.deep (sequence_at fuel (c.args.deep - 1)) (sequence_found fuel (c.args.deep - 1)) c.in_ok-op.op c.place-at.result c.byte.new.cursor c.in_ok-first.first c.instruction.new.cursor (c.in_ok-first.ensures fuel (omega arith)) in
    let no_else : (eqb c.in_ok-op.op 5 && c.args.may_else) ≡ false = elim c.else-op-eq-ELSE.branch [
      | sequence-else-op-eq-ELSE-via-then-op-eq-ELSE+else-may_else w ↦ no_else_allowed c.in_ok-op.op c.args.may_else w.if-may_else.false
      | sequence-else-op-eq-ELSE-via-else-op-eq-ELSE w ↦ other_than_else c.in_ok-op.op c.args.may_else w.if-op-eq-ELSE.false
    ] in
    rw c.in_ok-push.ensures.ok
    (goes_on c.args.deep c.args.may_else c.args.cursor.now c.each.items c.each.cursor c.in_ok-op.op c.byte.new.cursor c.each.invariant c.in_ok-op.ensures c.in_ok-first.first c.instruction.new.cursor (ne_eqb c.in_ok-op.op 11 c.if-op-eq-END.false) no_else (shorter f) (rw c.place-at.ensures at c.in_ok-first.ensures))
