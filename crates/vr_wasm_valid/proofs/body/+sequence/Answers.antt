use Rattle.std.proofs.Common.{IsTrue, ◌↔◌, ap, subst, ◌∙◌}
use Rattle.vr_wasm_ast.proofs.InstructionLemmas.{instruction_of-Block, instruction_of-If, instruction_of-Loop, instruction_of-MemoryCopy, instruction_of-MemoryFill, instruction_of-MemoryGrow, instruction_of-MemorySize}
use Rattle.vr_wasm_ast.specs.Instructions.{instructions_of}
use Rattle.vr_wasm_valid.specs.declared.scope.Scope.{Scope}
use Rattle.vr_wasm_valid.specs.Context.{inside_block}
use Rattle.vr_wasm_valid.specs.Scope.{context_in}
use Rattle.vr_wasm_valid.specs.Steps.{LeadsTo}
use Rattle.vr_wasm_valid.proofs.ShapeLemmas.{checks_nowhere, checks_on}
use Rattle.vr_wasm_valid.proofs.StepLemmas.{both_hold, checks_given, checks_given_both, first_fails, goes_nowhere, goes_past, goes_to_end}
use Rattle.vr_wasm_valid.proofs.body.+sequence.Goals as goal
use Rattle.vr_wasm_valid.proofs.body.+sequence.Goals.{check_instr-then-branch+in_ok-fine-in-If-2, check_instr-else-branch}

pub check_sequence-loop-instr-preserved : goal.check_sequence-loop-instr-preserved
check_sequence-loop-instr-preserved t c = record {
  kept = c.in_ok-check_instr.ensures.kept ∙ c.loop-instr.invariant.kept;
  goes = goes_past c.args.body.now c.loop-instr.instr-index (ap context_in c.loop-instr.invariant.kept)
      c.as_slice-instr-items.ensures c.loop-instr-test.true c.instr-item.is c.loop-instr.invariant.goes
      c.if-not-branch.false c.in_ok-check_instr.ensures.checked.moves;
}

pub check_sequence-returns-then-not-branch-clause-checked : goal.check_sequence-returns-then-not-branch-clause-checked
check_sequence-returns-then-not-branch-clause-checked t c =
    checks_nowhere (goes_nowhere c.args.body.now c.loop-instr.instr-index (ap context_in c.loop-instr.invariant.kept)
    c.as_slice-instr-items.ensures c.loop-instr-test.true c.instr-item.is c.loop-instr.invariant.goes
    c.if-not-branch.true c.in_ok-check_instr.ensures.checked.moves)

pub check_sequence-returns-clause-checked : goal.check_sequence-returns-clause-checked
check_sequence-returns-clause-checked t c =
    checks_on (goes_to_end c.args.body.now c.loop-instr.instr-index c.as_slice-instr-items.ensures
    c.loop-instr-test.false c.loop-instr.invariant.goes)

pub check_instr-returns-in_ok-fine-in-Block-clause-checked : goal.check_instr-returns-in_ok-fine-in-Block-clause-checked
check_instr-returns-in_ok-fine-in-Block-clause-checked t c =
    rw (c.in-Block.is, instruction_of-Block) (checks_given c.in_ok-fine-in-Block.ensures.typed c.apply_if.ensures)

pub check_instr-returns-in_ok-fine-in-Loop-clause-checked : goal.check_instr-returns-in_ok-fine-in-Loop-clause-checked
check_instr-returns-in_ok-fine-in-Loop-clause-checked t c =
    rw (c.in-Loop.is, instruction_of-Loop) (checks_given c.in_ok-fine-in-Loop.ensures.typed c.apply_if-in-Loop.ensures)

pub check_instr-returns-in-MemorySize-clause-checked : goal.check_instr-returns-in-MemorySize-clause-checked
check_instr-returns-in-MemorySize-clause-checked t c =
    rw (c.in-MemorySize.is, instruction_of-MemorySize) c.check_memory.ensures

pub check_instr-returns-in-MemoryGrow-clause-checked : goal.check_instr-returns-in-MemoryGrow-clause-checked
check_instr-returns-in-MemoryGrow-clause-checked t c =
    rw (c.in-MemoryGrow.is, instruction_of-MemoryGrow) c.check_memory-in-MemoryGrow.ensures

pub check_instr-returns-in-MemoryCopy-clause-checked : goal.check_instr-returns-in-MemoryCopy-clause-checked
check_instr-returns-in-MemoryCopy-clause-checked t c =
    rw (c.in-MemoryCopy.is, instruction_of-MemoryCopy) c.check_memory-in-MemoryCopy.ensures

pub check_instr-returns-in-MemoryFill-clause-checked : goal.check_instr-returns-in-MemoryFill-clause-checked
check_instr-returns-in-MemoryFill-clause-checked t c =
    rw (c.in-MemoryFill.is, instruction_of-MemoryFill) c.check_memory-in-MemoryFill.ensures

pub check_instr-returns-after-branch-clause-checked : goal.check_instr-returns-after-branch-clause-checked
check_instr-returns-after-branch-clause-checked t c =
    let first = c.in_ok-fine-in-If.ensures in
    let kind = c.in-If.kind in
    let other = instructions_of c.in-If.other in
    rw (c.in-If.is, instruction_of-If) (checks_given_both (elim c.if-branch.branch [
      | check_instr-then-branch+in_ok-fine-in-If-2 w ↦
          let second = w.in_ok-fine-in-If-2 in
          let P : Scope → Type 0 = λ s. IsTrue second.fine ↔ LeadsTo (inside_block kind (context_in s)) other kind in
          both_hold first.typed (subst P first.kept second.ensures.typed) w.if-branch.true w.fine-is
      | check_instr-else-branch w ↦ first_fails first.typed w.if-branch.false (w.fine-is ∙ w.if-branch.false)
    ]) c.apply_if-in-If.ensures)
