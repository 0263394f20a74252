-- A typing of the instructions that are left, from an instance of the stack, is one of all of them.
use Rattle.std.proofs.Common.{◌≡◌, drop}
use Rattle.vr_wasm_ast.specs.Instructions.{instructions_of}
use Rattle.vr_wasm_valid.specs.Scope.{context_in}
use Rattle.vr_wasm_valid.proofs.StepLemmas.{Goes}
use Rattle.vr_wasm_valid.proofs.body.+sequence.Given as goal

abbrev pub invariant-check_sequence-loop-instr : goal.invariant-check_sequence-loop-instr
invariant-check_sequence-loop-instr l =
    let rest = instructions_of (drop l.instr-index l.body) in
    record {
      kept : l.scope ≡ l.fn.scope;
      goes : Goes (context_in l.fn.scope) rest l.stack (instructions_of l.body) l.initial.stack;
    }
