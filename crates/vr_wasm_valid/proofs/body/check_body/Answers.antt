use Rattle.std.proofs.Common.{◌++◌}
use Rattle.vr_wasm_ast.specs.Instructions.{instructions_of}
use Rattle.vr_wasm_valid.specs.Scope.{spaces_in}
use Rattle.vr_wasm_valid.proofs.TypingLemmas.{body_checked}
use Rattle.vr_wasm_valid.proofs.body.check_body.Goals as goal

pub returns : goal.returns
returns c =
    let locals = c.args.sort.now.params ++ c.args.function.now.locals in
    body_checked (spaces_in c.args.spaces.now) locals (instructions_of c.args.function.now.body)
    c.check_block.result
    c.result_type-returns.ensures c.new.ensures c.check_block.ensures.typed
