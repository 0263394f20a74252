use Rattle.std.proofs.Common.{take, ℕ}
use Rattle.std.specs.Prelude.{All}
use Rattle.std.specs.List.{zip}
use Rattle.vr_wasm_ast.specs.declared.tree.Code.{Code}
use Rattle.vr_wasm_valid.specs.Parts.{BodyFits}
use Rattle.vr_wasm_valid.specs.Scope.{spaces_in}
use Rattle.vr_wasm_valid.proofs.parts.unfit_body.Given as goal

abbrev pub invariant-loop-place : goal.invariant-loop-place
invariant-loop-place l =
    All (λ (f : ℕ × Code). BodyFits (spaces_in l.spaces) f.0 f.1) (take l.place (zip l.functions l.codes))
