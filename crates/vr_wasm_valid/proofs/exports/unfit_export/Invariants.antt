use Rattle.std.proofs.Common.{ℕ, take}
use Rattle.std.specs.Prelude.{All}
use Rattle.std.specs.List.{enumerate_from}
use Rattle.vr_wasm_ast.specs.declared.tree.Export.{Export}
use Rattle.vr_wasm_valid.specs.Parts.{ExportFits}
use Rattle.vr_wasm_valid.specs.Scope.{spaces_in}
use Rattle.vr_wasm_valid.proofs.ExportLemmas.{HoldsNames}
use Rattle.vr_wasm_valid.proofs.exports.unfit_export.Given as goal

abbrev pub invariant-loop-place : goal.invariant-loop-place
invariant-loop-place l = record {
  names : HoldsNames l.names (take l.place l.exports);
  fit : All (λ (e : ℕ × Export). ExportFits (spaces_in l.spaces) l.exports e.0 e.1)
      (take l.place (enumerate_from 0 l.exports));
}
