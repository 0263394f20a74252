-- A valid module's program never gets stuck.
use Rattle.std.specs.Prelude.{ℕ, List, Option, IfSome}
use Rattle.vr_wasm_ast.specs.declared.tree.FuncType.{FuncType}
use Rattle.vr_wasm_ast.specs.declared.tree.Module.{Module}
use Rattle.vr_wasm_link.specs.Linked.{IsLinked}
use Rattle.vr_wasm_steps.specs.Rows.{Program}
use Rattle.vr_wasm_steps.specs.Runs.{NeverLost, start}
use Rattle.vr_wasm_steps.specs.Store.{Store}
use Rattle.vr_wasm_valid.specs.Context.{spaces_of}
use Rattle.vr_wasm_valid.specs.Parts.{StartFits}

-- The program that a valid module was linked to begins, in any world, with a call of one function
-- or of two, which take and give nothing. Of each configuration that it reaches from there a row
-- comes next, or it has ended.
abbrev pub ProgramsNeverLost : (W : Type 0) → (List ℕ → List ℕ → FuncType → Option ℕ) → Type 0
ProgramsNeverLost W finds =
    (m : Module) (p : Program W) (store : Store) (w : W) (first : Option ℕ) (main : ℕ)
    → IsLinked finds m p store
    → IfSome first (StartFits (spaces_of m)) → StartFits (spaces_of m) main
    → NeverLost p (start store w first main)
