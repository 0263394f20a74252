-- What a linked module keeps until its store is made.
use Rattle.std.specs.Prelude.{◌≡◌, ℕ, ◌≤◌, List, Ok}
use Rattle.vr_wasm_ast.specs.declared.tree.Module.{Module}
use Rattle.vr_wasm_link.specs.Constants.{global_values}
use Rattle.vr_wasm_link.specs.Opening.{Finds, Opening, callees, opening_of, opening_with}
use Rattle.vr_wasm_steps.specs.Rows.{Callee}
use Rattle.vr_wasm_valid.specs.Valid.{IsValid}

-- the module, how many pages the run may have, and the function that is called after the start function
pub record Plan : Type 0 where
  pub tree : Module
  pub pages : ℕ
  pub main : ℕ

-- what it opens with, where the host finds these functions
abbrev pub opening_in : Finds → Plan → Opening
opening_in finds l = opening_with finds l.tree l.pages l.main

-- the module is valid, these are its functions and the values of its globals, and it has no link fault
pub record IsPlan (finds : Finds) (l : Plan) (functions : List Callee)
    (globals : List ℕ) : Type 0 where
  pub valid : IsValid l.tree
  pub limit : l.pages ≤ 1024
  pub functions_are : functions ≡ callees finds l.tree
  pub globals_are : globals ≡ global_values l.tree.globals
  pub opens : opening_of finds l.tree l.pages ≡ Ok (opening_in finds l)
