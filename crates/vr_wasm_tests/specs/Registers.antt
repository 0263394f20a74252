-- A host with two registers: a program can read the first one, and write the second one.
use Rattle.std.specs.Prelude.{ℕ, zero, suc, ◌≡◌, List, [], ◌∷◌, None, refl}
use Rattle.vr_wasm_ast.specs.declared.tree.FuncType.{FuncType}
use Rattle.vr_wasm_num.specs.Memory.{Contents}
use Rattle.vr_wasm_steps.specs.Hosts.{Reply, gives_value, gives_nothing, exits}
use Rattle.vr_wasm_steps.specs.Rows.{Callee}
use Rattle.vr_wasm_steps.specs.Runs.{start}
use Rattle.vr_wasm_steps.specs.Store.{Store}
use Rattle.vr_wasm_in_step.specs.InStep.{Mirrors, RepliesAgree, over_host}
use Rattle.vr_wasm_in_step.specs.Kept.{Kept, RepliesKeep}

-- function 0 reads, function 1 writes, and all else ends the program
abbrev pub replies : ℕ × ℕ → ℕ → List ℕ → Contents → Reply (ℕ × ℕ)
replies w zero args memory = gives_value w.0 memory w
replies w (suc zero) (v ∷ args) memory = gives_nothing memory (w.0, v)
replies w which args memory = exits 1 memory w

-- the first registers are the same
abbrev pub SameFirst : ℕ × ℕ → ℕ × ℕ → Type 0
SameFirst v w = v.0 ≡ w.0

-- the replies don't depend on the second register
pub agree : RepliesAgree SameFirst replies replies
agree v w r zero args memory = (r, refl, r)
agree v w r (suc zero) [] memory = (refl, refl, r)
agree v w r (suc zero) (x ∷ args) memory = (refl, r)
agree v w r (suc (suc which)) args memory = (refl, refl, r)

-- no reply changes the first register
pub keep : (other : ℕ × ℕ) → RepliesKeep (SameFirst other) replies
keep other w r zero args memory = r
keep other w r (suc zero) [] memory = r
keep other w r (suc zero) (x ∷ args) memory = r
keep other w r (suc (suc which)) args memory = r

-- what the second register holds changes no run
abbrev pub SecondIsNotRead : Type 0
SecondIsNotRead =
    (types : List FuncType) (functions : List Callee) (store : Store) (main first one two : ℕ)
    → Mirrors SameFirst (over_host types functions replies) (over_host types functions replies)
    (start store (first, one) None main) (start store (first, two) None main)

-- no run changes the first register
abbrev pub FirstIsNotWritten : Type 0
FirstIsNotWritten =
    (types : List FuncType) (functions : List Callee) (store : Store) (w : ℕ × ℕ) (main : ℕ)
    → Kept (SameFirst w) (over_host types functions replies) (start store w None main)
