-- A book that is started over a keeper without rows that never fails.
use Rattle.std.proofs.Common.{◌≡◌, ◌≤◌, ℕ, Option, Some, Err, refl, arith}
use Rattle.vr_base.specs.Causes.{HasCauseOf, Rose}
use Rattle.vr_files.specs.FileMaps.{FileMap, no_files}
use Rattle.vr_core.specs.Opening.{ComesFromRows}
use Rattle.vr_core.specs.declared.opening.StartFault.{StartFault}
use Rattle.vr_core.specs.declared.opening.StartFault.TheVariants.{KeeperFailed, BadRow, OutOfMemory}
use Rattle.vr_core.proofs.OpeningLemmas.{no_rows}

-- only memory can be wanting
pub only_memory : {A : Type 0} (fault : StartFault) (before now : ℕ) (own : Option FileMap) → (fault ≡ OutOfMemory → ⊥) → before ≡ 0 → now ≡ 0 → own ≡ Some no_files
    → HasCauseOf {T = A} KeeperFailed before now (Err fault)
    → ((place : ℕ) → fault ≡ BadRow place → ComesFromRows own (Err (BadRow place))) → ⊥
only_memory KeeperFailed before now own apart first last empty cause rows =
    let rose : Rose before now = cause.failed refl in
    let more : Rose 0 0 = rw (first, last) at rose in
    let none : 1 ≤ 0 = more in
    omega (arith, none)
only_memory (BadRow place) before now own apart first last empty cause rows =
    let from = rows place refl in
    let told = rw empty at from.told in
    let none = no_rows from.rows told in
    let opened = rw none at from.given in
    cc (opened)
only_memory OutOfMemory before now own apart first last empty cause rows = apart refl
