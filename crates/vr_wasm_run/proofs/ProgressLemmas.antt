-- A step that went on or trapped was not stopped by the host.
use Rattle.std.proofs.Common.{ℕ, ◌≡◌, ◌≤◌, arith}
use Rattle.vr_wasm_run.specs.declared.progress.Progress.TheVariants.{Went, Over, Trapped, Stopped}

pub went_on : (cost : ℕ) → Went cost ≡ Stopped → ⊥
went_on cost e = cc

pub trapped_itself : (kind : ℕ) → Trapped kind ≡ Stopped → ⊥
trapped_itself kind e = cc

pub as_many : (n : ℕ) → n ≤ n
as_many n = omega arith

pub over_itself : Over ≡ Stopped → ⊥
over_itself e = cc
