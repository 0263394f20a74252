-- The answer of a run is the only one.
use Rattle.std.proofs.Common.{ℕ, ◌≡◌, ◌≤◌, ◌⊎◌, refl, ap, sym, ◌∙◌, inl, inr}
use Rattle.vr_wasm_steps.specs.Rows.{Program, Config}
use Rattle.vr_wasm_steps.specs.Runs.{Ends, StillRuns, Traps}
use Rattle.vr_wasm_run.specs.Answers.{Tells, IsExact}
use Rattle.vr_wasm_run.specs.declared.machine.End.{End}
use Rattle.vr_wasm_run.specs.declared.machine.End.TheVariants.{Ended, Trapped, OutOfFuel, HostStopped}
use Rattle.vr_wasm_run.proofs.RunLemmas.{one_end, one_trap, ends_or_traps}

module _ {W : Type 0} (p : Program W) (fuel : ℕ) (k : Config W) where
  ended_only : (e : End) (w : W) → Tells p fuel k e w → (code used : ℕ) (w' : W) → used ≤ fuel → Ends p used k code w' → (e ≡ HostStopped) ⊎ ((e ≡ Ended code used) × (w' ≡ w))
  ended_only (Ended c n) w t code used w' l x =
      let one : (n ≡ used) × (c ≡ code) × (w ≡ w') = one_end p k n used c code w w' t.1 x in
      inr (ap (λ z. Ended z n) one.1 ∙ ap (λ z. Ended code z) one.0, sym one.2)
  ended_only (Trapped kind n) w t code used w' l x = absurd (ends_or_traps p k used n code kind w' x t.1)
  ended_only OutOfFuel w t code used w' l x = absurd (t.no_end used code w' l x)
  ended_only HostStopped w t code used w' l x = inl refl

  trapped_only : (e : End) (w : W) → Tells p fuel k e w → (kind used : ℕ) → used ≤ fuel → Traps p used k kind → (e ≡ HostStopped) ⊎ (e ≡ Trapped kind used)
  trapped_only (Ended c n) w t kind used l x = absurd (ends_or_traps p k n used c kind w t.1 x)
  trapped_only (Trapped a n) w t kind used l x =
      let one : (n ≡ used) × (a ≡ kind) = one_trap p k n used a kind t.1 x in
      inr (ap (λ z. Trapped z n) one.1 ∙ ap (λ z. Trapped kind z) one.0)
  trapped_only OutOfFuel w t kind used l x = absurd (t.no_trap used kind l x)
  trapped_only HostStopped w t kind used l x = inl refl

  running_only : (e : End) (w : W) → Tells p fuel k e w → StillRuns p fuel k → (e ≡ HostStopped) ⊎ (e ≡ OutOfFuel)
  running_only (Ended c n) w t x = absurd (x.no_end n c w t.0 t.1)
  running_only (Trapped a n) w t x = absurd (x.no_trap n a t.0 t.1)
  running_only OutOfFuel w t x = inr refl
  running_only HostStopped w t x = inl refl

  pub exact : (e : End) (w : W) → Tells p fuel k e w → IsExact p fuel k e w
  exact e w t = record { ended = ended_only e w t; trapped = trapped_only e w t; running = running_only e w t }
