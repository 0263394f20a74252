-- What a loop over the steps of a running program keeps, and what its end says.
use Rattle.std.proofs.Common.{ℕ, suc, ◌+◌, ◌-◌, ◌≡◌, ◌≢◌, ◌≤◌, ◌<◌, List, length, Option, Some, None, refl, ap, sym, ◌∙◌, subst, arith}
use Rattle.vr_wasm_ast.specs.declared.tree.FuncType.{FuncType}
use Rattle.vr_wasm_num.specs.Memory.{Contents}
use Rattle.vr_wasm_steps.specs.Hosts.{Reply}
use Rattle.vr_wasm_steps.specs.Rows.{Program, over, exits_with, next}
use Rattle.vr_wasm_steps.specs.Runs.{Rows, Ends, at_end, by_exit, Traps, StillRuns, NeverLost}
use Rattle.vr_wasm_run.specs.Calls.{AreCallable}
use Rattle.vr_wasm_run.specs.Machines.{program_of, config, waiting, IsLive, Steps, Enters}
use Rattle.vr_wasm_run.specs.Stretches.{Leads}
use Rattle.vr_wasm_run.specs.declared.progress.Progress.TheVariants.{Went, Over, Exited, Trapped}
use Rattle.vr_wasm_run.specs.declared.running.Running.{Running}
use Rattle.vr_wasm_run.proofs.RunLemmas.{rows_none, rows_more, still_rows, still_before, still_now, still_onward, Onward, onward, onward_more}

-- at most two functions are called from outside
pub few_waiting : (first main : Option ℕ) → length (waiting first main) ≤ 2
few_waiting None None = omega arith
few_waiting None (Some m) = omega arith
few_waiting (Some f) None = omega arith
few_waiting (Some f) (Some m) = omega arith

module _ {H W : Type 0} (world : H → W) (stops : H → ℕ) (reply : W → ℕ → List ℕ → Contents → Reply W) where
  -- so much of the fuel is left at this place
  pub record Reached (from now : Running H) (fuel left : ℕ) : Type 0 where
    pub used : ℕ
    pub count : used + left ≡ fuel
    pub onward : Onward (program_of reply from) used (config world from) (config world now)
    pub program : program_of reply now ≡ program_of reply from
    pub counted : stops from.host ≤ stops now.host

  module _ (from : Running H) (fuel : ℕ) where
    pub reached_first : Reached from from fuel fuel
    reached_first = record {
      used = 0;
      count = omega arith;
      onward = onward (program_of reply from) 0 0 (config world from) (config world from) (rows_none (program_of reply from) (config world from));
      program = refl;
      counted = omega arith;
    }

    module _ (now : Running H) (left : ℕ) (r : Reached from now fuel left) where
      as_from : next (program_of reply from) (config world now) ≡ next (program_of reply now) (config world now)
      as_from = ap (λ p. next p (config world now)) (sym r.program)

      same : next (program_of reply from) r.onward.last ≡ next (program_of reply now) (config world now)
      same = r.onward.same ∙ as_from

      spent : Rows (program_of reply from) r.onward.rows (fuel - left) (config world from) r.onward.last
      spent = subst (λ n. Rows (program_of reply from) r.onward.rows n (config world from) r.onward.last) (omega (arith, r.count)) r.onward.reached

      pub reached_live : (finds : List ℕ → List ℕ → FuncType → Option ℕ) → AreCallable finds (program_of reply from).functions
          → NeverLost (program_of reply from) (config world from) → IsLive finds world reply now
      reached_live finds can never = record {
        callable = subst (λ (p : Program W). AreCallable finds p.functions) (sym r.program) can;
        live = λ e. never r.onward.rows r.used r.onward.last r.onward.reached (same ∙ e);
      }

      pub reached_never : NeverLost (program_of reply from) (config world from) → NeverLost (program_of reply now) (config world now)
      reached_never never = λ rows n last reached e.
          let o : Onward (program_of reply from) (r.used + n) (config world from) last =
          onward_more (program_of reply from) rows r.used n (config world from) (config world now) last r.onward (subst (λ (p : Program W). Rows p rows n (config world now) last) r.program reached)
          in
          never o.rows (r.used + n) o.last o.reached (o.same ∙ ap (λ p. next p last) (sym r.program) ∙ e)

      -- ---- on by a row, by an entrance and by a straight run

      pub reached_more : (now' : Running H) (cost : ℕ) → Steps world stops reply now (Went cost) now' → cost ≤ left → Reached from now' fuel (left - cost)
      reached_more now' cost s few = record {
        used = r.used + cost;
        count = omega (arith, r.count);
        onward =
            onward (program_of reply from) (suc r.onward.rows) (r.used + cost) (config world from) (config world now')
            (rows_more (program_of reply from) r.onward.rows r.used cost (config world from) r.onward.last (config world now') r.onward.reached (same ∙ s.row));
        program = s.program ∙ r.program;
        counted = omega (arith, r.counted, s.counted);
      }

      pub reached_entered : (now' : Running H) → Enters world reply now now' → Reached from now' fuel left
      reached_entered now' e = record {
        used = r.used;
        count = r.count;
        onward = record {
          rows = r.onward.rows;
          last = r.onward.last;
          reached = r.onward.reached;
          same = same ∙ sym e.same ∙ ap (λ p. next p (config world now')) (e.program ∙ r.program);
          world = r.onward.world ∙ ap world (sym e.host);
        };
        program = e.program ∙ r.program;
        counted = subst (λ (h : H). stops from.host ≤ stops h) (sym e.host) r.counted;
      }

      pub reached_straight : (now' : Running H) (after : ℕ) → Leads (program_of reply now) left (config world now) after (config world now')
          → now' ≡ record now { state = now'.state } → Reached from now' fuel after
      reached_straight now' after l others = record {
        used = r.used + l.used;
        count = omega (arith, r.count, l.count);
        onward =
            onward_more (program_of reply from) l.rows r.used l.used (config world from) (config world now) (config world now') r.onward
            (subst (λ (p : Program W). Rows p l.rows l.used (config world now) (config world now')) r.program l.reached);
        program = ap (program_of reply) others ∙ r.program;
        counted = subst (λ (h : H). stops from.host ≤ stops h) (sym (ap (λ (m : Running H). m.host) others)) r.counted;
      }

      -- ---- ends

      pub tells_short : (now' : Running H) (cost : ℕ) → Steps world stops reply now (Went cost) now' → left < cost → StillRuns (program_of reply from) fuel (config world from)
      tells_short now' cost s few =
          subst (λ n. StillRuns (program_of reply from) n (config world from)) r.count
          (still_rows (program_of reply from) r.onward.rows r.used left (config world from) r.onward.last r.onward.reached (still_before (program_of reply from) r.onward.last (config world now') cost left (same ∙ s.row) few))

      pub tells_over : (now' : Running H) (h : H) → Steps world stops reply now Over now' → h ≡ now'.host → Ends (program_of reply from) (fuel - left) (config world from) 0 (world h)
      tells_over now' h s e = at_end r.onward.rows r.onward.last spent (same ∙ s.row.0) refl (ap world e ∙ s.row.1 ∙ sym r.onward.world)

      pub tells_exit : (now' : Running H) (code : ℕ) (h : H) → Steps world stops reply now (Exited code) now' → h ≡ now'.host → Ends (program_of reply from) (fuel - left + 1) (config world from) code (world h)
      tells_exit now' code h s e = by_exit r.onward.rows (fuel - left) r.onward.last refl spent (same ∙ s.row ∙ ap (λ x. exits_with code (world x)) (sym e))

      pub tells_trap : (now' : Running H) (kind : ℕ) → Steps world stops reply now (Trapped kind) now' → Traps (program_of reply from) (fuel - left + 1) (config world from) kind
      tells_trap now' kind s = record { rows = r.onward.rows; before = fuel - left; last = r.onward.last; count = refl; reached = spent; trap = same ∙ s.row }

      pub tells_end : (h : H) → left ≤ 0 → h ≡ now.host → next (program_of reply now) (config world now) ≡ over → Ends (program_of reply from) fuel (config world from) 0 (world h)
      tells_end h none e q =
          at_end r.onward.rows r.onward.last (subst (λ n. Rows (program_of reply from) r.onward.rows n (config world from) r.onward.last) (omega (arith, r.count)) r.onward.reached)
          (same ∙ q) refl (ap world e ∙ sym r.onward.world)

      pub tells_still : left ≤ 0 → next (program_of reply now) (config world now) ≢ over → StillRuns (program_of reply from) fuel (config world from)
      tells_still none on =
          subst (λ n. StillRuns (program_of reply from) n (config world from)) (omega (arith, r.count))
          (still_rows (program_of reply from) r.onward.rows r.used 0 (config world from) r.onward.last r.onward.reached (still_now (program_of reply from) r.onward.last (λ q. on (sym same ∙ q))))

      -- in a straight run
      pub tells_trap_within : (kind after : ℕ) → after ≤ left → Traps (program_of reply now) (left - after + 1) (config world now) kind
          → Traps (program_of reply from) (fuel - after + 1) (config world from) kind
      tells_trap_within kind after few t =
          let o : Onward (program_of reply from) (r.used + t.before) (config world from) t.last =
          onward_more (program_of reply from) t.rows r.used t.before (config world from) (config world now) t.last r.onward
          (subst (λ (p : Program W). Rows p t.rows t.before (config world now) t.last) r.program t.reached)
          in
          record {
            rows = o.rows;
            before = r.used + t.before;
            last = o.last;
            count = omega (arith, t.count, r.count, few);
            reached = o.reached;
            trap = o.same ∙ ap (λ p. next p t.last) (sym r.program) ∙ t.trap;
          }

      pub tells_short_within : StillRuns (program_of reply now) left (config world now) → StillRuns (program_of reply from) fuel (config world from)
      tells_short_within s =
          subst (λ n. StillRuns (program_of reply from) n (config world from)) r.count
          (still_onward (program_of reply from) r.used left (config world from) (config world now) r.onward (subst (λ (p : Program W). StillRuns p left (config world now)) r.program s))
