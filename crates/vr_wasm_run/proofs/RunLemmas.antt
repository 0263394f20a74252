-- Rows, one after the other: at most one way to go on, and so at most one end.
use Rattle.std.proofs.Common.{ℕ, zero, suc, ◌+◌, ◌≡◌, ◌≢◌, ◌≤◌, ◌<◌, refl, ap, sym, ◌∙◌, subst, arith}
use Rattle.vr_wasm_steps.specs.Rows.{Program, Config, Next, step, over, exits_with, traps, next}
use Rattle.vr_wasm_steps.specs.Runs.{Rows, Ends, at_end, by_exit, Traps, StillRuns}
use Rattle.vr_wasm_run.proofs.CostLemmas.{next_costs}

module _ {W : Type 0} where
  -- ---- what comes next is one thing

  one_cost : (n n' : ℕ) (k k' : Config W) → step n k ≡ step n' k' → n ≡ n'
  one_cost n n' k k' e = cc

  one_place : (n n' : ℕ) (k k' : Config W) → step n k ≡ step n' k' → k ≡ k'
  one_place n n' k k' e = cc

  one_code : (c c' : ℕ) (w w' : W) → exits_with c w ≡ exits_with c' w' → c ≡ c'
  one_code c c' w w' e = cc

  one_world : (c c' : ℕ) (w w' : W) → exits_with c w ≡ exits_with c' w' → w ≡ w'
  one_world c c' w w' e = cc

  one_kind : (t t' : ℕ) → ◌≡◌ {A = Next W} (traps t) (traps t') → t ≡ t'
  one_kind t t' e = cc

  over_step : (n : ℕ) (k : Config W) → over ≡ step n k → ⊥
  over_step n k e = cc

  exit_step : (c : ℕ) (w : W) (n : ℕ) (k : Config W) → exits_with c w ≡ step n k → ⊥
  exit_step c w n k e = cc

  trap_step : (t n : ℕ) (k : Config W) → traps t ≡ step n k → ⊥
  trap_step t n k e = cc

  over_exit : (c : ℕ) (w : W) → over ≡ exits_with c w → ⊥
  over_exit c w e = cc

  pub over_trap : (t : ℕ) → ◌≡◌ {A = Next W} over (traps t) → ⊥
  over_trap t e = cc

  exit_trap : (c : ℕ) (w : W) (t : ℕ) → exits_with c w ≡ traps t → ⊥
  exit_trap c w t e = cc

  module _ (p : Program W) where
    -- ---- rows

    pub rows_none : (k : Config W) → Rows p 0 0 k k
    unfolding Rows
    rows_none k = (refl, refl)

    pub rows_more : (r n cost : ℕ) (k k' k'' : Config W) → Rows p r n k k' → next p k' ≡ step cost k'' → Rows p (suc r) (n + cost) k k''
    unfolding Rows
    rows_more zero n cost k k' k'' rows q = (cost, 0, k'', omega (arith, rows.0), subst (λ x. next p x ≡ step cost k'') (sym rows.1) q, (refl, refl))
    rows_more (suc r) n cost k k' k'' rows q = (rows.0, rows.1 + cost, rows.2, omega (arith, rows.3), rows.4, rows_more r rows.1 cost rows.2 k' k'' rows.5 q)

    -- nothing comes after this one
    Halts : Config W → Type 0
    Halts k = (n : ℕ) (k' : Config W) → next p k ≡ step n k' → ⊥

    -- two runs that halt are one
    meet : (r r' n n' : ℕ) (k a b : Config W) → Halts a → Halts b → Rows p r n k a → Rows p r' n' k b → (n ≡ n') × (a ≡ b)
    unfolding Rows Halts
    meet zero zero n n' k a b f g s t = (s.0 ∙ sym t.0, sym s.1 ∙ t.1)
    meet zero (suc r') n n' k a b f g s t = absurd (f t.0 t.2 (subst (λ x. next p x ≡ step t.0 t.2) s.1 t.4))
    meet (suc r) zero n n' k a b f g s t = absurd (g s.0 s.2 (subst (λ x. next p x ≡ step s.0 s.2) t.1 s.4))
    meet (suc r) (suc r') n n' k a b f g s t =
        let cost : s.0 ≡ t.0 = one_cost s.0 t.0 s.2 t.2 (sym s.4 ∙ t.4) in
        let place : s.2 ≡ t.2 = one_place s.0 t.0 s.2 t.2 (sym s.4 ∙ t.4) in
        let more : (s.1 ≡ t.1) × (a ≡ b) = meet r r' s.1 t.1 t.2 a b f g (subst (λ x. Rows p r s.1 x a) place s.5) t.5 in
        (omega (arith, s.3, t.3, cost, more.0), more.1)

    halts_over : (k : Config W) → next p k ≡ over → Halts k
    unfolding Halts
    halts_over k e n k' q = over_step n k' (sym e ∙ q)

    halts_exit : (k : Config W) (c : ℕ) (w : W) → next p k ≡ exits_with c w → Halts k
    unfolding Halts
    halts_exit k c w e n k' q = exit_step c w n k' (sym e ∙ q)

    halts_trap : (k : Config W) (t : ℕ) → next p k ≡ traps t → Halts k
    unfolding Halts
    halts_trap k t e n k' q = trap_step t n k' (sym e ∙ q)

    -- ---- at most one end

    both : (a b : Config W) (x y : Next W) → a ≡ b → next p a ≡ x → next p b ≡ y → x ≡ y
    both a b x y e f g = sym f ∙ ap (next p) e ∙ g

    -- it ends in one number of steps, with one code and in one world
    pub one_end : (k : Config W) (n n' c c' : ℕ) (w w' : W) → Ends p n k c w → Ends p n' k c' w' → (n ≡ n') × (c ≡ c') × (w ≡ w')
    one_end k n n' c c' w w' (at_end r a s e z q) (at_end r' b s' e' z' q') =
        let one : (n ≡ n') × (a ≡ b) = meet r r' n n' k a b (halts_over a e) (halts_over b e') s s' in
        (one.0, z ∙ sym z', q ∙ ap (λ (x : Config W). x.world) one.1 ∙ sym q')
    one_end k n n' c c' w w' (at_end r a s e z q) (by_exit r' m' b t' s' e') =
        let one : (n ≡ m') × (a ≡ b) = meet r r' n m' k a b (halts_over a e) (halts_exit b c' w' e') s s' in
        absurd (over_exit c' w' (both a b over (exits_with c' w') one.1 e e'))
    one_end k n n' c c' w w' (by_exit r m a t s e) (at_end r' b s' e' z' q') =
        let one : (m ≡ n') × (a ≡ b) = meet r r' m n' k a b (halts_exit a c w e) (halts_over b e') s s' in
        absurd (over_exit c w (sym (both a b (exits_with c w) over one.1 e e')))
    one_end k n n' c c' w w' (by_exit r m a t s e) (by_exit r' m' b t' s' e') =
        let one : (m ≡ m') × (a ≡ b) = meet r r' m m' k a b (halts_exit a c w e) (halts_exit b c' w' e') s s' in
        let same : exits_with c w ≡ exits_with c' w' = both a b (exits_with c w) (exits_with c' w') one.1 e e' in
        (t ∙ ap (λ x. x + 1) one.0 ∙ sym t', one_code c c' w w' same, one_world c c' w w' same)

    -- it traps in one number of steps, with one kind
    pub one_trap : (k : Config W) (n n' t t' : ℕ) → Traps p n k t → Traps p n' k t' → (n ≡ n') × (t ≡ t')
    one_trap k n n' t t' x y =
        let one : (x.before ≡ y.before) × (x.last ≡ y.last) = meet x.rows y.rows x.before y.before k x.last y.last (halts_trap x.last t x.trap) (halts_trap y.last t' y.trap) x.reached y.reached in
        (x.count ∙ ap (λ m. m + 1) one.0 ∙ sym y.count, one_kind t t' (both x.last y.last (traps t) (traps t') one.1 x.trap y.trap))

    -- it doesn't both end and trap
    pub ends_or_traps : (k : Config W) (n n' c t : ℕ) (w : W) → Ends p n k c w → Traps p n' k t → ⊥
    ends_or_traps k n n' c t w (at_end r a s e z q) y =
        over_trap t (both a y.last over (traps t) (meet r y.rows n y.before k a y.last (halts_over a e) (halts_trap y.last t y.trap) s y.reached).1 e y.trap)
    ends_or_traps k n n' c t w (by_exit r m a u s e) y =
        exit_trap c w t (both a y.last (exits_with c w) (traps t) (meet r y.rows m y.before k a y.last (halts_exit a c w e) (halts_trap y.last t y.trap) s y.reached).1 e y.trap)

    -- ---- it still runs

    record Later (k' : Config W) (cost m : ℕ) (P : ℕ → Type 0) : Type 0 where
      rest : ℕ
      count : m ≡ cost + rest
      then : P rest

    ends_after : (k k' : Config W) (cost m c : ℕ) (w : W) → next p k ≡ step cost k' → Ends p m k c w → Later k' cost m (λ rest. Ends p rest k' c w)
    unfolding Rows
    ends_after k k' cost m c w e (at_end zero a s o z q) = absurd (over_step cost k' (sym o ∙ subst (λ x. next p x ≡ step cost k') s.1 e))
    ends_after k k' cost m c w e (at_end (suc r) a s o z q) =
        let same : s.0 ≡ cost = one_cost s.0 cost s.2 k' (sym s.4 ∙ e) in
        record { rest = s.1; count = omega (arith, s.3, same); then = at_end r a (subst (λ x. Rows p r s.1 x a) (one_place s.0 cost s.2 k' (sym s.4 ∙ e)) s.5) o z q }
    ends_after k k' cost m c w e (by_exit zero b a t s o) = absurd (exit_step c w cost k' (sym o ∙ subst (λ x. next p x ≡ step cost k') s.1 e))
    ends_after k k' cost m c w e (by_exit (suc r) b a t s o) =
        let same : s.0 ≡ cost = one_cost s.0 cost s.2 k' (sym s.4 ∙ e) in
        record { rest = s.1 + 1; count = omega (arith, s.3, same, t); then = by_exit r s.1 a refl (subst (λ x. Rows p r s.1 x a) (one_place s.0 cost s.2 k' (sym s.4 ∙ e)) s.5) o }

    traps_in : (r : ℕ) (k k' a : Config W) (cost m before t : ℕ) → next p k ≡ step cost k' → m ≡ before + 1 → Rows p r before k a → next p a ≡ traps t → Later k' cost m (λ rest. Traps p rest k' t)
    unfolding Rows
    traps_in zero k k' a cost m before t e u s o = absurd (trap_step t cost k' (sym o ∙ subst (λ x. next p x ≡ step cost k') s.1 e))
    traps_in (suc r) k k' a cost m before t e u s o =
        let same : s.0 ≡ cost = one_cost s.0 cost s.2 k' (sym s.4 ∙ e) in
        record {
          rest = s.1 + 1;
          count = omega (arith, s.3, same, u);
          then = record { rows = r; before = s.1; last = a; count = refl; reached = subst (λ x. Rows p r s.1 x a) (one_place s.0 cost s.2 k' (sym s.4 ∙ e)) s.5; trap = o };
        }

    traps_after : (k k' : Config W) (cost m t : ℕ) → next p k ≡ step cost k' → Traps p m k t → Later k' cost m (λ rest. Traps p rest k' t)
    traps_after k k' cost m t e x = traps_in x.rows k k' x.last cost m x.before t e x.count x.reached x.trap

    still_after : (k k' : Config W) (cost n : ℕ) → next p k ≡ step cost k' → StillRuns p n k' → StillRuns p (cost + n) k
    still_after k k' cost n e s = record {
      no_end = λ m c w few x. let later : Later k' cost m (λ rest. Ends p rest k' c w) = ends_after k k' cost m c w e x in s.no_end later.rest c w (omega (arith, later.count, few)) later.then;
      no_trap = λ m t few x. let later : Later k' cost m (λ rest. Traps p rest k' t) = traps_after k k' cost m t e x in s.no_trap later.rest t (omega (arith, later.count, few)) later.then;
    }

    -- as many steps more after some rows
    pub still_rows : (r used n : ℕ) (k k' : Config W) → Rows p r used k k' → StillRuns p n k' → StillRuns p (used + n) k
    unfolding Rows
    still_rows zero used n k k' rows s = subst (λ x. StillRuns p (used + n) x) (sym rows.1) (subst (λ x. StillRuns p x k') (omega (arith, rows.0)) s)
    still_rows (suc r) used n k k' rows s =
        subst (λ x. StillRuns p x k) (omega (arith, rows.3)) (still_after k rows.2 rows.0 (rows.1 + n) rows.4 (still_rows r rows.1 n rows.2 k' rows.5 s))

    -- the next row costs more
    pub still_before : (k k' : Config W) (cost n : ℕ) → next p k ≡ step cost k' → n < cost → StillRuns p n k
    still_before k k' cost n e few = record {
      no_end = λ m c w l x. let later : Later k' cost m (λ rest. Ends p rest k' c w) = ends_after k k' cost m c w e x in omega (arith, later.count, few, l);
      no_trap = λ m t l x. let later : Later k' cost m (λ rest. Traps p rest k' t) = traps_after k k' cost m t e x in omega (arith, later.count, few, l);
    }

    no_end_now : (k : Config W) (m c : ℕ) (w : W) → next p k ≢ over → m ≤ 0 → Ends p m k c w → ⊥
    unfolding Rows
    no_end_now k m c w on l (at_end zero a s o z q) = on (subst (λ x. next p x ≡ over) (sym s.1) o)
    no_end_now k m c w on l (at_end (suc r) a s o z q) = let cost : 1 ≤ s.0 = next_costs p k s.0 s.2 s.4 in omega (arith, cost, s.3, l)
    no_end_now k m c w on l (by_exit r b a t s o) = omega (arith, t, l)

    -- it is not over
    pub still_now : (k : Config W) → next p k ≢ over → StillRuns p 0 k
    still_now k on = record {
      no_end = λ m c w l x. no_end_now k m c w on l x;
      no_trap = λ m t l x. omega (arith, x.count, l);
    }

    -- ---- the same comes next

    -- rows lead to a place where the same comes next as at the other configuration
    pub record Onward (n : ℕ) (k k' : Config W) : Type 0 where
      pub rows : ℕ
      pub last : Config W
      pub reached : Rows p rows n k last
      pub same : next p last ≡ next p k'
      pub world : last.world ≡ k'.world

    pub onward : (r n : ℕ) (k k' : Config W) → Rows p r n k k' → Onward n k k'
    onward r n k k' rows = record { rows = r; last = k'; reached = rows; same = refl; world = refl }

    -- and on from there
    pub onward_more : (r n n' : ℕ) (k k' k'' : Config W) → Onward n k k' → Rows p r n' k' k'' → Onward (n + n') k k''
    unfolding Rows
    onward_more zero n n' k k' k'' o rows = record {
      rows = o.rows;
      last = o.last;
      reached = subst (λ x. Rows p o.rows x k o.last) (omega (arith, rows.0)) o.reached;
      same = o.same ∙ ap (next p) rows.1;
      world = o.world ∙ ap (λ (x : Config W). x.world) rows.1;
    }
    onward_more (suc r) n n' k k' k'' o rows =
        subst (λ x. Onward x k k'') (omega (arith, rows.3))
        (onward_more r (n + rows.0) rows.1 k rows.2 k'' (onward (suc o.rows) (n + rows.0) k rows.2 (rows_more o.rows n rows.0 k o.last rows.2 o.reached (o.same ∙ rows.4))) rows.5)

    module _ (a b : Config W) (same : next p a ≡ next p b) (world : a.world ≡ b.world) where
      along : (r n : ℕ) (k : Config W) → Rows p r n a k → Onward n b k
      along r n k rows =
          subst (λ x. Onward x b k) (omega arith)
          (onward_more r 0 n b a k (record { rows = 0; last = b; reached = rows_none b; same = sym same; world = sym world }) rows)

      ends_as : (m c : ℕ) (w : W) → Ends p m a c w → Ends p m b c w
      ends_as m c w (at_end r last rows o z q) = let t : Onward m b last = along r m last rows in at_end t.rows t.last t.reached (t.same ∙ o) z (q ∙ sym t.world)
      ends_as m c w (by_exit r before last t rows o) = let u : Onward before b last = along r before last rows in by_exit u.rows before u.last t u.reached (u.same ∙ o)

      traps_as : (m t : ℕ) → Traps p m a t → Traps p m b t
      traps_as m t x =
          let u : Onward x.before b x.last = along x.rows x.before x.last x.reached in
          record { rows = u.rows; before = x.before; last = u.last; count = x.count; reached = u.reached; trap = u.same ∙ x.trap }

      still_as : (n : ℕ) → StillRuns p n b → StillRuns p n a
      still_as n s = record {
        no_end = λ m c w few x. s.no_end m c w few (ends_as m c w x);
        no_trap = λ m t few x. s.no_trap m t few (traps_as m t x);
      }

    pub still_onward : (used n : ℕ) (k k' : Config W) → Onward used k k' → StillRuns p n k' → StillRuns p (used + n) k
    still_onward used n k k' o s = still_rows o.rows used n k o.last o.reached (still_as o.last k' o.same o.world n s)
