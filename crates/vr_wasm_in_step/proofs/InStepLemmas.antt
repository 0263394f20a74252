-- Configurations that begin in step stay in step.
use Rattle.std.proofs.Common.{ℕ, zero, suc, ◌+◌, ◌≡◌, refl, sym, ap, ◌∙◌, subst, List, [], ◌∷◌, length, take, drop, reverse, Bool, true, false, if◌then◌else◌, ◌==◌, nat_lt, nat_le, Option, None, Some}
use Rattle.std.specs.Prelude.{slice_get}
use Rattle.vr_wasm_ast.specs.declared.tree.FuncType.{FuncType}
use Rattle.vr_wasm_ast.specs.declared.tree.ValType.{ValType}
use Rattle.vr_wasm_ast.specs.Instructions.{Instruction, Instructions, done, then as then_, block, loop, if_, br, br_if, br_table, return_, call, call_indirect}
use Rattle.vr_wasm_num.specs.Memory.{Contents}
use Rattle.vr_wasm_steps.specs.declared.limits.TheConstants.{MAX_FRAMES, MAX_SLOTS, MAX_LABELS}
use Rattle.vr_wasm_steps.specs.Effects.{Effect, leaves, trapped, stuck, effect}
use Rattle.vr_wasm_steps.specs.Hosts.{Reply, gives_value, gives_nothing, exits}
use Rattle.vr_wasm_steps.specs.Store.{Store, are_of}
use Rattle.vr_wasm_steps.specs.Terms.{Term, end, value, plain, label, frame, plains, frames, slots, labels}
use Rattle.vr_wasm_steps.specs.Rows.{Program, Config, Callee, own, outside, type_of, same_sort, Outcome, stepped, finished, branching, returning, exited, traps_with, no_row, settles, arity, enters, takes_along, in_label, in_frame, replied, calls_own, calls_outside, called, called_as, called_by, row, walk, entry, Next, step, over, exits_with, traps, lost, next_of, next}
use Rattle.vr_wasm_steps.specs.Runs.{Rows, Ends, at_end, by_exit, Traps, NeverLost}
use Rattle.vr_wasm_in_step.specs.InStep.{SameReply, Replies, RepliesAgree, over_host, InStep, NextInStep, both_step, both_over, both_exit, both_trap, both_lost, Mirrors, turned, StayInStep}

-- ---- one row

-- the same outcome but for its world
data Alike {V W : Type 0} (R : V → W → Type 0) : Outcome V → Outcome W → Type 0 where
  steps : {cost : ℕ} {m : Store} {v : V} {w : W} {ls : List ℕ} {s : Term} → R v w → Alike R (stepped cost m v ls s) (stepped cost m w ls s)
  finishes : {vs : List ℕ} → Alike R (finished vs) (finished vs)
  branches : {l : ℕ} {vs : List ℕ} → Alike R (branching l vs) (branching l vs)
  returns : {vs : List ℕ} → Alike R (returning vs) (returning vs)
  leaves_off : {code : ℕ} {v : V} {w : W} → R v w → Alike R (exited code v) (exited code w)
  fails : {kind : ℕ} → Alike R (traps_with kind) (traps_with kind)
  none : Alike R no_row no_row

alike_if : {V W : Type 0} {R : V → W → Type 0} (b : Bool) {x y : Outcome V} {x' y' : Outcome W} → Alike R x x' → Alike R y y' → Alike R (if b then x else y) (if b then x' else y')
alike_if true p q = p
alike_if false p q = q

-- the same configuration in another world
abbrev twin : {V W : Type 0} → Config V → W → Config W
twin k w = record { store = k.store; world = w; term = k.term; calls = k.calls }

-- two configurations that differ in the world alone, of a sequence in the module's functions
module _ {V W : Type 0} (R : V → W → Type 0) (types : List FuncType) (functions : List Callee) (here : Replies V) (there : Replies W) (agree : RepliesAgree R here there) where
  abbrev p : Program V
  p = over_host types functions here

  abbrev q : Program W
  q = over_host types functions there

  module _ (k : Config V) (w : W) (r : R k.world w) where
    along : (ls : List ℕ) (n : ℕ) (operands vs : List ℕ) (s : Term) → Alike R (takes_along k ls n operands vs s) (takes_along (twin k w) ls n operands vs s)
    along ls n operands vs s = alike_if (nat_le n (length operands)) (steps r) none

    label_alike : (ls vs : List ℕ) (n : ℕ) (more : Instructions) (s : Term) {o : Outcome V} {o' : Outcome W} → Alike R o o' → Alike R (in_label k ls vs n more s o) (in_label (twin k w) ls vs n more s o')
    label_alike ls vs n more s (steps x) = steps x
    label_alike ls vs n more s finishes = steps r
    label_alike ls vs n more s (branches {l = zero} {vs = operands}) = along ls n operands vs (plains more s)
    label_alike ls vs n more s (branches {l = suc l}) = branches
    label_alike ls vs n more s returns = returns
    label_alike ls vs n more s (leaves_off x) = leaves_off x
    label_alike ls vs n more s fails = fails
    label_alike ls vs n more s none = none

    frame_alike : (ls vs : List ℕ) (n : ℕ) (s : Term) {o : Outcome V} {o' : Outcome W} → Alike R o o' → Alike R (in_frame k ls vs n s o) (in_frame (twin k w) ls vs n s o')
    frame_alike ls vs n s (steps x) = steps x
    frame_alike ls vs n s (finishes {vs = operands}) = alike_if (length operands == n) (steps r) none
    frame_alike ls vs n s (branches {l = zero} {vs = operands}) = along ls n operands vs s
    frame_alike ls vs n s (branches {l = suc l}) = none
    frame_alike ls vs n s (returns {vs = operands}) = along ls n operands vs s
    frame_alike ls vs n s (leaves_off x) = leaves_off x
    frame_alike ls vs n s fails = fails
    frame_alike ls vs n s none = none

    settle_alike : (vs : List ℕ) (s : Term) (e : Effect) → Alike R (settles k vs s e) (settles (twin k w) vs s e)
    settle_alike vs s (leaves cost m ls after) = alike_if (nat_le (slots k.term + length after) (MAX_SLOTS + length vs)) (steps r) fails
    settle_alike vs s (trapped kind) = fails
    settle_alike vs s stuck = none

    enter_alike : (ls vs : List ℕ) (n : ℕ) (more body : Instructions) (s : Term) → Alike R (enters k ls vs n more body s) (enters (twin k w) ls vs n more body s)
    enter_alike ls vs n more body s = alike_if (nat_lt (labels k.term) MAX_LABELS) (steps r) fails

    value_alike : (ls vs : List ℕ) (results : List ValType) (s : Term) (x : ℕ) (m : Contents) (v' : V) (w' : W) → R v' w' → Alike R (replied k ls vs results s (gives_value x m v')) (replied (twin k w) ls vs results s (gives_value x m w'))
    value_alike ls vs [] s x m v' w' z = none
    value_alike ls vs (t ∷ []) s x m v' w' z = steps z
    value_alike ls vs (t ∷ u ∷ ts) s x m v' w' z = none

    nothing_alike : (ls vs : List ℕ) (results : List ValType) (s : Term) (m : Contents) (v' : V) (w' : W) → R v' w' → Alike R (replied k ls vs results s (gives_nothing m v')) (replied (twin k w) ls vs results s (gives_nothing m w'))
    nothing_alike ls vs [] s m v' w' z = steps z
    nothing_alike ls vs (t ∷ []) s m v' w' z = none
    nothing_alike ls vs (t ∷ u ∷ ts) s m v' w' z = none

    exit_alike : (ls vs : List ℕ) (results : List ValType) (s : Term) (code : ℕ) (m n : Contents) (v' : V) (w' : W) → R v' w' → Alike R (replied k ls vs results s (exits code m v')) (replied (twin k w) ls vs results s (exits code n w'))
    exit_alike ls vs [] s code m n v' w' z = leaves_off z
    exit_alike ls vs (t ∷ []) s code m n v' w' z = leaves_off z
    exit_alike ls vs (t ∷ u ∷ ts) s code m n v' w' z = leaves_off z

    -- the one row that looks at the world
    reply_alike : (ls vs : List ℕ) (results : List ValType) (s : Term) (a : Reply V) (b : Reply W) → SameReply R a b → Alike R (replied k ls vs results s a) (replied (twin k w) ls vs results s b)
    reply_alike ls vs results s (gives_value x m v') (gives_value y n w') (e, f, z) =
        subst (λ i. Alike R (replied k ls vs results s (gives_value x m v')) (replied (twin k w) ls vs results s (gives_value i n w'))) e
        (subst (λ i. Alike R (replied k ls vs results s (gives_value x m v')) (replied (twin k w) ls vs results s (gives_value x i w'))) f
        (value_alike ls vs results s x m v' w' z))
    reply_alike ls vs results s (gives_nothing m v') (gives_nothing n w') (f, z) =
        subst (λ i. Alike R (replied k ls vs results s (gives_nothing m v')) (replied (twin k w) ls vs results s (gives_nothing i w'))) f
        (nothing_alike ls vs results s m v' w' z)
    reply_alike ls vs results s (exits c m v') (exits d n w') (e, f, z) =
        subst (λ i. Alike R (replied k ls vs results s (exits c m v')) (replied (twin k w) ls vs results s (exits i n w'))) e
        (exit_alike ls vs results s c m n v' w' z)
    reply_alike ls vs results s a b x = absurd x

    own_alike : (ls : List ℕ) (before : ℕ) (vs : List ℕ) (sort : FuncType) (locals : ℕ) (body : Instructions) (s : Term) → Alike R (calls_own k ls before vs sort locals body s) (calls_own (twin k w) ls before vs sort locals body s)
    own_alike ls before vs sort locals body s =
        alike_if (nat_lt (frames k.term) MAX_FRAMES)
        (alike_if (nat_le (slots k.term + length vs + locals) (MAX_SLOTS + before))
        (alike_if (nat_lt (labels k.term) MAX_LABELS) (steps r) fails) fails) fails

    outside_alike : (ls : List ℕ) (before : ℕ) (vs : List ℕ) (sort : FuncType) (which : ℕ) (s : Term) → Alike R (calls_outside p k ls before vs sort which s) (calls_outside q (twin k w) ls before vs sort which s)
    outside_alike ls before vs sort which s =
        let args : List ℕ = reverse (take (length sort.params) vs) in
        alike_if (nat_lt (frames k.term) MAX_FRAMES)
        (alike_if (nat_le (slots k.term + length vs + length sort.results) (MAX_SLOTS + before + length sort.params))
        (alike_if (are_of sort.params args)
        (reply_alike ls (drop (length sort.params) vs) sort.results s _ _ (agree k.world w r which args k.store.memory)) none) fails) fails

    call_alike : (ls : List ℕ) (before : ℕ) (vs : List ℕ) (s : Term) (f : Option Callee) → Alike R (called p k ls before vs s f) (called q (twin k w) ls before vs s f)
    call_alike ls before vs s None = none
    call_alike ls before vs s (Some (own sort locals body)) = alike_if (nat_le (length sort.params) (length vs)) (own_alike ls before vs sort locals body s) none
    call_alike ls before vs s (Some (outside sort which)) = alike_if (nat_le (length sort.params) (length vs)) (outside_alike ls before vs sort which s) none

    as_alike : (ls : List ℕ) (before : ℕ) (vs : List ℕ) (s : Term) (sort : Option FuncType) (f : Option Callee) → Alike R (called_as p k ls before vs s sort f) (called_as q (twin k w) ls before vs s sort f)
    as_alike ls before vs s None f = none
    as_alike ls before vs s (Some sort) None = none
    as_alike ls before vs s (Some sort) (Some f) = alike_if (same_sort (type_of f) sort) (call_alike ls before vs s (Some f)) fails

    by_alike : (ls : List ℕ) (before : ℕ) (vs : List ℕ) (s : Term) (sort : Option FuncType) (f : Option (Option ℕ)) → Alike R (called_by p k ls before vs s sort f) (called_by q (twin k w) ls before vs s sort f)
    by_alike ls before vs s sort None = fails
    by_alike ls before vs s sort (Some None) = fails
    by_alike ls before vs s sort (Some (Some f)) = as_alike ls before vs s sort (slice_get functions f)

    row_alike : (ls vs : List ℕ) (i : Instruction) (s : Term) → Alike R (row p k ls vs i s) (row q (twin k w) ls vs i s)
    row_alike ls vs (block t body) s = enter_alike ls vs (arity t) done body s
    row_alike ls vs (loop t body) s = enter_alike ls vs 0 (then_ (loop t body) done) body s
    row_alike ls [] (if_ t taken other) s = none
    row_alike ls (v ∷ vs) (if_ t taken other) s = enter_alike ls vs (arity t) done (if v == 0 then other else taken) s
    row_alike ls vs (br l) s = branches
    row_alike ls [] (br_if l) s = none
    row_alike ls (v ∷ vs) (br_if l) s = alike_if (v == 0) (steps r) branches
    row_alike ls [] (br_table js l) s = none
    row_alike ls (v ∷ vs) (br_table js l) s = branches
    row_alike ls vs return_ s = returns
    row_alike ls vs (call f) s = call_alike ls (length vs) vs s (slice_get functions f)
    row_alike ls [] (call_indirect n) s = none
    row_alike ls (v ∷ vs) (call_indirect n) s = by_alike ls (suc (length vs)) vs s (slice_get types n) (slice_get k.store.table v)
    row_alike ls vs i s = settle_alike vs s (effect k.store ls vs i)

    walk_alike : (ls vs : List ℕ) (s : Term) → Alike R (walk p k ls vs s) (walk q (twin k w) ls vs s)
    unfolding walk
    walk_alike ls vs end = finishes
    walk_alike ls vs (value v s) = walk_alike ls (v ∷ vs) s
    walk_alike ls vs (plain i s) = row_alike ls vs i s
    walk_alike ls vs (label n more inner s) = label_alike ls vs n more s (walk_alike ls [] inner)
    walk_alike ls vs (frame n now inner s) = frame_alike ls vs n s (walk_alike now [] inner)

  -- ---- what comes next

  next_alike : (k : Config V) (w : W) → R k.world w → (calls : List ℕ) {o : Outcome V} {o' : Outcome W} → Alike R o o' → NextInStep R (next_of p k calls o) (next_of q (twin k w) calls o')
  next_alike k w r calls (steps x) = both_step (record { store = refl; term = refl; calls = refl; worlds = x })
  next_alike k w r [] finishes = both_over
  next_alike k w r (f ∷ calls) finishes = next_alike (entry p k f calls) w r calls (walk_alike (entry p k f calls) w r [] [] (entry p k f calls).term)
  next_alike k w r calls branches = both_lost
  next_alike k w r calls returns = both_lost
  next_alike k w r calls (leaves_off x) = both_exit x
  next_alike k w r calls fails = both_trap
  next_alike k w r calls none = both_lost

  -- configurations in step go on alike
  pub nexts : (k : Config V) (l : Config W) → InStep R k l → NextInStep R (next p k) (next q l)
  nexts k l i =
      let same : twin k l.world ≡ l =
      ap (λ (z : Store). let c : Config W = record { store = z; world = l.world; term = k.term; calls = k.calls } in c) i.store
      ∙ ap (λ (z : Term). let c : Config W = record { store = l.store; world = l.world; term = z; calls = k.calls } in c) i.term
      ∙ ap (λ (z : List ℕ). let c : Config W = record { store = l.store; world = l.world; term = l.term; calls = z } in c) i.calls in
      subst (λ z. NextInStep R (next p k) (next q z)) same (next_alike k l.world i.worlds k.calls (walk_alike k l.world i.worlds [] [] k.term))

-- ---- what is known of the one is known of the other

step_is : {W : Type 0} {c d : ℕ} {a b : Config W} → step c a ≡ step d b → (c ≡ d) × (a ≡ b)
step_is e = (cc, cc)

exit_is : {W : Type 0} {c d : ℕ} {a b : W} → exits_with c a ≡ exits_with d b → (c ≡ d) × (a ≡ b)
exit_is e = (cc, cc)

trap_is : {W : Type 0} {c d : ℕ} → ◌≡◌ {A = Next W} (traps c) (traps d) → c ≡ d
trap_is e = cc

follow_step : {V W : Type 0} {R : V → W → Type 0} {x : Next V} {y : Next W} (cost : ℕ) (k : Config V) → NextInStep R x y → x ≡ step cost k → (l : Config W) × (y ≡ step cost l) × InStep R k l
follow_step {R} cost k (both_step {l = b} i) e = let t = step_is e in (b, ap (λ z. step z b) t.0, subst (λ z. InStep R z b) t.1 i)
follow_step cost k x e = absurd cc

follow_over : {V W : Type 0} {R : V → W → Type 0} {x : Next V} {y : Next W} → NextInStep R x y → x ≡ over → y ≡ over
follow_over both_over e = refl
follow_over x e = absurd cc

follow_exit : {V W : Type 0} {R : V → W → Type 0} {x : Next V} {y : Next W} (code : ℕ) (v : V) → NextInStep R x y → x ≡ exits_with code v → (w : W) × (y ≡ exits_with code w) × R v w
follow_exit {R} code v (both_exit {w = b} r) e = let t = exit_is e in (b, ap (λ z. exits_with z b) t.0, subst (λ z. R z b) t.1 r)
follow_exit code v x e = absurd cc

follow_trap : {V W : Type 0} {R : V → W → Type 0} {x : Next V} {y : Next W} (kind : ℕ) → NextInStep R x y → x ≡ traps kind → y ≡ traps kind
follow_trap kind both_trap e = ap traps (trap_is e)
follow_trap kind x e = absurd cc

follow_lost : {V W : Type 0} {R : V → W → Type 0} {x : Next V} {y : Next W} → NextInStep R x y → x ≡ lost → y ≡ lost
follow_lost both_lost e = refl
follow_lost x e = absurd cc

-- ---- the other way round

turn_reply : {V W : Type 0} (R : V → W → Type 0) (a : Reply V) (b : Reply W) → SameReply R a b → SameReply (turned R) b a
turn_reply R (gives_value x m v) (gives_value y n w) t = (sym t.0, sym t.1, t.2)
turn_reply R (gives_nothing m v) (gives_nothing n w) t = (sym t.0, t.1)
turn_reply R (exits c m v) (exits d n w) t = (sym t.0, sym t.1, t.2)
turn_reply R a b t = absurd t

pub turn_replies : {V W : Type 0} (R : V → W → Type 0) (here : Replies V) (there : Replies W) → RepliesAgree R here there → RepliesAgree (turned R) there here
turn_replies R here there agree w v r which args memory = turn_reply R (here v which args memory) (there w which args memory) (agree v w r which args memory)

pub turn_in_step : {V W : Type 0} (R : V → W → Type 0) (k : Config V) (l : Config W) → InStep R k l → InStep (turned R) l k
turn_in_step R k l i = record { store = sym i.store; term = sym i.term; calls = sym i.calls; worlds = i.worlds }

-- ---- whole runs

module _ {V W : Type 0} (R : V → W → Type 0) (types : List FuncType) (functions : List Callee) (here : Replies V) (there : Replies W) (agree : RepliesAgree R here there) where
  abbrev first : Program V
  first = over_host types functions here

  abbrev second : Program W
  second = over_host types functions there

  goes_on : (k : Config V) (l : Config W) → InStep R k l → NextInStep R (next first k) (next second l)
  goes_on = nexts R types functions here there agree

  rows_there : (r n : ℕ) (k : Config V) (l : Config W) (a : Config V) → InStep R k l → Rows first r n k a → (b : Config W) × Rows second r n l b × InStep R a b
  unfolding Rows
  rows_there zero n k l a i t = (l, (t.0, refl), subst (λ z. InStep R z l) t.1 i)
  rows_there (suc r) n k l a i t =
      let m : (middle : Config W) × (next second l ≡ step t.0 middle) × InStep R t.2 middle = follow_step t.0 t.2 (goes_on k l i) t.4 in
      let u : (b : Config W) × Rows second r t.1 m.0 b × InStep R a b = rows_there r t.1 t.2 m.0 a m.2 t.5 in
      (u.0, (t.0, t.1, m.0, t.3, m.1, u.1), u.2)

  ends_there : (n code : ℕ) (v : V) (k : Config V) (l : Config W) → InStep R k l → Ends first n k code v → (w : W) × Ends second n l code w × R v w
  ends_there n code v k l i (at_end r a t o z e) =
      let u : (b : Config W) × Rows second r n l b × InStep R a b = rows_there r n k l a i t in
      (u.0.world, at_end r u.0 u.1 (follow_over (goes_on a u.0 u.2) o) z refl, subst (λ x. R x u.0.world) (sym e) u.2.worlds)
  ends_there n code v k l i (by_exit r before a e t o) =
      let u : (b : Config W) × Rows second r before l b × InStep R a b = rows_there r before k l a i t in
      let x : (w : W) × (next second u.0 ≡ exits_with code w) × R v w = follow_exit code v (goes_on a u.0 u.2) o in
      (x.0, by_exit r before u.0 e u.1 x.1, x.2)

  traps_there : (n kind : ℕ) (k : Config V) (l : Config W) → InStep R k l → Traps first n k kind → Traps second n l kind
  traps_there n kind k l i t =
      let u : (b : Config W) × Rows second t.rows t.before l b × InStep R t.last b = rows_there t.rows t.before k l t.last i t.reached in
      record { rows = t.rows; before = t.before; last = u.0; count = t.count; reached = u.1; trap = follow_trap kind (goes_on t.last u.0 u.2) t.trap }

  lost_there : (k : Config V) (l : Config W) → InStep R k l → (r n : ℕ) (a : Config V) → Rows first r n k a → next first a ≡ lost → NeverLost second l → ⊥
  lost_there k l i r n a t o never =
      let u : (b : Config W) × Rows second r n l b × InStep R a b = rows_there r n k l a i t in
      never r n u.0 u.1 (follow_lost (goes_on a u.0 u.2) o)

-- what comes of the first one comes of the second one
pub mirrors : {V W : Type 0} (R : V → W → Type 0) (types : List FuncType) (functions : List Callee) (here : Replies V) (there : Replies W) → RepliesAgree R here there
    → (k : Config V) (l : Config W) → InStep R k l → Mirrors R (over_host types functions here) (over_host types functions there) k l
mirrors {V} {W} R types functions here there agree k l i =
    let back : RepliesAgree (turned R) there here = turn_replies R here there agree in
    let j : InStep (turned R) l k = turn_in_step R k l i in
    record {
      rows = λ r n a t. rows_there R types functions here there agree r n k l a i t;
      ends = λ n code v e. ends_there R types functions here there agree n code v k l i e;
      traps = λ n kind t. traps_there R types functions here there agree n kind k l i t;
      runs = λ n s. record {
        no_end = λ m code w h e. let u = ends_there (turned R) types functions there here back m code w l k j e in s.no_end m code u.0 h u.1;
        no_trap = λ m kind h t. s.no_trap m kind h (traps_there (turned R) types functions there here back m kind l k j t);
      };
      never_lost = λ never r n b t o. lost_there (turned R) types functions there here back l k j r n b t o never;
    }

-- the law
pub stays_in_step : {V W : Type 0} (R : V → W → Type 0) (here : Replies V) (there : Replies W) → RepliesAgree R here there → StayInStep R here there
stays_in_step R here there agree types functions k l i = record {
  goes_on = nexts R types functions here there agree k l i;
  there = mirrors R types functions here there agree k l i;
  back = mirrors (turned R) types functions there here (turn_replies R here there agree) l k (turn_in_step R k l i);
}

-- for the premise: replies by cases
pub reply_if : {V W : Type 0} (R : V → W → Type 0) (b : Bool) (x y : Reply V) (x' y' : Reply W) → SameReply R x x' → SameReply R y y' → SameReply R (if b then x else y) (if b then x' else y')
reply_if R true x y x' y' p q = p
reply_if R false x y x' y' p q = q
