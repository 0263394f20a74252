-- Two runs of the same functions over two hosts whose replies agree.
use Rattle.std.specs.Prelude.{ℕ, ◌≡◌, List}
use Rattle.vr_wasm_ast.specs.declared.tree.FuncType.{FuncType}
use Rattle.vr_wasm_num.specs.Memory.{Contents}
use Rattle.vr_wasm_steps.specs.Hosts.{Reply, gives_value, gives_nothing, exits}
use Rattle.vr_wasm_steps.specs.Rows.{Program, Config, Callee, Next, step, over, exits_with, traps, lost, next}
use Rattle.vr_wasm_steps.specs.Runs.{Rows, Ends, Traps, StillRuns, NeverLost}

-- the same answer and the same memory, and related worlds after it
abbrev pub SameReply : {V W : Type 0} → (V → W → Type 0) → Reply V → Reply W → Type 0
SameReply R (gives_value x m v) (gives_value y n w) = (x ≡ y) × (m ≡ n) × R v w
SameReply R (gives_nothing m v) (gives_nothing n w) = (m ≡ n) × R v w
SameReply R (exits c m v) (exits d n w) = (c ≡ d) × (m ≡ n) × R v w
SameReply R a b = ⊥

-- what a host replies to its world, the number of a function, the arguments and the memory
abbrev pub Replies : Type 0 → Type 0
Replies W = W → ℕ → List ℕ → Contents → Reply W

-- in related worlds both hosts reply the same to each call
abbrev pub RepliesAgree : {V W : Type 0} → (V → W → Type 0) → Replies V → Replies W → Type 0
RepliesAgree {V} {W} R here there =
    (v : V) (w : W) → R v w → (which : ℕ) (args : List ℕ) (memory : Contents)
    → SameReply R (here v which args memory) (there w which args memory)

-- these types and functions, over a host with these replies
abbrev pub over_host : {W : Type 0} → List FuncType → List Callee → Replies W → Program W
over_host types functions reply =
    record { types = types; functions = functions; reply = reply }

-- equal but for the worlds, which are related
pub record InStep {V W : Type 0} (R : V → W → Type 0) (k : Config V) (l : Config W)
    : Type 0 where
  pub store : k.store ≡ l.store
  pub term : k.term ≡ l.term
  pub calls : k.calls ≡ l.calls
  pub worlds : R k.world l.world

-- What comes next of both is of one kind: a step of one cost to configurations in step, the end, an
-- exit with one code and related worlds, a trap of one kind, or nothing.
pub data NextInStep {V W : Type 0} (R : V → W → Type 0) : Next V → Next W → Type 0 where
  both_step : {cost : ℕ} {k : Config V} {l : Config W} → InStep R k l
      → NextInStep R (step cost k) (step cost l)
  both_over : NextInStep R over over
  both_exit : {code : ℕ} {v : V} {w : W} → R v w
      → NextInStep R (exits_with code v) (exits_with code w)
  both_trap : {kind : ℕ} → NextInStep R (traps kind) (traps kind)
  both_lost : NextInStep R lost lost

-- What comes of the first configuration comes of the second one too: as many rows of the same cost
-- lead it to a configuration in step, it ends with the same code in a related world, traps with the
-- same kind, and still runs after as many steps; and it is never lost where the first one isn't.
pub record Mirrors {V W : Type 0} (R : V → W → Type 0)
    (p : Program V) (q : Program W) (k : Config V) (l : Config W) : Type 0 where
  pub rows : (r n : ℕ) (a : Config V) → Rows p r n k a
      → (b : Config W) × Rows q r n l b × InStep R a b
  pub ends : (n code : ℕ) (v : V) → Ends p n k code v → (w : W) × Ends q n l code w × R v w
  pub traps : (n kind : ℕ) → Traps p n k kind → Traps q n l kind
  pub runs : (n : ℕ) → StillRuns p n k → StillRuns q n l
  pub never_lost : NeverLost p k → NeverLost q l

-- the relation, seen from the other side
abbrev pub turned : {V W : Type 0} → (V → W → Type 0) → W → V → Type 0
turned R w v = R v w

-- they go on alike, and each mirrors the other
pub record KeepInStep {V W : Type 0} (R : V → W → Type 0)
    (p : Program V) (q : Program W) (k : Config V) (l : Config W) : Type 0 where
  pub goes_on : NextInStep R (next p k) (next q l)
  pub there : Mirrors R p q k l
  pub back : Mirrors (turned R) q p l k

-- the law: whatever the functions, configurations in step keep in step
abbrev pub StayInStep : {V W : Type 0} → (V → W → Type 0) → Replies V → Replies W → Type 0
StayInStep {V} {W} R here there =
    (types : List FuncType) (functions : List Callee) (k : Config V) (l : Config W)
    → InStep R k l
    → KeepInStep R (over_host types functions here) (over_host types functions there) k l
