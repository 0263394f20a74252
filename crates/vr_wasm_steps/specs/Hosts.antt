-- What a host replies to a call.
use Rattle.std.specs.Prelude.{ℕ, ◌≡◌, ◌+◌, ◌-◌, ◌^◌, ◌≤◌, min, List, [], ◌∷◌, length, Some, Option, IsTrue}
use Rattle.vr_wasm_ast.specs.declared.tree.FuncType.{FuncType}
use Rattle.vr_wasm_ast.specs.declared.tree.ValType.{ValType}
use Rattle.vr_wasm_num.specs.Memory.{Contents}
use Rattle.vr_wasm_steps.specs.declared.host.HostAnswer.{HostAnswer}
use Rattle.vr_wasm_steps.specs.declared.host.HostAnswer.TheVariants.{Value, Nothing, Exit, NoMemory}
use Rattle.vr_wasm_steps.specs.Store.{is_of, are_of}

-- a value, no value, or the end of the program with a code; and the memory and the world after it
pub data Reply (W : Type 0) : Type 0 where
  gives_value : ℕ → Contents → W → Reply W
  gives_nothing : Contents → W → Reply W
  exits : ℕ → Contents → W → Reply W

-- the answer is the reply's, but where the host stopped because memory ran out
abbrev pub IsReply : {W : Type 0} → Reply W → HostAnswer → Contents → W → Type 0
IsReply reply (Value v) memory w = reply ≡ gives_value v memory w
IsReply reply Nothing memory w = reply ≡ gives_nothing memory w
IsReply reply (Exit code) memory w = reply ≡ exits code memory w
IsReply reply NoMemory memory w = Unit {0}

-- a count of stops rose, or stands at its end
abbrev pub Rose : ℕ → ℕ → Type 0
Rose before now = min (before + 1) (2 ^ 64 - 1) ≤ now

-- where memory ran out the host's world and the memory are as before
pub record StopsClean {W : Type 0} (old new : Contents) (before after : W) : Type 0 where
  pub memory : new ≡ old
  pub world : after ≡ before

-- as many bytes and as many pages at most
pub record SameSize (old new : Contents) : Type 0 where
  pub size : length new.bytes ≡ length old.bytes
  pub most : new.most ≡ old.most

-- a reply to a call of a function with these results: a value of the type, or none where there is none
abbrev pub FitsResults : {W : Type 0} → List ValType → Contents → Reply W → Type 0
FitsResults (t ∷ []) memory (gives_value v after w) = IsTrue (is_of t v) × SameSize memory after
FitsResults [] memory (gives_nothing after w) = SameSize memory after
FitsResults results memory (exits code after w) = SameSize memory after
FitsResults results memory reply = ⊥

-- the host has a function of this number, whose parameters fit the arguments
abbrev pub IsAskable : (List ℕ → List ℕ → FuncType → Option ℕ) → ℕ → List ℕ → Type 0
IsAskable finds which args =
    (from : List ℕ) × (name : List ℕ) × (sort : FuncType) × (finds from name sort ≡ Some which)
    × IsTrue (are_of sort.params args)

-- each reply to a call that may be made fits the function's results
abbrev pub RepliesFit : {W : Type 0} → (List ℕ → List ℕ → FuncType → Option ℕ)
    → (W → ℕ → List ℕ → Contents → Reply W) → Type 0
RepliesFit {W} finds reply =
    (from name : List ℕ) (sort : FuncType) (which : ℕ) (w : W) (args : List ℕ) (memory : Contents)
    → finds from name sort ≡ Some which → IsTrue (are_of sort.params args)
    → FitsResults sort.results memory (reply w which args memory)
