-- What the host of the cases finds, and what it replies.
use Rattle.std.specs.Prelude.{ℕ, suc, zero, ◌≡◌, ◌%◌, ◌^◌, List, [], ◌∷◌, Option, None, Some, Bool, true, false, if◌then◌else◌, codes, refl}
use Rattle.std.specs.Str.{bytes_eq}
use Rattle.std.proofs.Common.{subst}
use Rattle.std.proofs.lemmas.Option.{none-some, same_Some}
use Rattle.vr_wasm_ast.specs.declared.tree.FuncType.{FuncType}
use Rattle.vr_wasm_ast.specs.declared.tree.ValType.{ValType}
use Rattle.vr_wasm_ast.specs.declared.tree.ValType.TheVariants.{I32, I64}
use Rattle.vr_wasm_num.specs.Memory.{Contents}
use Rattle.vr_wasm_steps.specs.Hosts.{Reply, gives_value, gives_nothing, exits, FitsResults, RepliesFit, SameSize}

-- the number of the function of this name, by the types of its parameters and of its results
abbrev pub found_as : List ℕ → List ValType → List ValType → Option ℕ
found_as name [] (I32 ∷ []) = if bytes_eq name (codes "next") then Some 0 else None
found_as name (I32 ∷ []) [] =
    if bytes_eq name (codes "exit") then Some 1
    else if bytes_eq name (codes "note") then Some 2 else None
found_as name [] [] =
    if bytes_eq name (codes "rest") then Some 3
    else if bytes_eq name (codes "lack") then Some 4 else None
found_as name params results = None

-- the number of the function of this name and type, in a module of any name
abbrev pub found : List ℕ → List ℕ → FuncType → Option ℕ
found from name sort = found_as name sort.params sort.results

-- 0 gives seven, 1 ends the program, 2 notes, 3 and 4 do nothing; the world is what was noted last
abbrev pub replied : ℕ → ℕ → List ℕ → Contents → Reply ℕ
replied w zero args memory = gives_value 7 memory w
replied w (suc zero) (v ∷ args) memory = exits (v % 2 ^ 32) memory w
replied w (suc (suc zero)) (v ∷ args) memory = gives_nothing memory v
replied w (suc (suc (suc zero))) args memory = gives_nothing memory w
replied w (suc (suc (suc (suc zero)))) args memory = gives_nothing memory w
replied w which args memory = exits 0 memory w

-- what holds of the only number holds of the one that was found
named : (P : ℕ → Type 0) (b : Bool) (n which : ℕ)
    → (if b then Some n else None) ≡ Some which → P n → P which
named P true n which e holds = subst P (same_Some n which e) holds
named P false n which e holds = absurd (none-some which e)

-- the same of two numbers
either : (P : ℕ → Type 0) (a b : Bool) (n k which : ℕ)
    → (if a then Some n else if b then Some k else None) ≡ Some which → P n → P k → P which
either P true b n k which e first second = subst P (same_Some n which e) first
either P false b n k which e first second = named P b k which e second

-- a memory is as large as itself
as_large : (memory : Contents) → SameSize memory memory
as_large memory = record { size = refl; most = refl }

-- the reply of the function of this number fits these results
abbrev Fits : List ValType → Contents → ℕ → List ℕ → ℕ → Type 0
Fits results memory w args which = FitsResults results memory (replied w which args memory)

-- a reply of a function that is found by these types fits them
fit_as : (name : List ℕ) (params results : List ValType) (which w : ℕ) (args : List ℕ)
    (memory : Contents) → found_as name params results ≡ Some which
    → Fits results memory w args which
fit_as name [] [] which w args memory e =
    either (Fits [] memory w args) (bytes_eq name (codes "rest")) (bytes_eq name (codes "lack"))
    3 4 which e (as_large memory) (as_large memory)
fit_as name [] (I32 ∷ []) which w args memory e =
    named (Fits (I32 ∷ []) memory w args) (bytes_eq name (codes "next")) 0 which e
    (refl, as_large memory)
fit_as name [] (I32 ∷ t ∷ ts) which w args memory e = absurd (none-some which e)
fit_as name [] (I64 ∷ ts) which w args memory e = absurd (none-some which e)
fit_as name (I32 ∷ []) [] which w [] memory e =
    either (Fits [] memory w []) (bytes_eq name (codes "exit")) (bytes_eq name (codes "note"))
    1 2 which e (as_large memory) (as_large memory)
fit_as name (I32 ∷ []) [] which w (v ∷ args) memory e =
    either (Fits [] memory w (v ∷ args)) (bytes_eq name (codes "exit"))
    (bytes_eq name (codes "note")) 1 2 which e (as_large memory) (as_large memory)
fit_as name (I32 ∷ []) (t ∷ ts) which w args memory e = absurd (none-some which e)
fit_as name (I32 ∷ u ∷ us) results which w args memory e = absurd (none-some which e)
fit_as name (I64 ∷ us) results which w args memory e = absurd (none-some which e)

-- each reply fits the type by which its function was found
pub fit : RepliesFit found replied
fit from name sort which w args memory e are =
    fit_as name sort.params sort.results which w args memory e
