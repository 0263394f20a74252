-- A host whose functions do nothing.
use Rattle.std.specs.Prelude.{ℕ, ◌≡◌, List, [], ◌∷◌, Option, None, Some, refl}
use Rattle.std.proofs.lemmas.Option.{none-some}
use Rattle.vr_wasm_ast.specs.declared.tree.FuncType.{FuncType}
use Rattle.vr_wasm_ast.specs.declared.tree.ValType.{ValType}
use Rattle.vr_wasm_num.specs.Memory.{Contents}
use Rattle.vr_wasm_steps.specs.Hosts.{Reply, gives_nothing, FitsResults, RepliesFit}

-- the one function, by the types of its parameters and of its results
abbrev pub found_as : List ValType → List ValType → Option ℕ
found_as [] [] = Some 0
found_as params results = None

-- a function of any name that takes and gives nothing
abbrev pub found : List ℕ → List ℕ → FuncType → Option ℕ
found from name sort = found_as sort.params sort.results

-- it does nothing
abbrev pub rests : Unit {0} → ℕ → List ℕ → Contents → Reply (Unit {0})
rests w which args memory = gives_nothing memory w

-- the reply of a function that is found by these types fits them
fit_as : (params results : List ValType) (which : ℕ) (w : Unit {0}) (memory : Contents)
    → found_as params results ≡ Some which → FitsResults results memory (gives_nothing memory w)
fit_as [] [] which w memory e = record { size = refl; most = refl }
fit_as [] (t ∷ ts) which w memory e = absurd (none-some which e)
fit_as (t ∷ ts) results which w memory e = absurd (none-some which e)

-- each reply fits the type by which its function was found
pub fit : RepliesFit found rests
fit from name sort which w args memory e are = fit_as sort.params sort.results which w memory e
