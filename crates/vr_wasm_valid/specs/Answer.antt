-- What the checks of a module's parts answer.
use Rattle.std.specs.Prelude.{◌≡◌, ℕ, ◌+◌, ◌<◌, List, Option, Some, Result, Err, All, IfErr, IfNone, IfSome, IsOk, OnOk, length, slice_get, take}
use Rattle.vr_wasm_valid.specs.declared.answer.Invalid.{Invalid}
use Rattle.vr_wasm_valid.specs.declared.answer.Invalid.TheVariants.{Part, OutOfMemory}
use Rattle.vr_wasm_valid.specs.Parts.{Component, Placed, AreTyped, FirstRefused}

-- the first item that doesn't fit is at this place
pub record FirstUnfit {A : Type 0} (P : A → Type 0) (xs : List A) (place : ℕ) : Type 0 where
  pub item : A
  pub within : place < length xs
  pub here : slice_get xs place ≡ Some item
  pub fit_before : All P (take place xs)
  pub unfit : P item → ⊥

-- the place of the first item that doesn't fit, if there is one
pub record FindsUnfit {A : Type 0} (P : A → Type 0) (xs : List A) (found : Option ℕ) : Type 0 where
  pub none : IfNone found (All P xs)
  pub some : IfSome found (FirstUnfit P xs)

-- a fact of the component that the answer names; where memory ran out it names none
abbrev pub IfPart : Invalid → (ℕ → ℕ → Type 0) → Type 0
IfPart (Part part index) P = P part index
IfPart OutOfMemory P = Unit {0}

-- the answer names the component at the place that was found, if one was; the
-- first of the part has this index
pub record Refuses {U : Type 0} (part first : ℕ) (found : Option ℕ) (answer : Result U Invalid)
    : Type 0 where
  pub none : IfNone found (IsOk answer)
  pub some : IfSome found (λ place. answer ≡ Err (Part part (first + place)))

-- each of the components is typed, or the answer names the first that isn't
pub record Judges {U : Type 0} (T : Component → Type 0) (all : List Placed)
    (answer : Result U Invalid) : Type 0 where
  pub typed : OnOk answer (AreTyped T all)
  pub refused : IfErr answer (λ e. IfPart e (FirstRefused T all))
