-- What the checker knows of the operand types at a place, and what the
-- rules of instructions make of it.
use Rattle.std.specs.Prelude.{◌≡◌, List, [], ◌∷◌, Option, None, Some, Bool, true, false, IsTrue, IsFalse, Result, IfOk}
use Rattle.vr_wasm_ast.specs.declared.tree.ValType.{ValType}

-- The last operand types, each known or not, and whether any others may lie below them, as they may
-- where the code can't be reached.
pub data Shape : Type 0 where
  shape : List (Option ValType) → Bool → Shape

-- the type is the known one, if it is known
abbrev pub Matches : Option ValType → ValType → Type 0
Matches None t = Unit {0}
Matches (Some k) t = k ≡ t

-- these types are the known ones, and below them others only where they are allowed
abbrev pub FitsAbove : List (Option ValType) → Bool → List ValType → Type 0
FitsAbove [] true ts = Unit {0}
FitsAbove [] false [] = Unit {0}
FitsAbove [] false (t ∷ ts) = ⊥
FitsAbove (k ∷ ks) open_below [] = ⊥
FitsAbove (k ∷ ks) open_below (t ∷ ts) = Matches k t × FitsAbove ks open_below ts

-- these types are an instance of the shape
abbrev pub Fits : Shape → List ValType → Type 0
Fits (shape known open_below) ts = FitsAbove known open_below ts

-- a rule: which operand types may be before, and which after
abbrev pub Rule : Type 1
Rule = List ValType → List ValType → Type 0

-- the instances of the new shape are those to which the rule leads from one of the old shape
pub record Steps (before after : Shape) (R : Rule) : Type 0 where
  pub back : (ts : List ValType) → Fits after ts
      → (earlier : List ValType) × Fits before earlier × R earlier ts
  pub on : (earlier ts : List ValType) → Fits before earlier → R earlier ts → Fits after ts

-- the rule leads nowhere from the shape
pub record Sticks (before : Shape) (R : Rule) : Type 0 where
  pub none : (earlier ts : List ValType) → Fits before earlier → R earlier ts → ⊥

-- the answer says whether the rule leads on from the shape, and the new
-- shape is then where it leads
pub record Moves (fine : Bool) (before after : Shape) (R : Rule) : Type 0 where
  pub steps : IsTrue fine → Steps before after R
  pub sticks : IsFalse fine → Sticks before R

-- the same, unless memory runs out
pub record Checks {E : Type 0} (answer : Result Bool E) (before after : Shape) (R : Rule)
    : Type 0 where
  pub moves : IfOk answer (λ fine. Moves fine before after R)

-- the last operand is of this kind, and the new shape is what lies below it
pub record Pops (kind : Option ValType) (before after : Shape) : Type 0 where
  pub split : (t : ValType) (ts : List ValType) → Fits before (t ∷ ts)
      → Matches kind t × Fits after ts
  pub join : (t : ValType) (ts : List ValType) → Matches kind t → Fits after ts
      → Fits before (t ∷ ts)

-- there is no last operand
pub record IsBare (before : Shape) : Type 0 where
  pub none : (t : ValType) (ts : List ValType) → Fits before (t ∷ ts) → ⊥

-- one operand of this kind, and below it what was there before
pub record Pushes (kind : Option ValType) (before after : Shape) : Type 0 where
  pub pops : Pops kind after before
  pub some : Fits after [] → ⊥

-- the kind is what both kinds say
pub record Meets (one two kind : Option ValType) : Type 0 where
  pub split : (t : ValType) → Matches kind t → Matches one t × Matches two t
  pub join : (t : ValType) → Matches one t → Matches two t → Matches kind t

-- no type is of both kinds
pub record Differ (one two : Option ValType) : Type 0 where
  pub none : (t : ValType) → Matches one t → Matches two t → ⊥
