-- Keys as they are kept, and what they stand for.
use Rattle.std.specs.Prelude.{◌≡◌, ℕ, List, Some, None, Option, Result, Ok, Err}
use Rattle.std.specs.BTreeMap.{BTreeMap, get}
use Rattle.std.specs.Cmp.Lexicographic.{slice_cmp}
use Rattle.std.specs.Ordering.{nat_cmp}
use Rattle.vr_face.specs.declared.keys.Keys.{Keys}
use Rattle.vr_face.specs.declared.keys.KeysFault.{KeysFault}
use Rattle.vr_face.specs.declared.keys.KeysFault.TheVariants.{Line, OutOfMemory}
use Rattle.vr_face.specs.Keys.{Holding, holder_of, line_added}

-- the identity that a map has for a key
abbrev pub found : BTreeMap (List ℕ) ℕ → List ℕ → Option ℕ
found holders key = get (slice_cmp nat_cmp) holders key

-- the identity that holds a key
abbrev pub who : Keys → List ℕ → Option ℕ
who keys key = found keys.holders key

-- The map has each key that is held, with the identity that holds it, and no other key.
abbrev pub Holds : BTreeMap (List ℕ) ℕ → List Holding → Type 0
Holds holders held = (key : List ℕ) → found holders key ≡ holder_of held key

-- The map is of what is held with one line more, or the line of this number is refused.
abbrev pub Added : ℕ → BTreeMap (List ℕ) ℕ → Option (List Holding) → Result (Unit {0}) KeysFault
    → Type 0
Added number new after (Ok done) = (held : List Holding) × (after ≡ Some held) × Holds new held
Added number new after (Err (Line refused)) = (after ≡ None) × (refused ≡ number)
Added number new after (Err OutOfMemory) = Unit {0}

-- The same, of whatever the map stood for before.
abbrev pub AddsLine : List ℕ → ℕ → List ℕ → BTreeMap (List ℕ) ℕ → BTreeMap (List ℕ) ℕ
    → Result (Unit {0}) KeysFault → Type 0
AddsLine policy number line old new result =
    (before : List Holding) → Holds old before
    → Added number new (line_added policy before line) result

-- The keys are what is held by a file, or the fault has the number of the line that is refused, or
-- memory ran out.
abbrev pub GivesKeys : Result Keys KeysFault → Result (List Holding) ℕ → Type 0
GivesKeys (Ok keys) answer =
    (held : List Holding) × (answer ≡ Ok held)
    × ((key : List ℕ) → who keys key ≡ holder_of held key)
GivesKeys (Err (Line number)) answer = answer ≡ Err number
GivesKeys (Err OutOfMemory) answer = Unit {0}
