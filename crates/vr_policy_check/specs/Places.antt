-- The index of a list's keys.
use Rattle.std.specs.Prelude.{◌≡◌, Bool, ℕ, List, position, bytes_eq, is_some, Some, None}
use Rattle.std.specs.Borrow.{Bor}
use Rattle.std.specs.Cmp.Lexicographic.{slice_cmp}
use Rattle.std.specs.List.{list_any}
use Rattle.std.specs.BTreeMap.{BTreeMap, get, get_by}
use Rattle.std.specs.Ordering.{is_eq, nat_cmp}
use Rattle.std.specs.declared.cmp.Ordering.{Ordering}
use Rattle.vr_policy_check.specs.declared.places.Index.{Index}
use Rattle.vr_policy_check.specs.declared.places.Index.TheVariants.{Places, Repeat}
use Rattle.vr_policy_check.specs.Repeats.{first_repeat}

-- two keys are the same by their order
abbrev pub same_by : {K : Type 0} → (K → K → Ordering) → K → K → Bool
same_by cmp x y = is_eq (cmp x y)

-- A map has each key of a list at its first place, and no other key.
abbrev pub Indexes : {K : Type 0} → (K → K → Ordering) → List K → BTreeMap K ℕ → Type 0
Indexes {K} cmp keys places = (key : K) → get cmp places key ≡ position (same_by cmp key) keys

-- What is had of a list: its places, where no key comes twice; else the first key that does.
abbrev pub IsIndexOf : {K : Type 0} → (K → K → Ordering) → List K → Index K → Type 0
IsIndexOf cmp keys (Places places) =
    (first_repeat (same_by cmp) keys ≡ None) × Indexes cmp keys places
IsIndexOf cmp keys (Repeat at) = first_repeat (same_by cmp) keys ≡ Some at

-- A map has these names, and no other.
abbrev pub HasNames : List (List ℕ) → BTreeMap (Bor (List ℕ)) ℕ → Type 0
HasNames names places = (name : Bor (List ℕ)) →
    is_some (get_by (λ key. slice_cmp nat_cmp name.now key.now) places)
    ≡ list_any (bytes_eq name.now) names
