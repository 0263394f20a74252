-- The first list of grants with one name twice.
use Rattle.std.proofs.Common.{◌≡◌, ℕ, ◌<◌, List, length, map, get_or, ap, sym, ◌∙◌, arith}
use Rattle.std.specs.Borrow.{Bor}
use Rattle.std.proofs.lemmas.List.{get_or-map, length-map}

-- an item of a list of references, in the list of what they refer to
pub record IsItem {X : Type 0} (lists : List X) (at : ℕ) (item : Bor X) : Type 0 where
  pub within : at < length lists
  pub is : (d : X) → get_or lists at d ≡ item.now

-- what the references in a vector refer to, in its slice
pub referred : {X : Type 0} (slice items : List (Bor X)) (lists : List X) → slice ≡ items → map (λ x. x.now) items ≡ lists → map (λ x. x.now) slice ≡ lists
referred {X} slice items lists same is = ap (map (λ (x : Bor X). x.now)) same ∙ is

pub item_of : {X : Type 0} (slice items : List (Bor X)) (lists : List X) → slice ≡ items → map (λ x. x.now) items ≡ lists
    → (at : ℕ) (item : Bor X) → at < length slice → item ≡ get_or slice at item → IsItem lists at item
item_of {X} slice items lists same_items are at item within is =
    let same = referred slice items lists same_items are in
    record {
      within = omega (arith, within, ap length same, length-map slice (λ (x : Bor X). x.now));
      is = λ d. ap (λ xs. get_or xs at d) (sym same) ∙ get_or-map (λ (x : Bor X). x.now) slice at item d within ∙ ap (λ (x : Bor X). x.now) (sym is);
    }

-- as many as there are references
pub as_many : {X : Type 0} (items : List (Bor X)) (lists : List X) → map (λ x. x.now) items ≡ lists → length lists ≡ length items
as_many {X} items lists same = sym (ap length same) ∙ length-map items (λ (x : Bor X). x.now)
