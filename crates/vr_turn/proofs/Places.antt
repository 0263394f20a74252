-- Lists of views, of which one, or two, change.
use Rattle.std.proofs.Common.{◌≡◌, ◌≢◌, ℕ, zero, suc, ◌<◌, ◌⊎◌, inl, inr, ⊎_elim, true, List, [], ◌∷◌, ◌++◌, length, set, sym, refl, ap, ◌∙◌, subst, arith}
use mathlib.Core.Option.{some, some-injective, some-ne-none}
use mathlib.Core.Logic.{dite}
use native.Mathlib.Decide.{ℕ_discrete}
use lib.ListN.{get_elem?}
use Rattle.atomic_table.proofs.Lists.{at_set, set_else, at_longer}
use Rattle.vr_base.specs.declared.calls.Entry.{Entry}
use Rattle.vr_turn.specs.Rule.{EachSeat, IsOwned, IsSeen}
use Rattle.vr_turn.specs.Seats.{Has, is_live}
use Rattle.vr_turn.specs.declared.views.View.{View}

pub set_at : (vs : List View) (id : ℕ) (v w : View) → get_elem? vs id ≡ some v → get_elem? (set vs id w) id ≡ some w
set_at [] id v w at = absurd (some-ne-none v (sym at))
set_at (x ∷ xs) zero v w at = refl
set_at (x ∷ xs) (suc id) v w at = set_at xs id v w at

pub same_view : (vs : List View) (id : ℕ) (v w : View) → get_elem? vs id ≡ some v → get_elem? vs id ≡ some w → v ≡ w
same_view vs id v w at at' = some-injective v w (sym at ∙ at')

snoc_at : (vs : List View) (a b : View) (j : ℕ) → get_elem? (vs ++ a ∷ []) j ≡ some b → (get_elem? vs j ≡ some b) ⊎ ((j ≡ length vs) × (a ≡ b))
snoc_at [] a b zero e = inr (refl, some-injective a b e)
snoc_at [] a b (suc j) e = absurd (some-ne-none b (sym e))
snoc_at (x ∷ xs) a b zero e = inl e
snoc_at (x ∷ xs) a b (suc j) e =
    ⊎_elim (λ (t : get_elem? xs j ≡ some b). inl t) (λ (t : (j ≡ length xs) × (a ≡ b)). inr (ap suc t.0, t.1)) (snoc_at xs a b j e)

at_below : (vs : List View) (id : ℕ) (v : View) → get_elem? vs id ≡ some v → id < length vs
at_below [] id v at = absurd (some-ne-none v (sym at))
at_below (x ∷ xs) zero v at = omega arith
at_below (x ∷ xs) (suc id) v at = let below = at_below xs id v at in omega arith

-- what holds of the seat that changes, and of each other, holds of all
pub each_set : (P : ℕ → View → Type 0) (vs : List View) (id : ℕ) (w : View) → P id w → ((j : ℕ) (u : View) → j ≢ id → get_elem? vs j ≡ some u → P j u) → EachSeat P (set vs id w)
each_set P vs id w mine others j u e =
    ⊎_elim (λ (t : (j ≡ id) × (w ≡ u)). subst (λ (x : ℕ × View). P x.0 x.1) (λ i. (sym t.0 i, t.1 i)) mine)
    (λ (t : (j ≢ id) × (get_elem? vs j ≡ some u)). others j u t.0 t.1) (at_set vs id j w u e)

-- the same where a seat comes, at the end
pub each_more : (P : ℕ → View → Type 0) (vs : List View) (r : View) → P (length vs) r → EachSeat P vs → EachSeat P (vs ++ r ∷ [])
each_more P vs r new others j u e =
    ⊎_elim (λ (t : get_elem? vs j ≡ some u). others j u t)
    (λ (t : (j ≡ length vs) × (r ≡ u)). subst (λ (x : ℕ × View). P x.0 x.1) (λ i. (sym t.0 i, t.1 i)) new) (snoc_at vs r u j e)

-- the same where two seats change
pub each_two : (P : ℕ → View → Type 0) (vs : List View) (id other : ℕ) (w r : View) → P id w → P other r
    → ((j : ℕ) (u : View) → j ≢ id → j ≢ other → get_elem? vs j ≡ some u → P j u) → EachSeat P (set (set vs id w) other r)
each_two P vs id other w r mine spent others =
    each_set P (set vs id w) other r spent (λ j u ne e.
    ⊎_elim (λ (t : (j ≡ id) × (w ≡ u)). subst (λ (x : ℕ × View). P x.0 x.1) (λ i. (sym t.0 i, t.1 i)) mine)
    (λ (t : (j ≢ id) × (get_elem? vs j ≡ some u)). others j u t.0 ne t.1) (at_set vs id j w u e))

-- a number still belongs to a seat where the seat that changes keeps it
pub owned_set : (vs : List View) (id : ℕ) (v w : View) (p x : ℕ) → get_elem? vs id ≡ some v → is_live w.doing ≡ true → (p ≡ id → Has v.knows x → Has w.knows x)
    → IsOwned vs p x → IsOwned (set vs id w) p x
owned_set vs id v w p x at live keeps o =
    dite (ℕ_discrete p id)
    (λ here. let same : o.view ≡ v = same_view vs id o.view v (subst (λ (k : ℕ). get_elem? vs k ≡ some o.view) here o.at) at in
    record { view = w; at = subst (λ (k : ℕ). get_elem? (set vs id w) k ≡ some w) (sym here) (set_at vs id v w at); live = live; has = keeps here (subst (λ (u : View). Has u.knows x) same o.has) })
    (λ ne. record { view = o.view; at = set_else vs id p w ne ∙ o.at; live = o.live; has = o.has })

-- and where a seat comes
pub owned_more : (vs : List View) (r : View) (p x : ℕ) → IsOwned vs p x → IsOwned (vs ++ r ∷ []) p x
owned_more vs r p x o = record { view = o.view; at = at_longer vs (r ∷ []) p o.view o.at; live = o.live; has = o.has }

-- a history is still seen where the seat that changes has seen no less
pub seen_set : (vs : List View) (id : ℕ) (v w : View) (h : List Entry) → get_elem? vs id ≡ some v → (v.knows.seen ≡ h → w.knows.seen ≡ h) → IsSeen vs h → IsSeen (set vs id w) h
seen_set vs id v w h at keeps k =
    dite (ℕ_discrete k.place id)
    (λ here. let same : k.view ≡ v = same_view vs id k.view v (subst (λ (p : ℕ). get_elem? vs p ≡ some k.view) here k.at) at in
    record { place = id; view = w; at = set_at vs id v w at; same = keeps (ap (λ (u : View). u.knows.seen) (sym same) ∙ k.same) })
    (λ ne. record { place = k.place; view = k.view; at = set_else vs id k.place w ne ∙ k.at; same = k.same })

pub seen_more : (vs : List View) (r : View) (h : List Entry) → IsSeen vs h → IsSeen (vs ++ r ∷ []) h
seen_more vs r h k = record { place = k.place; view = k.view; at = at_longer vs (r ∷ []) k.place k.view k.at; same = k.same }

-- the place at which a seat comes is no other's
pub place_is_new : (vs : List View) (id : ℕ) (v : View) → get_elem? vs id ≡ some v → id ≢ length vs
place_is_new vs id v at e = let below = at_below vs id v at in omega arith
