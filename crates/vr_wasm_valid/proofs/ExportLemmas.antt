-- The names of the exports so far, as the set of them has them.
use Rattle.std.proofs.Common.{◌≡◌, ℕ, ◌+◌, ◌<◌, List, Bool, true, false, cond, take, get_or, length, refl, sym, ap, ◌∙◌, Bor}
use Rattle.std.specs.Prelude.{All, ◌≢◌, ◌||◌, not}
use Rattle.std.specs.List.{list_any}
use Rattle.std.specs.declared.cmp.Ordering.{Ordering}
use Rattle.std.specs.Ordering.{nat_cmp, is_eq}
use Rattle.std.specs.Cmp.Lexicographic.{slice_cmp}
use Rattle.std.specs.BTreeSet.{BTreeSet, contains, Updates}
use Rattle.std.specs.Str.{bytes_eq}
use Rattle.std.proofs.lemmas.List.{get_or_default}
use Rattle.std.proofs.lemmas.List.Folds.{Any-from_list_any, list_any-from_Any, list_any_more}
use Rattle.std.proofs.lemmas.Map.Text.{is_eq-slice_cmp}
use Rattle.std.proofs.lemmas.Slice.Eq.{bytes_eq-Decides}
use Rattle.vr_wasm_ast.specs.declared.tree.Export.{Export}
use Rattle.vr_wasm_valid.specs.Context.{Spaces}
use Rattle.vr_wasm_valid.specs.Parts.{ExportFits, IsThere}

-- whether one of the exports has the name
abbrev pub is_named : List ℕ → List Export → Bool
is_named name exports = list_any (λ (e : Export). bytes_eq e.name name) exports

abbrev pub by_bytes : Bor (List ℕ) → Bor (List ℕ) → Ordering
by_bytes x y = slice_cmp nat_cmp x.now y.now

-- the set has the names of these exports
pub record HoldsNames (names : BTreeSet (Bor (List ℕ))) (exports : List Export) : Type 0 where
  pub has : (q : Bor (List ℕ)) → contains by_bytes names q ≡ is_named q.now exports

or_cond : (a b : Bool) → cond a true b ≡ (b || a)
or_cond true true = refl
or_cond true false = refl
or_cond false true = refl
or_cond false false = refl

not_true : (b : Bool) → not b ≡ true → b ≡ false
not_true true e = cc e
not_true false e = refl

not_false : (b : Bool) → not b ≡ false → b ≡ true
not_false true e = refl
not_false false e = cc e

-- one more name in the set
pub holds_more : {old new : BTreeSet (Bor (List ℕ))} {e : Export} (key : Bor (List ℕ)) (exports : List Export) (i : ℕ)
    → i < length exports → e ≡ get_or exports i e → key.now ≡ e.name → HoldsNames old (take i exports)
    → Updates by_bytes old new key true → HoldsNames new (take (i + 1) exports)
holds_more {old} {e = e} key exports i within at named held u = record {
  has = λ q.
      let same : is_eq (by_bytes key q) ≡ bytes_eq e.name q.now =
      is_eq-slice_cmp key.now q.now ∙ ap (λ (x : List ℕ). bytes_eq x q.now) named in
      let more : is_named q.now (take (i + 1) exports)
      ≡ (is_named q.now (take i exports) || bytes_eq (get_or exports i e).name q.now) =
      list_any_more (λ (x : Export). bytes_eq x.name q.now) exports i e within in
      let here : bytes_eq e.name q.now ≡ bytes_eq (get_or exports i e).name q.now =
      ap (λ (x : Export). bytes_eq x.name q.now) at in
      cc (same, more, here, u.0 q, held.has q, or_cond (is_eq (by_bytes key q)) (contains by_bytes old q));
}

-- where none of the exports has the name, and where one has
none_named : (name : List ℕ) (exports : List Export) → is_named name exports ≡ false
    → All (λ (e : Export). e.name ≢ name) exports
none_named name exports none k d within same =
    let at_k : Export = get_or exports k d in
    let eq : bytes_eq at_k.name name ≡ true = (bytes_eq-Decides at_k.name name).1 same in
    let place : get_or exports k at_k ≡ at_k = get_or_default exports k at_k d within in
    let some : is_named name exports ≡ true =
    list_any-from_Any (λ (e : Export). bytes_eq e.name name) exports (k, at_k, within, place, eq) in
    cc (none, some)

some_named : (name : List ℕ) (exports : List Export) → is_named name exports ≡ true
    → All (λ (e : Export). e.name ≢ name) exports → ⊥
some_named name exports some all =
    let a = Any-from_list_any (λ (e : Export). bytes_eq e.name name) exports some in
    let same : a.1.name ≡ name = (bytes_eq-Decides a.1.name name).0 a.4 in
    all a.0 a.1 a.2 (ap (λ (e : Export). e.name) a.3 ∙ same)

-- whether the set has the name of an export that comes next
named_before : {names : BTreeSet (Bor (List ℕ))} {exports : List Export} (key : Bor (List ℕ)) (e : Export)
    → HoldsNames names exports → key.now ≡ e.name
    → contains by_bytes names key ≡ is_named e.name exports
named_before {exports = exports} key e held named =
    held.has key ∙ ap (λ (x : List ℕ). is_named x exports) named

-- a name that the set didn't have
pub export_fits : {names : BTreeSet (Bor (List ℕ))} {added : Bool} (s : Spaces) (key : Bor (List ℕ)) (e : Export)
    (exports : List Export) (i : ℕ) → HoldsNames names (take i exports) → key.now ≡ e.name
    → added ≡ not (contains by_bytes names key) → added ≡ true → IsThere s e.what e.index
    → ExportFits s exports i e
export_fits {names} s key e exports i held named is was there =
    let before = named_before key e held named in
    let new = not_true (contains by_bytes names key) (sym is ∙ was) in
    record { there = there; distinct = none_named e.name (take i exports) (sym before ∙ new) }

-- a name that it had
pub name_is_taken : {names : BTreeSet (Bor (List ℕ))} {added : Bool} (s : Spaces) (key : Bor (List ℕ)) (e : Export)
    (exports : List Export) (i : ℕ) → HoldsNames names (take i exports) → key.now ≡ e.name
    → added ≡ not (contains by_bytes names key) → added ≡ false → ExportFits s exports i e → ⊥
name_is_taken {names} s key e exports i held named is was fits =
    let before = named_before key e held named in
    let old = not_false (contains by_bytes names key) (sym is ∙ was) in
    some_named e.name (take i exports) (sym before ∙ old) fits.distinct
