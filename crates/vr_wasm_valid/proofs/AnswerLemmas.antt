-- What the checks of single parts say of all components together.
use Rattle.std.proofs.Common.{◌≡◌, ℕ, zero, suc, ◌+◌, ◌<◌, ◌≤◌, List, [], ◌∷◌, ◌++◌, Option, None, Some, Result, Ok, Err, map, slice_get, take, get_or, length, refl, sym, subst, ap, inl, inr, ◌∙◌, append_assoc, append-nil, arith, length-append}
use Rattle.std.specs.Prelude.{All, IsErrAnd, MatchOption}
use Rattle.std.specs.List.{AllWithin, HoldsAt, enumerate_from, zip}
use Rattle.std.proofs.lemmas.List.{get_or-take, length-take, take_all}
use Rattle.std.proofs.lemmas.List.FromFn.{get_or-enumerate_from}
use Rattle.std.proofs.lemmas.Slice.Zip.{get_or-zip, length-zip}
use Rattle.std.proofs.lemmas.List.Elements.{All-append, All-cons, All-more, All-nil}
use Rattle.std.proofs.lemmas.Option.{slice_get-get_or, slice_get_cases, slice_get_within}
use Rattle.std.proofs.Math.Seq.{get_or-append_seam}
use Rattle.vr_wasm_valid.specs.declared.answer.Invalid.{Invalid}
use Rattle.vr_wasm_valid.specs.declared.answer.Invalid.TheVariants.{Part, OutOfMemory}
use Rattle.vr_wasm_valid.specs.Answer.{FindsUnfit, FirstUnfit, IfPart, Judges, Refuses}
use Rattle.vr_wasm_valid.specs.Parts.{Component, Placed, AreTyped, FirstRefused, placed_from}

-- ---- the first item that doesn't fit

-- one more item fits
pub one_more : {X : Type 0} (P : X → Type 0) (xs : List X) (i : ℕ) (x : X) → i < length xs
    → x ≡ get_or xs i x
    → All P (take i xs) → P x → All P (take (i + 1) xs)
one_more P xs i x within at fit p = All-more P xs i x within fit (subst P at p)

-- all items fit
pub no_more : {X : Type 0} (P : X → Type 0) (xs : List X) (i : ℕ) → length xs ≤ i
    → All P (take i xs) → All P xs
no_more {X} P xs i past fit = let Q : List X → Type 0 = λ ys. All P ys in subst Q (take_all i xs past) fit

-- the next item doesn't fit
pub unfit_at : {X : Type 0} (P : X → Type 0) (xs : List X) (i : ℕ) (x : X) → i < length xs
    → x ≡ get_or xs i x
    → All P (take i xs) → (P x → ⊥) → FirstUnfit P xs i
unfit_at P xs i x low at fit n = record {
  item = x;
  within = low;
  here = slice_get-get_or xs i x low ∙ ap Some (sym at);
  fit_before = fit;
  unfit = n;
}

-- what `position` finds, where its test says that an item doesn't fit
pub found_unfit : {X : Type 0} {P : X → Type 0} (xs : List X) (found : Option ℕ)
    → MatchOption found (AllWithin P xs 0 (length xs))
    (λ i. (i < length xs) × HoldsAt (λ x. P x → ⊥) xs i × AllWithin P xs 0 i)
    → FindsUnfit P xs found
found_unfit xs None w = record { none = λ k d within. w k d (omega arith) within; some = tt }
found_unfit {X} {P} xs (Some i) w = record {
  none = tt;
  some = elim (slice_get_cases xs i).1 [
    | inl at ↦
        let x = at.0 in
        let Q : X → Type 0 = λ y. P y → ⊥ in
        record {
          item = x;
          within = w.0;
          here = at.2;
          fit_before = λ k d low.
              let before : k < i = omega (arith, length-take i xs) in
              subst P (sym (get_or-take i xs k d before)) (w.2 k d (omega arith) before);
          unfit = subst Q at.3 (w.1 x);
        }
    | inr past ↦ absurd (omega (arith, past.0))
  ];
}

-- of two or more none is the only one
pub not_alone : {X : Type 0} (P : X → Type 0) (xs : List X) → 2 ≤ length xs
    → FirstUnfit (λ x. P x × (length xs ≤ 1)) xs 0
not_alone P [] two = let never : ⊥ = omega arith in absurd never
not_alone P (x ∷ xs) two = record {
  item = x;
  within = omega arith;
  here = refl;
  fit_before = All-nil (λ y. P y × (length (x ∷ xs) ≤ 1));
  unfit = λ p. omega (arith, p.1, two);
}

-- ---- the components of one part

all_placed : {A : Type 0} (T : Component → Type 0) (f : A → Component) (xs : List A) (part from : ℕ)
    → All (λ x. T (f x)) xs → AreTyped T (placed_from part from (map f xs))
all_placed T f [] part from fit = All-nil (λ (c : Placed). T c.what)
all_placed T f (x ∷ xs) part from fit =
    All-cons (λ (c : Placed). T c.what) _ _ (fit 0 x (omega arith))
    (all_placed T f xs part (from + 1) (λ k d within. fit (suc k) d (omega arith)))

-- the first component is typed, and one that comes after it isn't
refused_next : {T : Component → Type 0} {c : Placed} {cs : List Placed} {part index : ℕ} → T c.what
    → FirstRefused T cs part index → FirstRefused T (c ∷ cs) part index
refused_next {T} {c} {cs} {part} {index} typed r = record {
  before = c ∷ r.before;
  refused = r.refused;
  after = r.after;
  split = ap (λ (x : List Placed). c ∷ x) r.split;
  typed_before = All-cons (λ (d : Placed). T d.what) c r.before typed r.typed_before;
  not_typed = r.not_typed;
}

first_refused : {A : Type 0} (T : Component → Type 0) (f : A → Component) (xs : List A) (part from place : ℕ) (item : A)
    → slice_get xs place ≡ Some item → All (λ x. T (f x)) (take place xs) → (T (f item) → ⊥)
    → FirstRefused T (placed_from part from (map f xs)) part (from + place)
first_refused T f [] part from place item here fit unfit =
    let never : place < 0 = slice_get_within [] place item here in absurd (omega arith)
first_refused T f (x ∷ xs) part from zero item here fit unfit =
    let same : x ≡ item = cc here in
    let index : from ≡ from + 0 = omega arith in
    let P : ℕ → Type 0 = λ n. FirstRefused T (placed_from part from (map f (x ∷ xs))) part n in
    subst P index (record {
      before = [];
      refused = f x;
      after = placed_from part (from + 1) (map f xs);
      split = refl;
      typed_before = All-nil (λ (c : Placed). T c.what);
      not_typed = let Q : Component → Type 0 = λ c. T c → ⊥ in subst Q (sym (ap f same)) unfit;
    })
first_refused T f (x ∷ xs) part from (suc place) item here fit unfit =
    let index : from + 1 + place ≡ from + suc place = omega arith in
    let P : ℕ → Type 0 = λ n. FirstRefused T (placed_from part from (map f (x ∷ xs))) part n in
    subst P index (refused_next (fit 0 x (omega arith))
    (first_refused T f xs part (from + 1) place item here (λ k d within. fit (suc k) d (omega arith)) unfit))

judged_here : {A U : Type 0} (T : Component → Type 0) (f : A → Component) (xs : List A) (part from : ℕ)
    (found : Option ℕ) (r : Result U Invalid) → FindsUnfit (λ x. T (f x)) xs found → Refuses part from found r
    → Judges T (placed_from part from (map f xs)) r
judged_here T f xs part from None (Ok u) w a =
    record { typed = all_placed T f xs part from w.none; refused = tt }
judged_here T f xs part from None (Err e) w a = let never : ⊥ = cc a.none in absurd never
judged_here {U = U} T f xs part from (Some place) r w a =
    let P : Result U Invalid → Type 0 = λ x. Judges T (placed_from part from (map f xs)) x in
    let unfit = w.some in
    let first = first_refused T f xs part from place unfit.item unfit.here unfit.fit_before unfit.unfit in
    subst P (sym a.some) (record { typed = tt; refused = first })

-- what is found in the list of a part, and what is answered then, is what is said of its components
pub judged : {A U : Type 0} {T : Component → Type 0} (f : A → Component) {xs ys : List A} {part first from : ℕ}
    {found : Option ℕ} {r : Result U Invalid} → xs ≡ ys → first ≡ from → FindsUnfit (λ x. T (f x)) xs found
    → Refuses part first found r → Judges T (placed_from part from (map f ys)) r
judged {A} {T = T} f {xs = xs} {ys = ys} {part = part} {first = first} {found = found} {r = r} same counted w a =
    let P : List A → Type 0 = λ x. Judges T (placed_from part first (map f x)) r in
    let Q : ℕ → Type 0 = λ n. Judges T (placed_from part n (map f ys)) r in
    subst Q counted (subst P same (judged_here T f xs part first found r w a))

-- ---- one part after another

refused_first : {T : Component → Type 0} {cs : List Placed} {part index : ℕ} (ds : List Placed)
    → FirstRefused T cs part index → FirstRefused T (cs ++ ds) part index
refused_first ds r = record {
  before = r.before;
  refused = r.refused;
  after = r.after ++ ds;
  split = ap (λ (x : List Placed). x ++ ds) r.split ∙ append_assoc r.before _ ds;
  typed_before = r.typed_before;
  not_typed = r.not_typed;
}

refused_second : {T : Component → Type 0} {ds : List Placed} {part index : ℕ} (cs : List Placed)
    → AreTyped T cs
    → FirstRefused T ds part index → FirstRefused T (cs ++ ds) part index
refused_second {T = T} cs typed r = record {
  before = cs ++ r.before;
  refused = r.refused;
  after = r.after;
  split = ap (λ (x : List Placed). cs ++ x) r.split ∙ sym (append_assoc cs r.before _);
  typed_before = All-append (λ (c : Placed). T c.what) cs r.before typed r.typed_before;
  not_typed = r.not_typed;
}

-- the check ends with the first part
pub stops : {U : Type 0} {T : Component → Type 0} {cs : List Placed} {e : Invalid} (ds : List Placed)
    → Judges {U = U} T cs (Err e) → Judges {U = U} T (cs ++ ds) (Err e)
stops {e = Part part index} ds j = record { typed = tt; refused = refused_first ds j.refused }
stops {e = OutOfMemory} ds j = record { typed = tt; refused = tt }

-- the first part is typed, and the check goes on with the next
pub goes_on : {U V : Type 0} {T : Component → Type 0} {cs ds : List Placed} {u : U} {r : Result V Invalid}
    → Judges T cs (Ok u) → Judges T ds r → Judges T (cs ++ ds) r
goes_on {T = T} {cs = cs} {ds = ds} {r = Ok v} i j =
    record { typed = All-append (λ (c : Placed). T c.what) cs ds i.typed j.typed; refused = tt }
goes_on {cs = cs} {r = Err (Part part index)} i j =
    record { typed = tt; refused = refused_second cs i.typed j.refused }
goes_on {r = Err OutOfMemory} i j = record { typed = tt; refused = tt }

-- no part comes after it
pub ends : {U : Type 0} {T : Component → Type 0} {cs : List Placed} {r : Result U Invalid}
    → Judges T cs r
    → Judges T (cs ++ []) r
ends {T = T} {cs = cs} {r = r} j =
    let P : List Placed → Type 0 = λ x. Judges T x r in subst P (sym (append-nil cs)) j

-- the answer of a check is handed on
pub handed_on : {U V : Type 0} {T : Component → Type 0} {cs : List Placed} {e : Invalid} (r : Result V Invalid)
    → IsErrAnd r (λ x. x ≡ e) → Judges {U = U} T cs (Err e) → Judges T cs r
handed_on (Ok v) is j = absurd is
handed_on {V = V} {T = T} {cs = cs} (Err x) is j =
    let P : Invalid → Type 0 = λ y. Judges {U = V} T cs (Err y) in
    subst P (sym is) (record { typed = tt; refused = j.refused })

-- where one is refused, not all are typed
refused_untyped : (T : Component → Type 0) (all : List Placed) (part index : ℕ)
    → FirstRefused T all part index
    → AreTyped T all → ⊥
refused_untyped T all part index r typed =
    let c : Placed = record { part = part; index = index; what = r.refused } in
    let P : List Placed → Type 0 = λ x. AreTyped T x in
    let Q : Placed → Type 0 = λ x. T x.what in
    let there : get_or (r.before ++ c ∷ r.after) (length r.before) c ≡ c =
    get_or-append_seam r.before c r.after c in
    let within : length r.before < length (r.before ++ c ∷ r.after) =
    omega (arith, length-append r.before (c ∷ r.after)) in
    r.not_typed (subst Q there (subst P r.split typed (length r.before) c within))

pub untyped : (T : Component → Type 0) (all : List Placed) (e : Invalid) → IfPart e (FirstRefused T all)
    → IfPart e (λ part index. AreTyped T all → ⊥)
untyped T all OutOfMemory r = tt
untyped T all (Part part index) r = refused_untyped T all part index r

-- ---- lists that are gone through side by side

-- a function's type index and its code are at one place
pub pair_at : {K X : Type 0} (ks : List K) (xs : List X) (i : ℕ) (k : K) (x : X) → length xs ≡ length ks
    → i < length xs → k ≡ get_or ks i k → x ≡ get_or xs i x
    → ◌≡◌ {A = K × X} (k, x) (get_or (zip ks xs) i (k, x))
pair_at {K} {X} ks xs i k x same within at_k at_x =
    let low : i < length ks = omega arith in
    let e : ◌≡◌ {A = K × X} (get_or (zip ks xs) i (k, x)) (get_or ks i k, get_or xs i x) =
    get_or-zip ks xs i (k, x) low within in
    let P : K → Type 0 = λ y. ◌≡◌ {A = K × X} (k, x) (y, x) in
    let Q : X → Type 0 = λ y. ◌≡◌ {A = K × X} (k, x) (get_or ks i k, y) in
    subst Q at_x (subst P at_k refl) ∙ sym e

pub length_pairs : {K X : Type 0} (ks : List K) (xs : List X) → length xs ≡ length ks
    → length (zip ks xs) ≡ length xs
length_pairs ks xs same = omega (arith, length-zip ks xs)

-- an item with its place
pub enumerated_at : {X : Type 0} (xs : List X) (i : ℕ) (x : X) → i < length xs → x ≡ get_or xs i x
    → ◌≡◌ {A = ℕ × X} (i, x) (get_or (enumerate_from 0 xs) i (i, x))
enumerated_at {X} xs i x within at =
    let e : ◌≡◌ {A = ℕ × X} (get_or (enumerate_from 0 xs) i (i, x)) (0 + i, get_or xs i x) =
    get_or-enumerate_from 0 xs i (i, x) within in
    let zero : i ≡ 0 + i = omega arith in
    let P : X → Type 0 = λ y. ◌≡◌ {A = ℕ × X} (i, x) (i, y) in
    let Q : ℕ → Type 0 = λ k. ◌≡◌ {A = ℕ × X} (i, x) (k, get_or xs i x) in
    subst Q zero (subst P at refl) ∙ sym e
