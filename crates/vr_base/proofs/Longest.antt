-- The longest of some grants, the first of equal ones, as it is found from left to right.
use Rattle.std.proofs.Common.{◌≡◌, ℕ, ◌<◌, ◌≤◌, max, Bool, true, false, ◌&&◌, cond, eqb, List, [], ◌∷◌, ◌++◌, length, map, find, fold, Option, None, Some, option_map, unwrap_or, All, ap, sym, ◌∙◌, refl, arith, append_assoc, append-nil, take, get_or, ◌+◌}
use Rattle.std.proofs.lemmas.Bool.{ne_eqb, eq-eqb, ltb-true, ltb-false, and_parts}
use Rattle.std.proofs.lemmas.List.Elements.{All-head, All-tail, All-append, All-cons, All-nil, All-push, filter_more}
use Rattle.std.proofs.lemmas.List.Folds.{fold-map, find-append}
use Rattle.std.proofs.lemmas.List.Sums.{fold-append}
use Rattle.vr_base.specs.Names.{covers}
use Rattle.vr_base.specs.Rights.{longest_grant, greatest_of, covering_grants, word_on, is_longer}

-- each before it is shorter, and none behind it is longer
pub record IsLongest (grants : List (List ℕ × ℕ)) (best : List ℕ × ℕ) : Type 0 where
  pub before : List (List ℕ × ℕ)
  pub after : List (List ℕ × ℕ)
  pub parts : grants ≡ before ++ best ∷ after
  pub shorter : All (λ g. length g.0 < length best.0) before
  pub no_longer : All (λ g. length g.0 ≤ length best.0) after

-- the best so far, none of none
abbrev pub IsBest : List (List ℕ × ℕ) → Option (List ℕ × ℕ) → Type 0
IsBest grants None = grants ≡ []
IsBest grants (Some best) = IsLongest grants best

abbrev longer_of : ℕ → List ℕ × ℕ → ℕ
longer_of n grant = max n (length grant.0)

upto : (m n : ℕ) (grants : List (List ℕ × ℕ)) → n ≤ m → All (λ g. length g.0 < m) grants → fold longer_of n grants ≤ m
upto m n [] le h = le
upto m n (g ∷ gs) le h =
    let head : length g.0 < m = All-head (λ g. length g.0 < m) g gs h in
    upto m (max n (length g.0)) gs (omega arith) (All-tail (λ g. length g.0 < m) g gs h)

stays : (m : ℕ) (grants : List (List ℕ × ℕ)) → All (λ g. length g.0 ≤ m) grants → fold longer_of m grants ≡ m
stays m [] h = refl
stays m (g ∷ gs) h =
    let head : length g.0 ≤ m = All-head (λ g. length g.0 ≤ m) g gs h in
    let same : max m (length g.0) ≡ m = omega arith in
    rw same (stays m gs (All-tail (λ g. length g.0 ≤ m) g gs h))

no_such : (m : ℕ) (grants : List (List ℕ × ℕ)) → All (λ g. length g.0 < m) grants → find (λ g. eqb (length g.0) m) grants ≡ None
no_such m [] h = refl
no_such m (g ∷ gs) h =
    let head : length g.0 < m = All-head (λ g. length g.0 < m) g gs h in
    rw (ne_eqb (length g.0) m (omega arith)) (no_such m gs (All-tail (λ g. length g.0 < m) g gs h))

greatest-at : (best : List ℕ × ℕ) (before after : List (List ℕ × ℕ)) → All (λ g. length g.0 < length best.0) before → All (λ g. length g.0 ≤ length best.0) after
    → greatest_of (map (λ g. length g.0) (before ++ best ∷ after)) ≡ length best.0
greatest-at best before after h k =
    let front : fold longer_of 0 before ≤ length best.0 = upto (length best.0) 0 before (omega arith) h in
    let here : max (fold longer_of 0 before) (length best.0) ≡ length best.0 = omega arith in
    fold-map max (λ (g : List ℕ × ℕ). length g.0) 0 (before ++ best ∷ after) ∙ fold-append longer_of 0 before (best ∷ after) ∙ rw here (stays (length best.0) after k)

find-at : (best : List ℕ × ℕ) (before after : List (List ℕ × ℕ)) → All (λ g. length g.0 < length best.0) before
    → find (λ g. eqb (length g.0) (length best.0)) (before ++ best ∷ after) ≡ Some best
find-at best before after h =
    find-append (λ g. eqb (length g.0) (length best.0)) before (best ∷ after) ∙ rw (no_such (length best.0) before h, eq-eqb (length best.0) (length best.0) refl) refl

longest-at : (best : List ℕ × ℕ) (before after : List (List ℕ × ℕ)) → All (λ g. length g.0 < length best.0) before → All (λ g. length g.0 ≤ length best.0) after
    → longest_grant (before ++ best ∷ after) ≡ Some best
longest-at best before after h k = rw (greatest-at best before after h k) (find-at best before after h)

pub longest_best : (grants : List (List ℕ × ℕ)) (best : Option (List ℕ × ℕ)) → IsBest grants best → longest_grant grants ≡ best
longest_best grants None h = rw h refl
longest_best grants (Some best) h = rw h.parts (longest-at best h.before h.after h.shorter h.no_longer)

longer_best : (grants : List (List ℕ × ℕ)) (best : List ℕ × ℕ) (grant : List ℕ × ℕ) → IsLongest grants best → length best.0 < length grant.0 → IsLongest (grants ++ grant ∷ []) grant
longer_best grants best grant h lt =
    let before : All (λ g. length g.0 < length grant.0) h.before = λ k d l. (let e = h.shorter k d l in omega arith) in
    let after : All (λ g. length g.0 < length grant.0) h.after = λ k d l. (let e = h.no_longer k d l in omega arith) in
    record {
      before = grants;
      after = [];
      parts = refl;
      shorter = rw h.parts (All-append (λ g. length g.0 < length grant.0) h.before (best ∷ h.after) before (All-cons (λ g. length g.0 < length grant.0) best h.after lt after));
      no_longer = All-nil (λ g. length g.0 ≤ length grant.0);
    }

shorter_best : (grants : List (List ℕ × ℕ)) (best : List ℕ × ℕ) (grant : List ℕ × ℕ) → IsLongest grants best → length grant.0 ≤ length best.0 → IsLongest (grants ++ grant ∷ []) best
shorter_best grants best grant h le = record {
  before = h.before;
  after = h.after ++ grant ∷ [];
  parts = ap (λ gs. gs ++ grant ∷ []) h.parts ∙ append_assoc h.before (best ∷ h.after) (grant ∷ []);
  shorter = h.shorter;
  no_longer = All-push (λ g. length g.0 ≤ length best.0) h.after grant h.no_longer le;
}

-- the best after one more grant
pub best_longer : (grants : List (List ℕ × ℕ)) (best : Option (List ℕ × ℕ)) (grant : List ℕ × ℕ) → IsBest grants best → is_longer best grant ≡ true → IsBest (grants ++ grant ∷ []) (Some grant)
best_longer grants None grant h t = record { before = []; after = []; parts = rw h refl; shorter = All-nil (λ g. length g.0 < length grant.0); no_longer = All-nil (λ g. length g.0 ≤ length grant.0) }
best_longer grants (Some best) grant h t = longer_best grants best grant h (ltb-true _ _ t)

pub best_kept : (grants : List (List ℕ × ℕ)) (best : Option (List ℕ × ℕ)) (grant : List ℕ × ℕ) → IsBest grants best → is_longer best grant ≡ false → IsBest (grants ++ grant ∷ []) best
best_kept grants None grant h t = cc
best_kept grants (Some best) grant h t = shorter_best grants best grant h (ltb-false _ _ t)

-- the word of the best
pub word_best : (path : List ℕ) (grants : List (List ℕ × ℕ)) (best : Option (List ℕ × ℕ)) → IsBest (covering_grants path grants) best → unwrap_or (option_map (λ g. g.1) best) 0 ≡ word_on path grants
word_best path grants best h = ap (λ b. unwrap_or (option_map (λ (g : List ℕ × ℕ). g.1) b) 0) (sym (longest_best (covering_grants path grants) best h))

covering_more : (path : List ℕ) (grants : List (List ℕ × ℕ)) (i : ℕ) (grant : List ℕ × ℕ) (t : Bool) → i < length grants → grant ≡ get_or grants i grant → covers grant.0 path ≡ t
    → covering_grants path (take (i + 1) grants) ≡ covering_grants path (take i grants) ++ cond t (grant ∷ []) []
covering_more path grants i grant t h e k = filter_more (λ g. covers g.0 path) grants i grant h ∙ rw (← e, k) refl

-- the best after one more grant, which is better
pub best_more : (path : List ℕ) (grants : List (List ℕ × ℕ)) (i : ℕ) (best : Option (List ℕ × ℕ)) (grant : List ℕ × ℕ) → i < length grants → grant ≡ get_or grants i grant
    → IsBest (covering_grants path (take i grants)) best → (covers grant.0 path && is_longer best grant) ≡ true → IsBest (covering_grants path (take (i + 1) grants)) (Some grant)
best_more path grants i best grant h e b t =
    let both = and_parts (covers grant.0 path) (is_longer best grant) t in
    rw (covering_more path grants i grant true h e both.0) (best_longer (covering_grants path (take i grants)) best grant b both.1)

-- the best after one more grant, which is not better
pub best_same : (path : List ℕ) (grants : List (List ℕ × ℕ)) (i : ℕ) (best : Option (List ℕ × ℕ)) (grant : List ℕ × ℕ) → i < length grants → grant ≡ get_or grants i grant
    → IsBest (covering_grants path (take i grants)) best → (covers grant.0 path && is_longer best grant) ≡ false → IsBest (covering_grants path (take (i + 1) grants)) best
best_same path grants i best grant h e b t = by_test (covers grant.0 path) refl t
  where
    by_test : (k : Bool) → covers grant.0 path ≡ k → (k && is_longer best grant) ≡ false → IsBest (covering_grants path (take (i + 1) grants)) best
    by_test true k l = rw (covering_more path grants i grant true h e k) (best_kept (covering_grants path (take i grants)) best grant b l)
    by_test false k l = rw (covering_more path grants i grant false h e k, append-nil) b
