-- Places of paths in sorted entries, and what `find` and `put` do there.
use Rattle.std.proofs.Common.{inl, inr, ◌≡◌, ℕ, zero, suc, ◌<◌, ◌≤◌, true, cond, not, Ordering, List, [], ◌∷◌, ◌++◌, length, take, drop, get_or, set, Some, None, Result, Ok, Err, IfOk, IfErr, refl, sym, ap, subst, ◌∙◌, arith}
use Rattle.std.specs.List.{HoldsAt, AllWithin}
use Rattle.std.specs.List.Sorted.{IsNonDecreasingBy, IsPartitionPoint, IsSearchInRange, IsBinarySearchResult}
use Rattle.std.specs.declared.cmp.Ordering.TheVariants.{Less, Equal, Greater}
use Rattle.std.specs.Ordering.{is_eq, is_lt, ordering_reverse, ordering_index}
use Rattle.std.proofs.lemmas.Bool.{and_parts, cases_lt}
use Rattle.std.specs.Cmp.{IsTotalOrder, tied_itself}
use Rattle.std.specs.Cmp.Lexicographic.{nat_list_cmp_total}
use Rattle.std.specs.FinMap.{find, put, IsAntisymmetric, slice_cmp-IsAntisymmetric, nat_cmp-IsAntisymmetric}
use Rattle.std.specs.FinMap.Entries.{below_all, by_order}
use Rattle.vr_files.specs.FileMaps.{path_cmp}
use Rattle.vr_files.specs.Entries.{AreSorted, AreBelow, AreAbove, IsAt, IsGap, without}

pub paths_total : IsTotalOrder path_cmp
paths_total = nat_list_cmp_total

pub one_path : IsAntisymmetric path_cmp
one_path = slice_cmp-IsAntisymmetric nat_cmp-IsAntisymmetric

less : (o : Ordering) → is_lt o ≡ true → o ≡ Less
less Less h = refl
less Equal h = cc
less Greater h = cc

pub turned : (x y : List ℕ) (o : Ordering) → path_cmp x y ≡ o → path_cmp y x ≡ ordering_reverse o
turned x y o h = paths_total.antisymm y x ∙ ap ordering_reverse h

tied : (x y : List ℕ) → x ≡ y → path_cmp y x ≡ Equal
tied x y e = ap (λ z. path_cmp y z) e ∙ tied_itself paths_total y

-- the answer to a path at a lower path isn't above
below_ends : (o p : Ordering) (x y k : List ℕ) → path_cmp x y ≡ Less → path_cmp x k ≡ o → path_cmp y k ≡ p → ordering_index o ≤ ordering_index p
below_ends o Less x y k h a b = let e : o ≡ Less = sym a ∙ paths_total.trans x y k h b in subst (λ r. ordering_index r ≤ 0) (sym e) (omega arith)
below_ends o Equal x y k h a b =
    let e : o ≡ Less = sym a ∙ sym (ap (λ z. path_cmp x z) (one_path y k b)) ∙ h in subst (λ r. ordering_index r ≤ 1) (sym e) (omega arith)
below_ends Less Greater x y k h a b = omega arith
below_ends Equal Greater x y k h a b = omega arith
below_ends Greater Greater x y k h a b = omega arith

module _ {V : Type 0} where
  all_less : (x : List ℕ) (es : List (List ℕ × V)) → below_all path_cmp x es ≡ true → AreAbove x es
  all_less x [] h = tt
  all_less x (e ∷ es) h = (less _ (and_parts _ _ h).0, all_less x es (and_parts _ _ h).1)

  less_at : (x : List ℕ) (es : List (List ℕ × V)) (i : ℕ) (d : List ℕ × V) → AreAbove x es → i < length es → path_cmp x (get_or es i d).0 ≡ Less
  less_at x [] i d a h = absurd (omega arith)
  less_at x (e ∷ es) zero d a h = a.0
  less_at x (e ∷ es) (suc i) d a h = less_at x es i d a.1 (omega arith)

  less_between : (es : List (List ℕ × V)) (i j : ℕ) (d : List ℕ × V) → AreSorted es → i < j → j < length es → path_cmp (get_or es i d).0 (get_or es j d).0 ≡ Less
  less_between [] i j d s a b = absurd (omega arith)
  less_between (e ∷ es) i zero d s a b = absurd (omega arith)
  less_between (e ∷ es) zero (suc j) d s a b = less_at e.0 es j d (all_less e.0 es (and_parts _ _ s).0) (omega arith)
  less_between (e ∷ es) (suc i) (suc j) d s a b = less_between es i j d (and_parts _ _ s).1 (omega arith) (omega arith)

  -- the answers to a path rise
  pub rising : (k : List ℕ) (es : List (List ℕ × V)) → AreSorted es → IsNonDecreasingBy (λ e. ordering_index (path_cmp e.0 k)) es
  rising k es s i j d a b = elim (cases_lt i j) [
    | inl h ↦ below_ends _ _ (get_or es i d).0 (get_or es j d).0 k (less_between es i j d s h b) refl refl
    | inr h ↦ let e : i ≡ j = omega arith in subst (λ n. ordering_index (path_cmp (get_or es i d).0 k) ≤ ordering_index (path_cmp (get_or es n d).0 k)) e (omega arith)
  ]

  -- where a path is found
  pub at_place : (k : List ℕ) (es : List (List ℕ × V)) (i : ℕ) → AreSorted es → i < length es → HoldsAt (λ e. path_cmp e.0 k ≡ Equal) es i → IsAt k es i
  at_place k [] i s h is = absurd (omega arith)
  at_place k (e ∷ es) zero s h is =
      let same : e.0 ≡ k = one_path e.0 k (is e) in
      record { within = h; here = λ d. same; below = tt; above = subst (λ x. AreAbove x es) same (all_less e.0 es (and_parts _ _ s).0) }
  at_place k (e ∷ es) (suc i) s h is =
      let rest = at_place k es i (and_parts _ _ s).1 (omega arith) (λ d. is d) in
      let lower : path_cmp e.0 k ≡ Less = ap (λ x. path_cmp e.0 x) (sym (rest.here e)) ∙ less_at e.0 es i e (all_less e.0 es (and_parts _ _ s).0) (omega arith) in
      record { within = h; here = λ d. rest.here d; below = (turned e.0 k Less lower, rest.below); above = rest.above }

  all_turned_below : (k : List ℕ) (es : List (List ℕ × V)) (i : ℕ) → AllWithin (λ e. path_cmp e.0 k ≡ Less) es 0 i → i ≤ length es → AreBelow k (take i es)
  all_turned_below k es zero a h = tt
  all_turned_below k [] (suc i) a h = absurd (omega arith)
  all_turned_below k (e ∷ es) (suc i) a h =
      (turned e.0 k Less (a 0 e (omega arith) (omega arith)), all_turned_below k es i (λ j d low high. a (suc j) d (omega arith) (omega arith)) (omega arith))

  all_turned_above : (k : List ℕ) (es : List (List ℕ × V)) (i : ℕ) → AllWithin (λ e. path_cmp e.0 k ≡ Greater) es i (length es) → AreAbove k (drop i es)
  all_turned_above k [] zero a = tt
  all_turned_above k [] (suc i) a = tt
  all_turned_above k (e ∷ es) zero a =
      (turned e.0 k Greater (a 0 e (omega arith) (omega arith)), all_turned_above k es zero (λ j d low high. a (suc j) d (omega arith) (omega arith)))
  all_turned_above k (e ∷ es) (suc i) a = all_turned_above k es i (λ j d low high. a (suc j) d (omega arith) (omega arith))

  -- where it would stand
  pub at_gap : (k : List ℕ) (es : List (List ℕ × V)) (i : ℕ) → i ≤ length es → IsPartitionPoint (λ e. path_cmp e.0 k ≡ Less) (λ e. path_cmp e.0 k ≡ Greater) es i → IsGap k es i
  at_gap k es i h p = record { within = h; below = all_turned_below k es i p.0 h; above = all_turned_above k es i p.1 }

  pub find_at : (k : List ℕ) (es : List (List ℕ × V)) (i : ℕ) (d : List ℕ × V) → IsAt k es i → find path_cmp k es ≡ Some (get_or es i d).1
  find_at k es i d at = go es i at.within at.below (at.here d)
    where
      go : (es : List (List ℕ × V)) (i : ℕ) → i < length es → AreBelow k (take i es) → (get_or es i d).0 ≡ k → find path_cmp k es ≡ Some (get_or es i d).1
      go [] i h b e = absurd (omega arith)
      go (f ∷ es) zero h b e = ap (λ r. cond (is_eq r) (Some f.1) (find path_cmp k es)) (tied f.0 k e)
      go (f ∷ es) (suc i) h b e = ap (λ r. cond (is_eq r) (Some f.1) (find path_cmp k es)) b.0 ∙ go es i (omega arith) b.1 e

  pub find_above : (k : List ℕ) (es : List (List ℕ × V)) → AreAbove k es → find path_cmp k es ≡ None
  find_above k [] a = refl
  find_above k (e ∷ es) a = ap (λ r. cond (is_eq r) (Some e.1) (find path_cmp k es)) a.0 ∙ find_above k es a.1

  pub find_gap : (k : List ℕ) (es : List (List ℕ × V)) (i : ℕ) → IsGap k es i → find path_cmp k es ≡ None
  find_gap k es i gap = go es i gap.within gap.below gap.above
    where
      go : (es : List (List ℕ × V)) (i : ℕ) → i ≤ length es → AreBelow k (take i es) → AreAbove k (drop i es) → find path_cmp k es ≡ None
      go es zero h b a = find_above k es a
      go [] (suc i) h b a = refl
      go (f ∷ es) (suc i) h b a = ap (λ r. cond (is_eq r) (Some f.1) (find path_cmp k es)) b.0 ∙ go es i (omega arith) b.1 a

  pub put_at : (k : List ℕ) (v : V) (es : List (List ℕ × V)) (i : ℕ) (d : List ℕ × V) → IsAt k es i → put path_cmp k v es ≡ set es i ((get_or es i d).0, v)
  put_at k v es i d at = go es i at.within at.below (at.here d)
    where
      go : (es : List (List ℕ × V)) (i : ℕ) → i < length es → AreBelow k (take i es) → (get_or es i d).0 ≡ k → put path_cmp k v es ≡ set es i ((get_or es i d).0, v)
      go [] i h b e = absurd (omega arith)
      go (f ∷ es) zero h b e = ap (λ r. by_order r ((k, v) ∷ f ∷ es) ((f.0, v) ∷ es) (f ∷ put path_cmp k v es)) (tied f.0 k e)
      go (f ∷ es) (suc i) h b e = ap (λ r. by_order r ((k, v) ∷ f ∷ es) ((f.0, v) ∷ es) (f ∷ put path_cmp k v es)) b.0 ∙ ap (λ x. f ∷ x) (go es i (omega arith) b.1 e)

  pub put_gap : (k : List ℕ) (v : V) (es : List (List ℕ × V)) (i : ℕ) → IsGap k es i → put path_cmp k v es ≡ take i es ++ (k, v) ∷ drop i es
  put_gap k v es i gap = go es i gap.within gap.below gap.above
    where
      go : (es : List (List ℕ × V)) (i : ℕ) → i ≤ length es → AreBelow k (take i es) → AreAbove k (drop i es) → put path_cmp k v es ≡ take i es ++ (k, v) ∷ drop i es
      go [] zero h b a = refl
      go (f ∷ es) zero h b a = ap (λ r. by_order r ((k, v) ∷ f ∷ es) ((f.0, v) ∷ es) (f ∷ put path_cmp k v es)) a.0
      go [] (suc i) h b a = absurd (omega arith)
      go (f ∷ es) (suc i) h b a = ap (λ r. by_order r ((k, v) ∷ f ∷ es) ((f.0, v) ∷ es) (f ∷ put path_cmp k v es)) b.0 ∙ ap (λ x. f ∷ x) (go es i (omega arith) b.1 a)

  without_above : (k : List ℕ) (es : List (List ℕ × V)) → AreAbove k es → without k es ≡ es
  without_above k [] a = refl
  without_above k (e ∷ es) a = ap (λ r. cond (not (is_eq r)) (e ∷ without k es) (without k es)) a.0 ∙ ap (λ x. e ∷ x) (without_above k es a.1)

  pub without_at : (k : List ℕ) (es : List (List ℕ × V)) (i : ℕ) (d : List ℕ × V) → IsAt k es i → without k es ≡ take i es ++ drop (suc i) es
  without_at k es i d at = go es i at.within at.below at.above (at.here d)
    where
      go : (es : List (List ℕ × V)) (i : ℕ) → i < length es → AreBelow k (take i es) → AreAbove k (drop (suc i) es) → (get_or es i d).0 ≡ k → without k es ≡ take i es ++ drop (suc i) es
      go [] i h b a e = absurd (omega arith)
      go (f ∷ es) zero h b a e = ap (λ r. cond (not (is_eq r)) (f ∷ without k es) (without k es)) (tied f.0 k e) ∙ without_above k es a
      go (f ∷ es) (suc i) h b a e = ap (λ r. cond (not (is_eq r)) (f ∷ without k es) (without k es)) b.0 ∙ ap (λ x. f ∷ x) (go es i (omega arith) b.1 a e)

  pub without_gap : (k : List ℕ) (es : List (List ℕ × V)) (i : ℕ) → IsGap k es i → without k es ≡ es
  without_gap k es i gap = go es i gap.within gap.below gap.above
    where
      go : (es : List (List ℕ × V)) (i : ℕ) → i ≤ length es → AreBelow k (take i es) → AreAbove k (drop i es) → without k es ≡ es
      go es zero h b a = without_above k es a
      go [] (suc i) h b a = refl
      go (f ∷ es) (suc i) h b a = ap (λ r. cond (not (is_eq r)) (f ∷ without k es) (without k es)) b.0 ∙ ap (λ x. f ∷ x) (go es i (omega arith) b.1 a)

  -- what a search by halving answers
  pub search_found : (k : List ℕ) (es : List (List ℕ × V)) (r : Result ℕ ℕ) → AreSorted es → IsSearchInRange r (length es) → IsBinarySearchResult (λ e. path_cmp e.0 k) es r → IfOk r (IsAt k es)
  search_found k es (Ok i) s h is = at_place k es i s h is
  search_found k es (Err i) s h is = tt

  pub search_absent : (k : List ℕ) (es : List (List ℕ × V)) (r : Result ℕ ℕ) → AreSorted es → IsSearchInRange r (length es) → IsBinarySearchResult (λ e. path_cmp e.0 k) es r → IfErr r (IsGap k es)
  search_absent k es (Ok i) s h is = tt
  search_absent k es (Err i) s h is = at_gap k es i h (is (rising k es s))

  pub rest_sorted : (e : List ℕ × V) (es : List (List ℕ × V)) → AreSorted (e ∷ es) → AreSorted es
  rest_sorted e es s = (and_parts _ _ s).1

  pub above_first : (e : List ℕ × V) (es : List (List ℕ × V)) → AreSorted (e ∷ es) → AreAbove e.0 es
  above_first e es s = all_less e.0 es (and_parts _ _ s).0

  -- where a path was put
  pub at_put : (k : List ℕ) (v : V) (es : List (List ℕ × V)) (i : ℕ) → IsGap k es i → IsAt k (take i es ++ (k, v) ∷ drop i es) i
  at_put k v es i gap = go es i gap.within gap.below gap.above
    where
      go : (es : List (List ℕ × V)) (i : ℕ) → i ≤ length es → AreBelow k (take i es) → AreAbove k (drop i es) → IsAt k (take i es ++ (k, v) ∷ drop i es) i
      go es zero h b a = record { within = omega arith; here = λ d. refl; below = tt; above = a }
      go [] (suc i) h b a = absurd (omega arith)
      go (e ∷ es) (suc i) h b a =
          let rest = go es i (omega arith) b.1 a in
          record { within = omega (arith, rest.within); here = λ d. rest.here d; below = (b.0, rest.below); above = rest.above }

  pub value_put : (k : List ℕ) (v : V) (es : List (List ℕ × V)) (i : ℕ) (d : List ℕ × V) → i ≤ length es → get_or (take i es ++ (k, v) ∷ drop i es) i d ≡ (k, v)
  value_put k v es zero d h = refl
  value_put k v [] (suc i) d h = absurd (omega arith)
  value_put k v (e ∷ es) (suc i) d h = value_put k v es i d (omega arith)
