-- The maps of sorted entries.
use Rattle.std.proofs.Common.{◌≡◌, ℕ, zero, suc, ◌<◌, ◌≤◌, get_or, arith, Bool, true, false, T, cond, not, List, [], ◌∷◌, length, Option, Some, None, refl, sym, ap, ◌∙◌}
use Rattle.std.specs.Ordering.{eq_by_cmp}
use Rattle.std.specs.Cmp.{eq_by_cmp_equiv}
use Rattle.std.specs.FinMap.{find, put, is_sorted, empty, get, insert, remove, len, entries, from_sorted, entries-from_sorted, entries-insert, get-from_sorted, get-remove, len-entries, len-empty, same_map, same_entries_map}
use Rattle.std.specs.FinMap.Entries.{is_sorted-put, is_sorted-where_key, find-where_key}
use Rattle.std.proofs.lemmas.Float.{T_from_true}
use Rattle.std.proofs.lemmas.List.{nil_from_length}
use Rattle.std.proofs.lemmas.Option.{slice_get-get_or}
use Rattle.std.specs.List.{slice_get}
use Rattle.vr_files.specs.FileMaps.{path_cmp}
use Rattle.vr_files.specs.Entries.{AreSorted, without}
use Rattle.vr_files.proofs.EntryLemmas.{paths_total, one_path}

true_from : (b : Bool) → T b → b ≡ true
true_from true h = refl
true_from false h = absurd h

module _ {V : Type 0} where
  sorted : (es : List (List ℕ × V)) → AreSorted es → T (is_sorted path_cmp es)
  sorted es s = T_from_true _ s

  pub entries-made : (es : List (List ℕ × V)) → AreSorted es → entries (from_sorted {R = path_cmp} es) ≡ es
  entries-made es s = entries-from_sorted path_cmp es (sorted es s)

  no_entries : entries (empty {X = V} {R = path_cmp}) ≡ []
  no_entries = nil_from_length _ (sym (len-entries empty) ∙ len-empty path_cmp V)

  pub made-nil : from_sorted {X = V} {R = path_cmp} [] ≡ empty
  made-nil = same_entries_map _ _ (entries-made [] refl ∙ sym no_entries)

  pub get-made : (es : List (List ℕ × V)) (q : List ℕ) → AreSorted es → get (from_sorted {R = path_cmp} es) q ≡ find path_cmp q es
  get-made es q s = get-from_sorted path_cmp es q (sorted es s)

  pub len-made : (es : List (List ℕ × V)) → AreSorted es → len (from_sorted {R = path_cmp} es) ≡ length es
  len-made es s = len-entries (from_sorted es) ∙ ap length (entries-made es s)

  pub put_sorted : (k : List ℕ) (v : V) (es : List (List ℕ × V)) → AreSorted es → AreSorted (put path_cmp k v es)
  put_sorted k v es s = true_from _ (is_sorted-put path_cmp paths_total k v es (sorted es s))

  pub without_sorted : (k : List ℕ) (es : List (List ℕ × V)) → AreSorted es → AreSorted (without k es)
  without_sorted k es s = true_from _ (is_sorted-where_key path_cmp (λ p. not (eq_by_cmp path_cmp k p)) es (sorted es s))

  pub made-put : (k : List ℕ) (v : V) (es : List (List ℕ × V)) → AreSorted es → from_sorted {R = path_cmp} (put path_cmp k v es) ≡ insert (from_sorted es) k v
  made-put k v es s = same_entries_map _ _ (entries-made (put path_cmp k v es) (put_sorted k v es s) ∙ ap (put path_cmp k v) (sym (entries-made es s)) ∙ sym (entries-insert paths_total (from_sorted es) k v))

  other_way : (b : Bool) (x : Option V) → cond (not b) x None ≡ cond b None x
  other_way true x = refl
  other_way false x = refl

  pub find-without : (k q : List ℕ) (es : List (List ℕ × V)) → find path_cmp q (without k es) ≡ cond (eq_by_cmp path_cmp q k) None (find path_cmp q es)
  find-without k q es =
      find-where_key path_cmp (λ p. not (eq_by_cmp path_cmp k p)) q (λ x t. ap (λ z. not (eq_by_cmp path_cmp k z)) (sym (one_path q x t))) es
      ∙ other_way (eq_by_cmp path_cmp k q) _ ∙ ap (λ b. cond b None (find path_cmp q es)) ((eq_by_cmp_equiv paths_total).symm k q)

  pub made-without : (k : List ℕ) (es : List (List ℕ × V)) → AreSorted es → from_sorted {R = path_cmp} (without k es) ≡ remove (from_sorted es) k
  made-without k es s = same_map paths_total one_path _ _ (λ q.
      get-made (without k es) q (without_sorted k es s) ∙ find-without k q es
      ∙ sym (get-remove paths_total (from_sorted es) k q ∙ ap (cond (eq_by_cmp path_cmp q k) None) (get-made es q s)))

  -- entry k, where there are so many
  pub entry_there : (es fs : List (List ℕ × V)) (k : ℕ) (e : List ℕ × V) → k < length fs → e ≡ get_or fs k e → fs ≡ es → AreSorted es
      → Some (e.0, e.1) ≡ slice_get (entries (from_sorted {R = path_cmp} es)) k
  entry_there es fs k e h is same s = ap Some is ∙ sym (slice_get-get_or fs k e h) ∙ ap (λ x. slice_get x k) (same ∙ sym (entries-made es s))

  pub entry_past : (es fs : List (List ℕ × V)) (k : ℕ) → length fs ≤ k → fs ≡ es → AreSorted es → None ≡ slice_get (entries (from_sorted {R = path_cmp} es)) k
  entry_past es fs k h same s = past fs k h ∙ ap (λ x. slice_get x k) (same ∙ sym (entries-made es s))
    where
      past : (xs : List (List ℕ × V)) (k : ℕ) → length xs ≤ k → None ≡ slice_get xs k
      past [] k h = refl
      past (x ∷ xs) zero h = absurd (omega arith)
      past (x ∷ xs) (suc k) h = past xs k (omega arith)
