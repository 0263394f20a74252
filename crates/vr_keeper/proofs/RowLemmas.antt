-- The rows of a store with changes.
use Rattle.std.proofs.Common.{◌≡◌, ℕ, true, false, cond, List, [], ◌∷◌, ◌++◌, take, get_or, length, ◌<◌, ◌+◌, Option, Some, None, refl, sym, ap, subst, ◌∙◌}
use Rattle.std.proofs.lemmas.List.{take_more, append-nil}
use Rattle.std.specs.Prelude.{unwrap_or, is_none, filter}
use Rattle.std.specs.Ordering.{eq_by_cmp}
use Rattle.std.specs.FinMap.{find, get, insert, get-insert, get-empty, same_map}
use Rattle.vr_files.specs.FileMaps.{FileMap, no_files, path_cmp}
use Rattle.vr_files.specs.Entries.{AreSorted, AreAbove}
use Rattle.vr_files.specs.Changes.{Change, applied}
use Rattle.vr_files.proofs.EntryLemmas.{paths_total, one_path, rest_sorted, above_first, find_above}
use Rattle.vr_files.proofs.OverlayLemmas.{one, get-applied}
use Rattle.vr_keeper.specs.Keepers.{Row, with_rows, rows_map, is_untouched, edited_rows, changed_rows}

edited_rows-append : (a b : List Change) → edited_rows (a ++ b) ≡ edited_rows a ++ edited_rows b
edited_rows-append [] b = refl
edited_rows-append ((path, None) ∷ a) b = edited_rows-append a b
edited_rows-append ((path, Some body) ∷ a) b = ap (λ x. (path, body) ∷ x) (edited_rows-append a b)

-- the rows of one change more
pub edited_rows-more : (changes : List Change) (i : ℕ) (e : Change) → i < length changes → e ≡ get_or changes i e → edited_rows (take (i + 1) changes) ≡ edited_rows (take i changes) ++ edited_rows (e ∷ [])
edited_rows-more changes i e h is =
    ap edited_rows (take_more changes i e h ∙ ap (λ x. take i changes ++ x ∷ []) (sym is)) ∙ edited_rows-append (take i changes) (e ∷ [])

with_rows-append : (map : FileMap) (a b : List Row) → with_rows map (a ++ b) ≡ with_rows (with_rows map a) b
with_rows-append map [] b = refl
with_rows-append map (row ∷ a) b = with_rows-append (insert map row.0 row.1) a b

-- the files of the rows that no change touches
untouched_rows : (changes : List Change) (rows : List Row) (m n : FileMap) → ((q : List ℕ) → get m q ≡ cond (is_none (find path_cmp q changes)) (get n q) None)
    → (q : List ℕ) → get (with_rows m (filter (is_untouched changes) rows)) q ≡ cond (is_none (find path_cmp q changes)) (get (with_rows n rows) q) None
untouched_rows changes [] m n h q = h q
untouched_rows changes (row ∷ rows) m n h q =
    elim (is_untouched changes row) as (λ t. is_untouched changes row ≡ t
    → get (with_rows m (cond t (row ∷ filter (is_untouched changes) rows) (filter (is_untouched changes) rows))) q ≡ cond (is_none (find path_cmp q changes)) (get (with_rows (insert n row.0 row.1) rows) q) None) [
      | true ↦ λ t. untouched_rows changes rows (insert m row.0 row.1) (insert n row.0 row.1) (λ p.
          get-insert paths_total m row.0 row.1 p
          ∙ elim (eq_by_cmp path_cmp p row.0) as (λ e. eq_by_cmp path_cmp p row.0 ≡ e → cond e (Some row.1) (get m p) ≡ cond (is_none (find path_cmp p changes)) (cond e (Some row.1) (get n p)) None) [
            | true ↦ λ e. sym (ap (λ b. cond b (Some row.1) None) (ap (λ k. is_none (find path_cmp k changes)) (one p row.0 e) ∙ t))
            | false ↦ λ e. h p
          ] refl
          ∙ ap (λ v. cond (is_none (find path_cmp p changes)) v None) (sym (get-insert paths_total n row.0 row.1 p))) q
      | false ↦ λ t. untouched_rows changes rows m (insert n row.0 row.1) (λ p.
          h p
          ∙ elim (eq_by_cmp path_cmp p row.0) as (λ e. eq_by_cmp path_cmp p row.0 ≡ e → cond (is_none (find path_cmp p changes)) (get n p) None ≡ cond (is_none (find path_cmp p changes)) (cond e (Some row.1) (get n p)) None) [
            | true ↦ λ e. let none : is_none (find path_cmp p changes) ≡ false = ap (λ k. is_none (find path_cmp k changes)) (one p row.0 e) ∙ t in
                ap (λ b. cond b (get n p) None) none ∙ sym (ap (λ b. cond b (Some row.1) None) none)
            | false ↦ λ e. refl
          ] refl
          ∙ ap (λ v. cond (is_none (find path_cmp p changes)) v None) (sym (get-insert paths_total n row.0 row.1 p))) q
    ] refl

-- a body that was found, or what was there
abbrev found_or : Option (Option (List ℕ)) → Option (List ℕ) → Option (List ℕ)
found_or None old = old
found_or (Some None) old = old
found_or (Some (Some body)) old = Some body

touched_rows : (changes : List Change) (m : FileMap) (q : List ℕ) → AreSorted changes → get (with_rows m (edited_rows changes)) q ≡ found_or (find path_cmp q changes) (get m q)
touched_rows [] m q s = refl
touched_rows ((path, None) ∷ changes) m q s =
    touched_rows changes m q (rest_sorted (path, None) changes s)
    ∙ elim (eq_by_cmp path_cmp q path) as (λ t. eq_by_cmp path_cmp q path ≡ t → found_or (find path_cmp q changes) (get m q) ≡ found_or (cond t (Some None) (find path_cmp q changes)) (get m q)) [
      | true ↦ λ t. ap (λ o. found_or o (get m q)) (find_above q changes (subst (λ k. AreAbove k changes) (sym (one q path t)) (above_first (path, None) changes s)))
      | false ↦ λ t. refl
    ] refl
touched_rows ((path, Some body) ∷ changes) m q s =
    touched_rows changes (insert m path body) q (rest_sorted (path, Some body) changes s) ∙ ap (λ o. found_or (find path_cmp q changes) o) (get-insert paths_total m path body q)
    ∙ elim (eq_by_cmp path_cmp q path) as (λ t. eq_by_cmp path_cmp q path ≡ t
    → found_or (find path_cmp q changes) (cond t (Some body) (get m q)) ≡ found_or (cond t (Some (Some body)) (find path_cmp q changes)) (get m q)) [
      | true ↦ λ t. ap (λ o. found_or o (Some body)) (find_above q changes (subst (λ k. AreAbove k changes) (sym (one q path t)) (above_first (path, Some body) changes s)))
      | false ↦ λ t. refl
    ] refl

both : (o : Option (Option (List ℕ))) (old : Option (List ℕ)) → found_or o (cond (is_none o) old None) ≡ unwrap_or o old
both None old = refl
both (Some None) old = refl
both (Some (Some body)) old = refl

none_first : (changes : List Change) (q : List ℕ) → get no_files q ≡ cond (is_none (find path_cmp q changes)) (get no_files q) None
none_first changes q = elim (is_none (find path_cmp q changes)) as (λ b. get no_files q ≡ cond b (get no_files q) None) [ true ↦ refl | false ↦ get-empty path_cmp q ]

-- rows without changes
pub unchanged_rows : (rows : List Row) → changed_rows rows [] ≡ rows
unchanged_rows rows = append-nil (filter (is_untouched []) rows) ∙ all_kept rows
  where
    all_kept : (rows : List Row) → filter (is_untouched []) rows ≡ rows
    all_kept [] = refl
    all_kept (row ∷ rows) = ap (λ kept. row ∷ kept) (all_kept rows)

-- the files of rows with changes are those of the rows, with the changes
pub rows_map-changed : (rows : List Row) (changes : List Change) → AreSorted changes → rows_map (changed_rows rows changes) ≡ applied (rows_map rows) changes
rows_map-changed rows changes s = same_map paths_total one_path _ _ (λ q.
    let first = with_rows no_files (filter (is_untouched changes) rows) in
    ap (λ m. get m q) (with_rows-append no_files (filter (is_untouched changes) rows) (edited_rows changes))
    ∙ touched_rows changes first q s ∙ ap (λ o. found_or (find path_cmp q changes) o) (untouched_rows changes rows no_files no_files (none_first changes) q)
    ∙ both (find path_cmp q changes) (get (rows_map rows) q) ∙ sym (get-applied (rows_map rows) changes q s))
