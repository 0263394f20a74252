-- Rows that are read one after the other: which of them are bad, and what files they make.
use Rattle.std.proofs.Common.{◌≡◌, ℕ, Bool, true, false, cond, List, [], ◌∷◌, ◌++◌, map, length, Option, Some, None, Result, Ok, Err, refl, sym, ap, ◌∙◌, append_assoc, arith}
use Rattle.std.specs.Prelude.{not, ◌||◌, ◌==◌, is_some, bytes_eq}
use Rattle.std.specs.List.{list_any}
use Rattle.std.proofs.lemmas.List.{append-nil, length-map}
use Rattle.std.proofs.lemmas.Bool.Decides.{nat_tests}
use Rattle.std.proofs.lemmas.Map.Text.{is_eq-slice_cmp}
use Rattle.std.specs.FinMap.{get, insert, get-insert, get-empty}
use Rattle.std.specs.Cmp.Lexicographic.{nat_list_cmp_total, bytes_decides}
use Rattle.vr_base.specs.Checks.{Tells}
use Rattle.vr_files.specs.FileMaps.{FileMap, no_files, path_cmp}
use Rattle.vr_keeper.specs.Keepers.{Row, with_rows, rows_map, has_no_name}
use Rattle.vr_core.specs.Opening.{is_bad, is_refused, bad_row, bad_row_after, row_fault, opening_of, told}
use Rattle.vr_core.specs.declared.opening.StartFault.{StartFault}
use Rattle.vr_core.specs.declared.opening.StartFault.TheVariants.{KeeperFailed, BadRow, OutOfMemory}

-- the names of rows
abbrev pub names : List Row → List (List ℕ)
names rows = map (λ row. row.0) rows

-- ---- the files of rows

-- a name has a file where it had one before, or a row has it
has_file : (files : FileMap) (rows : List Row) (name : List ℕ) → is_some (get (with_rows files rows) name) ≡ (is_some (get files name) || list_any (bytes_eq name) (names rows))
has_file files [] name = elim (is_some (get files name)) as (λ b. b ≡ (b || false)) [ true ↦ refl | false ↦ refl ]
has_file files (row ∷ rows) name =
    has_file (insert files row.0 row.1) rows name
    ∙ ap (λ found. is_some found || list_any (bytes_eq name) (names rows))
    (get-insert nat_list_cmp_total files row.0 row.1 name ∙ ap (λ same. cond same (Some row.1) (get files name)) (is_eq-slice_cmp name row.0))
    ∙ by_name (bytes_eq name row.0) (get files name)
  where
    by_name : (same : Bool) (old : Option (List ℕ)) → (is_some (cond same (Some row.1) old) || list_any (bytes_eq name) (names rows)) ≡ (is_some old || (same || list_any (bytes_eq name) (names rows)))
    by_name true None = refl
    by_name true (Some body) = refl
    by_name false None = refl
    by_name false (Some body) = refl

-- a row is refused beside the files of the rows before it where it is bad after them
pub refused_where_bad : (rows : List Row) (row : Row) → is_refused (rows_map rows) row ≡ is_bad (names rows) row
refused_where_bad rows row = rw (has_file no_files rows row.0, get-empty path_cmp row.0) refl

-- the files of one row more
pub with_rows-push : (files : FileMap) (rows : List Row) (row : Row) → with_rows files (rows ++ row ∷ []) ≡ insert (with_rows files rows) row.0 row.1
with_rows-push files [] row = refl
with_rows-push files (first ∷ rows) row = with_rows-push (insert files first.0 first.1) rows row

-- rows that make no files are none
pub no_rows : (rows : List Row) → rows_map rows ≡ no_files → rows ≡ []
no_rows [] e = refl
no_rows (row ∷ rows) e =
    let there = has_file (insert no_files row.0 row.1) rows row.0 in
    let absent : is_some (get (rows_map (row ∷ rows)) row.0) ≡ false = rw e (ap is_some (get-empty path_cmp row.0)) in
    let first : is_some (get (insert no_files row.0 row.1) row.0) ≡ true =
    ap is_some (get-insert nat_list_cmp_total no_files row.0 row.1 row.0 ∙ ap (λ same. cond same (Some row.1) (get no_files row.0)) (is_eq-slice_cmp row.0 row.0 ∙ (bytes_decides row.0 row.0).1 refl)) in
    let made : is_some (get (rows_map (row ∷ rows)) row.0) ≡ true = there ∙ ap (λ b. b || list_any (bytes_eq row.0) (names rows)) first in
    cc

-- ---- the first bad row

-- where the rows so far are good, the first bad one is among those after them
bad_after-good : (before : List (List ℕ)) (rows more : List Row) → bad_row_after before rows ≡ None → bad_row_after before (rows ++ more) ≡ bad_row_after (before ++ names rows) more
bad_after-good before [] more good = ap (λ b. bad_row_after b more) (sym (append-nil before))
bad_after-good before (row ∷ rows) more good = by_bad (is_bad before row) refl (bad_after-good (before ++ row.0 ∷ []) rows more)
  where
    by_bad : (bad : Bool) → is_bad before row ≡ bad
        → (bad_row_after (before ++ row.0 ∷ []) rows ≡ None → bad_row_after (before ++ row.0 ∷ []) (rows ++ more) ≡ bad_row_after ((before ++ row.0 ∷ []) ++ names rows) more)
        → cond bad (Some (length before)) (bad_row_after (before ++ row.0 ∷ []) (rows ++ more)) ≡ bad_row_after (before ++ row.0 ∷ names rows) more
    by_bad true e next = absurd (let h : Some (length before) ≡ None = rw e at good in let no : ⊥ = cc in no)
    by_bad false e next =
        let rest = rw e at good in
        next rest ∙ ap (λ b. bad_row_after b more) (append_assoc before (row.0 ∷ []) (names rows))

bad-good : (rows : List Row) (row : Row) (more : List Row) → bad_row rows ≡ None
    → bad_row (rows ++ row ∷ more) ≡ cond (is_bad (names rows) row) (Some (length rows)) (bad_row_after (names rows ++ row.0 ∷ []) more)
bad-good rows row more good =
    bad_after-good [] rows (row ∷ more) good ∙ ap (λ n. cond (is_bad (names rows) row) (Some n) (bad_row_after (names rows ++ row.0 ∷ []) more)) (length-map {A = Row} rows (λ r. r.0))

-- a row that is refused is the first bad one
pub bad_here : (rows : List Row) (row : Row) (more : List Row) → bad_row rows ≡ None → is_refused (rows_map rows) row ≡ true
    → opening_of (rows ++ row ∷ more) ≡ Err (row_fault (length rows))
bad_here rows row more good refused =
    let bad = sym (refused_where_bad rows row) ∙ refused in
    let first : bad_row (rows ++ row ∷ more) ≡ Some (length rows) = rw bad at (bad-good rows row more good) in
    rw first refl

-- a row that isn't refused is good
pub good_here : (rows : List Row) (row : Row) → bad_row rows ≡ None → is_refused (rows_map rows) row ≡ false → bad_row (rows ++ row ∷ []) ≡ None
good_here rows row good made =
    let bad = sym (refused_where_bad rows row) ∙ made in
    rw bad at (bad-good rows row [] good)

-- rows that are all good make their files
pub all_good : (rows : List Row) → bad_row rows ≡ None → opening_of rows ≡ Ok (rows_map rows)
all_good rows good = rw good refl

-- ---- rows with names

named_after : (before : List (List ℕ)) (rows : List Row) → bad_row_after before rows ≡ None → list_any has_no_name rows ≡ false
named_after before [] good = refl
named_after before ((name, body) ∷ rows) good = by_bad (is_bad before (name, body)) refl (λ n. named_after (before ++ n ∷ []) rows)
  where
    by_name : (name : List ℕ) → is_bad before (name, body) ≡ false → bad_row_after (before ++ name ∷ []) rows ≡ None
        → ((n : List ℕ) → bad_row_after (before ++ n ∷ []) rows ≡ None → list_any has_no_name rows ≡ false) → list_any has_no_name ((name, body) ∷ rows) ≡ false
    by_name [] e rest next = absurd (let no : true ≡ false = e in let h : ⊥ = cc in h)
    by_name (b ∷ bs) e rest next =
        let some : (length (b ∷ bs) == 0) ≡ false = grind (arith, nat_tests) in
        ap (λ t. t || list_any has_no_name rows) some ∙ next (b ∷ bs) rest

    by_bad : (bad : Bool) → is_bad before (name, body) ≡ bad
        → ((n : List ℕ) → bad_row_after (before ++ n ∷ []) rows ≡ None → list_any has_no_name rows ≡ false) → list_any has_no_name ((name, body) ∷ rows) ≡ false
    by_bad true e next = absurd (let h : Some (length before) ≡ None = rw e at good in let no : ⊥ = cc in no)
    by_bad false e next = by_name name e (rw e at good) next

-- where no row is bad, each has a name
pub named_rows : (rows : List Row) (files : FileMap) → opening_of rows ≡ Ok files → not (list_any has_no_name rows) ≡ true
named_rows rows files opened = by_place (bad_row rows) refl
  where
    by_place : (place : Option ℕ) → bad_row rows ≡ place → not (list_any has_no_name rows) ≡ true
    by_place None e = ap not (named_after [] rows e)
    by_place (Some k) e = absurd (let h : Err (row_fault k) ≡ Ok files = rw e at opened in let no : ⊥ = cc in no)

-- what rows come to that are good
pub good_files : (rows : List Row) (files : FileMap) → opening_of rows ≡ Ok files → rows_map rows ≡ files
good_files rows files opened = by_place (bad_row rows) refl
  where
    by_place : (place : Option ℕ) → bad_row rows ≡ place → rows_map rows ≡ files
    by_place None e = let h = rw e at opened in cc (h)
    by_place (Some k) e = absurd (let h : Err (row_fault k) ≡ Ok files = rw e at opened in let no : ⊥ = cc in no)

-- the reading of rows never tells that the keeper failed
pub no_keeper : (fault : StartFault) (answer : Result FileMap StartFault) → Tells (told fault) answer → fault ≡ KeeperFailed → ⊥
no_keeper KeeperFailed answer never e = never
no_keeper (BadRow place) answer never e = cc (e)
no_keeper OutOfMemory answer never e = cc (e)
