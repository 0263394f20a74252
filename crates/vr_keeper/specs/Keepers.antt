-- What a keeper holds: rows of names and bytes.
use Rattle.std.specs.Prelude.{ℕ, Bool, false, not, ◌==◌, List, [], ◌∷◌, ◌++◌, length, filter, Option, Some, None, is_none, option_map, Result, Ok, Err}
use Rattle.std.specs.List.{list_any}
use Rattle.std.specs.FinMap.{insert, find}
use Rattle.vr_files.specs.FileMaps.{FileMap, no_files, path_cmp}
use Rattle.vr_files.specs.Changes.{Change, applied}

-- a name, and the bytes that are kept under it
abbrev pub Row : Type 0
Row = List ℕ × List ℕ

-- rows after others, where the last of one name counts
abbrev pub with_rows : FileMap → List Row → FileMap
with_rows map [] = map
with_rows map (row ∷ rows) = with_rows (insert map row.0 row.1) rows

-- the map that rows make, where the last one of a name counts
abbrev pub rows_map : List Row → FileMap
rows_map rows = with_rows no_files rows

-- a row without a name
abbrev pub has_no_name : Row → Bool
has_no_name row = length row.0 == 0

-- whether a load made the keeper ready for changes: it gave rows, each with a name
abbrev pub loads : {E : Type 0} → Result (List Row) E → Bool
loads (Ok rows) = not (list_any has_no_name rows)
loads (Err fault) = false

-- the rows after changes that were taken or refused
abbrev pub rows_after : {E : Type 0} → Result (Unit {0}) E → Option FileMap → List Change
    → Option FileMap
rows_after (Ok done) rows changes = option_map (λ map. applied map changes) rows
rows_after (Err fault) rows changes = rows

-- whether no change is of the row's name
abbrev pub is_untouched : List Change → Row → Bool
is_untouched changes row = is_none (find path_cmp row.0 changes)

-- the rows of the files that the changes make
abbrev pub edited_rows : List Change → List Row
edited_rows [] = []
edited_rows ((path, None) ∷ changes) = edited_rows changes
edited_rows ((path, Some body) ∷ changes) = (path, body) ∷ edited_rows changes

-- the rows with changes: those that no change touches, and after them those of the files that the changes make
abbrev pub changed_rows : List Row → List Change → List Row
changed_rows rows changes = filter (is_untouched changes) rows ++ edited_rows changes
