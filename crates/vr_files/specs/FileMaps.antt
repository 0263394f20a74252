-- The files of a runtime: a finite map from paths to the bytes of their files.
use Rattle.std.specs.Prelude.{ℕ, List, [], Result, unwrap_or, refl}
use Rattle.std.specs.Coded.{Coded, code_by, coded×, coded_list, coded_ℕ}
use Rattle.std.specs.FinMap.{FinMap, empty, code, get, insert}
use Rattle.std.specs.Cmp.Lexicographic.{slice_cmp}
use Rattle.std.specs.declared.cmp.Ordering.{Ordering}
use Rattle.std.specs.Ordering.{nat_cmp}
use Rattle.vr_base.specs.Checks.{result_map}
use Rattle.vr_files.specs.Bodies.{sized}
use Rattle.vr_files.specs.declared.faults.FileFault.{FileFault}

-- paths in the order of their bytes
abbrev pub path_cmp : List ℕ → List ℕ → Ordering
path_cmp = slice_cmp nat_cmp

-- files by their paths
abbrev pub FileMap : Type 0
FileMap = FinMap path_cmp (List ℕ)

abbrev pub no_files : FileMap
no_files = empty

-- a map is stored as the list of its entries
abbrev pub coded_files : Coded FileMap
coded_files = code (coded_list coded_ℕ) (coded_list coded_ℕ)

-- the bytes of a file, none where it isn't there
abbrev pub bytes_at : FileMap → List ℕ → List ℕ
bytes_at files path = unwrap_or (get files path) []

-- the files with these bytes at a path, or the fault that they are too many
abbrev pub stored : FileMap → List ℕ → List ℕ → Result FileMap FileFault
stored files path bytes = result_map (insert files path) (sized bytes)

-- files, and for how many paths more there is room
pub record FileTable : Type 0 where
  pub map : FileMap
  pub spare : ℕ

abbrev pub coded_table : Coded FileTable
coded_table =
    code_by (FileMap × ℕ) (coded× coded_files coded_ℕ) (λ t. (t.map, t.spare))
    (λ p. record { map = p.0; spare = p.1 }) (λ _. refl)
