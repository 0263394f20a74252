-- What a folder in memory tells.
use Rattle.std.specs.Prelude.{ℕ, List, map, Option, Some, String, string_bytes}
use Rattle.std.specs.declared.alloc.Global.{Global}
use Rattle.vr_base.specs.Outside.{FolderCounts}
use Rattle.vr_memory_links.specs.declared.folder.MemFolder.{MemFolder}

-- a file's name and its bytes
abbrev pub named : String Global × List ℕ → List ℕ × List ℕ
named file = (string_bytes file.0, file.1)

-- the files of a folder
abbrev pub files_told : MemFolder → Option (List (List ℕ × List ℕ))
files_told folder = Some (map named folder.files.items)

-- the counts of a folder
abbrev pub counts_told : MemFolder → FolderCounts
counts_told folder = record { absences = folder.absences; faults = folder.calls.faults }
