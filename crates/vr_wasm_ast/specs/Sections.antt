-- The sections, without the custom ones: their ids, and the order in which they stand (WebAssembly
-- Core 1.0, section 5.5.2; Core 2.0 for the data count, which stands before the codes).
use Rattle.std.specs.Prelude.{ℕ, Option, None, Some, if◌then◌else◌, ◌==◌}
use Rattle.vr_wasm_ast.specs.declared.sections.Section.{Section}
use Rattle.vr_wasm_ast.specs.declared.sections.Section.TheVariants.{Types, Imports, Functions, Tables, Memories, Globals, Exports, Start, Elements, DataCount, Codes, Segments}

-- the section with this id
abbrev pub section_of : ℕ → Option Section
section_of id =
    if id == 1 then Some Types
    else if id == 2 then Some Imports
    else if id == 3 then Some Functions
    else if id == 4 then Some Tables
    else if id == 5 then Some Memories
    else if id == 6 then Some Globals
    else if id == 7 then Some Exports
    else if id == 8 then Some Start
    else if id == 9 then Some Elements
    else if id == 10 then Some Codes
    else if id == 11 then Some Segments
    else if id == 12 then Some DataCount
    else None

-- its place in the order
abbrev pub rank_of : Section → ℕ
rank_of Types = 1
rank_of Imports = 2
rank_of Functions = 3
rank_of Tables = 4
rank_of Memories = 5
rank_of Globals = 6
rank_of Exports = 7
rank_of Start = 8
rank_of Elements = 9
rank_of DataCount = 10
rank_of Codes = 11
rank_of Segments = 12
