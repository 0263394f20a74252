-- Names of files and of grants, as lists of bytes, and which paths a grant covers.
use Rattle.std.specs.Prelude.{◌≡◌, ℕ, Bool, not, ◌||◌, ◌&&◌, nat_eq, nat_lt, ◌==◌, List, [], ◌∷◌, length, drop, take, codes, bytes_eq, Option, Some, None, option_map, Result, Ok, position, if◌then◌else◌, ◌-◌}
use Rattle.std.specs.Char.{is_ascii_alphanumeric}
use Rattle.std.specs.List.{starts_with, ends_with}
use Rattle.std.specs.Option.{option_or}
use Rattle.vr_base.specs.Checks.{Told, nothing, exactly, GivesBy, unless_fault, fault_if}
use Rattle.vr_base.specs.Cuts.{parts_at}
use Rattle.vr_base.specs.Signs.{full_stop, hyphen, low_line, slash}
use Rattle.vr_base.specs.declared.names.PathFault.{PathFault}
use Rattle.vr_base.specs.declared.names.PathFault.TheVariants.{EmptySegment, BadByte, DotSegment, TooLong, OutOfMemory}

-- the most bytes of a name, with its leading /
abbrev pub most_name : ℕ
most_name = 1024

-- the most bytes of a segment of a name
abbrev pub most_segment : ℕ
most_segment = 255

-- a letter, a digit, or one of the signs . _ - /
abbrev pub is_name_byte : ℕ → Bool
is_name_byte b =
    is_ascii_alphanumeric b
    || (b == full_stop) || (b == low_line) || (b == hyphen) || (b == slash)

-- a name with a / before it, where it begins with none
abbrev pub from_root : List ℕ → List ℕ
from_root name = if starts_with nat_eq name (codes "/") then name else slash ∷ name

-- a name without one leading ./, from the root on
abbrev pub normal_form : List ℕ → List ℕ
normal_form name = from_root (if starts_with nat_eq name (codes "./") then drop 2 name else name)

-- whether a normal form names a directory
abbrev pub names_directory : List ℕ → Bool
names_directory path = ends_with nat_eq path (codes "/")

-- the parts of a normal form after each /
abbrev pub segments : List ℕ → List (List ℕ)
segments path = parts_at slash (drop 1 path)

-- the segments of a normal form; of a directory those of what stands before its
-- last /, none where nothing does
abbrev pub grant_segments : List ℕ → List (List ℕ)
grant_segments path =
    if names_directory path
    then (if nat_lt 1 (length path) then segments (take (length path - 1) path) else [])
    else segments path

-- what is wrong with one segment
abbrev pub segment_fault : List ℕ → Option PathFault
segment_fault segment =
    if length segment == 0 then Some EmptySegment
    else (if bytes_eq segment (codes ".") || bytes_eq segment (codes "..") then Some DotSegment
    else fault_if (nat_lt most_segment (length segment)) TooLong)

-- what is wrong with the first bad segment
abbrev pub first_segment_fault : List (List ℕ) → Option PathFault
first_segment_fault [] = None
first_segment_fault (segment ∷ others) =
    option_or (segment_fault segment) (first_segment_fault others)

-- a normal form is too long
abbrev pub length_fault : List ℕ → Option PathFault
length_fault path = fault_if (nat_lt most_name (length path)) TooLong

-- the place of the first byte, in the name as it was given, that no name has
abbrev pub byte_fault : List ℕ → Option PathFault
byte_fault name = option_map BadByte (position (λ b. not (is_name_byte b)) name)

-- the first fault of a name: its length, then its bytes, then its segments from left to right
abbrev pub name_fault : List ℕ → List (List ℕ) → Option PathFault
name_fault name parts =
    option_or (length_fault (normal_form name))
    (option_or (byte_fault name) (first_segment_fault parts))

-- the path that a name stands for, or its first fault
abbrev pub path_of : List ℕ → Result (List ℕ) PathFault
path_of name = unless_fault (name_fault name (segments (normal_form name))) (normal_form name)

-- the path or the directory that a grant's name stands for, or its first fault
abbrev pub grant_of : List ℕ → Result (List ℕ) PathFault
grant_of name =
    unless_fault (name_fault name (grant_segments (normal_form name))) (normal_form name)

-- a path covers itself, and a directory every longer path that begins with it
abbrev pub covers : List ℕ → List ℕ → Bool
covers grant path =
    if names_directory grant
    then starts_with nat_eq path grant && nat_lt (length grant) (length path)
    else bytes_eq grant path

-- it is the path that it stands for itself
abbrev pub IsPath : List ℕ → Type 0
IsPath path = path_of path ≡ Ok path

abbrev pub IsGrantName : List ℕ → Type 0
IsGrantName name = grant_of name ≡ Ok name

-- what a fault of the code tells of the name
abbrev pub told : PathFault → Told PathFault
told OutOfMemory = nothing
told fault = exactly fault

-- What was returned is the answer, unless memory ran out.
abbrev pub Gives : {A : Type 0} → Result A PathFault → Result A PathFault → Type 0
Gives result answer = GivesBy told result answer
