-- Keys files: who holds which key by the lines of a text.
use Rattle.std.specs.Prelude.{ℕ, ◌+◌, ◌==◌, nat_lt, List, [], ◌∷◌, length, bytes_eq, Option, Some, None, option_map, option_and_then, is_some, Result, Ok, Err, if◌then◌else◌}
use Rattle.std.specs.List.{list_any}
use Rattle.std.specs.Str.Lines.{lines}
use Rattle.vr_base.specs.Checks.{◌>>=◌, or_fault}
use Rattle.vr_http.specs.Fields.{key_by}
use Rattle.vr_text.specs.Lines.{is_skipped, words_of}
use Rattle.vr_text.specs.Numerals.{id_of}

-- A key in lower case, and the identity that holds it.
abbrev pub Holding : Type 0
Holding = List ℕ × ℕ

-- who holds a key
abbrev pub holder_of : List Holding → List ℕ → Option ℕ
holder_of [] key = None
holder_of (held ∷ others) key =
    if bytes_eq held.0 key then Some held.1 else holder_of others key

-- the identity that a word names, where the policy lists it
abbrev pub listed_id : List ℕ → List ℕ → Option ℕ
listed_id policy word =
    option_and_then (λ id. if list_any (λ listed. listed == id) policy then Some id else None)
    (id_of word)

-- the key that the words after an identity spell, in lower case: one word, spelled as in a request
abbrev pub keyed_by : List (List ℕ) → Option (List ℕ)
keyed_by [] = None
keyed_by (word ∷ []) = key_by (word ∷ [])
keyed_by (word ∷ other ∷ words) = None

-- what the words of a line give to an identity of the policy
abbrev pub holding_by : List ℕ → List (List ℕ) → Option Holding
holding_by policy [] = None
holding_by policy (word ∷ words) =
    option_and_then (λ who. option_map (λ key. (key, who)) (keyed_by words)) (listed_id policy word)

-- one holding more, whose key none has that stands before
abbrev pub added : List Holding → Holding → Option (List Holding)
added before held = if is_some (holder_of before held.0) then None else Some (held ∷ before)

-- what is held with one line more, none where the line is refused
abbrev pub line_added : List ℕ → List Holding → List ℕ → Option (List Holding)
line_added policy before line =
    if is_skipped line then Some before
    else option_and_then (added before) (holding_by policy (words_of line))

-- what is held by the lines, the last first, after what stood before the first of them, which has
-- this number; or the number of the first line that is refused
abbrev pub keys_from : List ℕ → ℕ → List Holding → List (List ℕ) → Result (List Holding) ℕ
keys_from policy number before [] = Ok before
keys_from policy number before (line ∷ others) =
    or_fault number (line_added policy before line)
    >>= λ held. keys_from policy (number + 1) held others

-- the most bytes of a keys file
abbrev pub most_keys : ℕ
most_keys = 1048576

-- What is held by a keys file, or the number of its first line that is refused, counted from 1, or 0
-- for a file that is too long.
abbrev pub keys_of : ℕ → List ℕ → List ℕ → Result (List Holding) ℕ
keys_of most policy bytes =
    if nat_lt most (length bytes) then Err 0 else keys_from policy 1 [] (lines bytes)
