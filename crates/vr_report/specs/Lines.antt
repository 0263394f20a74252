-- The lines of a script: what call the words of a line stand for.
use Rattle.std.specs.Prelude.{ℕ, ◌||◌, ◌==◌, nat_lt, List, [], ◌∷◌, length, replicate, slice_index, codes, bytes_eq, Result, Ok, Err, if◌then◌else◌}
use Rattle.std.specs.List.{list_any, join_with_byte}
use Rattle.std.specs.Result.{result_ok}
use Rattle.hex.specs.Hex.{decode_of, decode_sized}
use Rattle.vr_base.specs.Checks.{◌>>=◌, or_fault, unless_fault, fault_if, result_map, Told, nothing, exactly, GivesBy}
use Rattle.vr_base.specs.Signs.{space, carriage_return}
use Rattle.vr_base.specs.declared.calls.Call.{Call}
use Rattle.vr_base.specs.declared.calls.Call.TheVariants.{Read, Write, Append, Run, Hash}
use Rattle.vr_text.specs.Numerals.{id_of}
use Rattle.vr_report.specs.declared.reading.LineFault.{LineFault}
use Rattle.vr_report.specs.declared.reading.LineFault.TheVariants.{Form, OutOfMemory}

-- what words stand for, or that they are outside the form
abbrev pub Reading : Type 0 → Type 0
Reading A = Result A LineFault

-- the number of 32 bits that a word's digits stand for
abbrev pub number_of : List ℕ → Reading ℕ
number_of word = or_fault Form (id_of word)

-- a name as it is: one byte at least, and no carriage return. Spaces and line feeds part the words.
abbrev pub name_of : List ℕ → Reading (List ℕ)
name_of word =
    if (length word == 0) || list_any (λ b. b == carriage_return) word then Err Form else Ok word

-- ---- what is written: a kind, and the words after it

-- no bytes, for which there are no words
abbrev pub empty_of : List (List ℕ) → Reading (List ℕ)
empty_of [] = Ok []
empty_of (word ∷ words) = Err Form

-- the rest of the line as it is, which may be empty
abbrev pub text_of : List (List ℕ) → Reading (List ℕ)
text_of [] = Err Form
text_of (word ∷ words) = Ok (join_with_byte space (word ∷ words))

-- the bytes that hex digits of either case spell, one at least
abbrev pub hex_of : List (List ℕ) → Reading (List ℕ)
hex_of (digits ∷ []) =
    if length digits == 0 then Err Form else or_fault Form (result_ok (decode_of digits))
hex_of words = Err Form

-- the byte that two hex digits spell
abbrev pub byte_of : List ℕ → Reading ℕ
byte_of digits =
    result_map (λ bytes. slice_index bytes 0) (or_fault Form (result_ok (decode_sized digits 1)))

-- the most bytes that a line fills: one more than a file may have
abbrev pub most_fill : ℕ
most_fill = 16777217

-- how many bytes a line fills
abbrev pub count_of : List ℕ → Reading ℕ
count_of word = do
  count ← number_of word
  unless_fault (fault_if (nat_lt most_fill count) Form) count

-- so many times one byte
abbrev pub fill_of : List (List ℕ) → Reading (List ℕ)
fill_of (digits ∷ count ∷ []) = do
  byte ← byte_of digits
  times ← count_of count
  Ok (replicate times byte)
fill_of words = Err Form

abbrev pub content_of : List ℕ → List (List ℕ) → Reading (List ℕ)
content_of kind words =
    if bytes_eq kind (codes "empty") then empty_of words
    else (if bytes_eq kind (codes "text") then text_of words
    else (if bytes_eq kind (codes "hex") then hex_of words
    else (if bytes_eq kind (codes "fill") then fill_of words else Err Form)))

-- ---- calls

-- a call that keeps what is written in the file of a name
abbrev pub keeping_call : (List ℕ → List ℕ → Call) → List ℕ → List ℕ → List (List ℕ) → Reading Call
keeping_call make word kind words = do
  name ← name_of word
  body ← content_of kind words
  Ok (make name body)

-- a call that a verb and one word ask for: to read the file of a name, or to run the pipeline with a number
abbrev pub naming_call : List ℕ → List ℕ → Reading Call
naming_call verb word =
    if bytes_eq verb (codes "read") then result_map (λ name. Read name) (name_of word)
    else (if bytes_eq verb (codes "run") then result_map (λ pipeline. Run pipeline) (number_of word)
    else Err Form)

-- the call that the words stand for
abbrev pub call_of : List (List ℕ) → Reading Call
call_of [] = Err Form
call_of (verb ∷ []) = if bytes_eq verb (codes "hash") then Ok Hash else Err Form
call_of (verb ∷ word ∷ []) = naming_call verb word
call_of (verb ∷ word ∷ kind ∷ words) =
    if bytes_eq verb (codes "write")
    then keeping_call (λ name body. Write name body) word kind words
    else (if bytes_eq verb (codes "append")
    then keeping_call (λ name body. Append name body) word kind words else Err Form)

-- the identity and the call that the words of a line stand for
abbrev pub asked_by : List (List ℕ) → Reading (ℕ × Call)
asked_by [] = Err Form
asked_by (id ∷ words) = do
  who ← number_of id
  call ← call_of words
  Ok (who, call)

-- what a fault of the code tells
abbrev pub told : LineFault → Told LineFault
told OutOfMemory = nothing
told Form = exactly Form

-- What was returned is what the words stand for, unless memory ran out.
abbrev pub Gives : {A : Type 0} → Reading A → Reading A → Type 0
Gives result answer = GivesBy told result answer
