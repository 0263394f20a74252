-- Scripts: what calls the lines of a text stand for.
use Rattle.std.specs.Prelude.{ℕ, ◌+◌, nat_lt, List, [], ◌∷◌, ◌++◌, length, map, Option, Some, None, Result, Ok, Err, if◌then◌else◌}
use Rattle.std.specs.Option.{option_to_list}
use Rattle.std.specs.Str.Lines.{lines}
use Rattle.vr_base.specs.Checks.{◌>>=◌, result_map, result_map_err, Told, nothing, exactly, GivesBy}
use Rattle.vr_base.specs.declared.calls.Call.{Call}
use Rattle.vr_report.specs.Lines.{asked_by}
use Rattle.vr_report.specs.declared.script.Line.{Line}
use Rattle.vr_report.specs.declared.script.ScriptFault.{ScriptFault}
use Rattle.vr_report.specs.declared.script.ScriptFault.TheVariants as faults
use Rattle.vr_text.specs.Lines.{is_skipped, words_of}

-- the most bytes of a script
abbrev pub most_script : ℕ
most_script = 67108864

-- the line of this number, which asks for a call
abbrev pub line_at : ℕ → ℕ × Call → Line
line_at number asked = record { line = number; who = asked.0; call = asked.1 }

-- the call of the line of this number, none where it is passed over, or the number of a line that stands for none
abbrev pub line_of : ℕ → List ℕ → Result (Option Line) ℕ
line_of number text =
    if is_skipped text then Ok None
    else result_map (λ asked. Some (line_at number asked))
    (result_map_err (λ _. number) (asked_by (words_of text)))

-- the calls of the lines, of which the first has this number, or the number of the first line that stands for none
abbrev pub script_from : ℕ → List (List ℕ) → Result (List Line) ℕ
script_from number [] = Ok []
script_from number (text ∷ others) = do
  line ← line_of number text
  calls ← script_from (number + 1) others
  Ok (option_to_list line ++ calls)

-- The calls of a script, whose lines are counted from 1 on, or the number of its first line outside the form, 0 for a
-- script that is too long.
abbrev pub script_of : ℕ → List ℕ → Result (List Line) ℕ
script_of most bytes = if nat_lt most (length bytes) then Err 0 else script_from 1 (lines bytes)

-- the calls of a script, each with its identity
abbrev pub calls_of : List Line → List (ℕ × Call)
calls_of script = map (λ line. (line.who, line.call)) script

-- what a fault of the code tells: the number of the line
abbrev pub told : ScriptFault → Told ℕ
told faults.OutOfMemory = nothing
told (faults.Line number) = exactly number

-- What was returned is what the text stands for, unless memory ran out.
abbrev pub Gives : {A : Type 0} → Result A ScriptFault → Result A ℕ → Type 0
Gives result answer = GivesBy told result answer
