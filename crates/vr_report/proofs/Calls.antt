-- Calls that were read so far, before those that are left.
use Rattle.std.proofs.Common.{◌≡◌, ℕ, ◌+◌, List, ◌∷◌, ◌++◌, Option, Result, Ok, Err, refl, ap, sym, append_assoc}
use Rattle.std.specs.Option.{option_to_list}
use Rattle.vr_base.specs.Checks.{◌>>=◌, result_map}
use Rattle.vr_report.specs.Script.{line_of, script_from}
use Rattle.vr_report.specs.declared.script.Line.{Line}

-- the calls read so far, and then those of the answer
abbrev pub after : List Line → Result (List Line) ℕ → Result (List Line) ℕ
after read answer = result_map (λ calls. read ++ calls) answer

-- a line more was read
pub after_line : (read : List Line) (number : ℕ) (text : List ℕ) (others : List (List ℕ)) (line : Option Line) → line_of number text ≡ Ok line
    → after read (script_from number (text ∷ others)) ≡ after (read ++ option_to_list line) (script_from (number + 1) others)
after_line read number text others line e = rw e (by_rest (script_from (number + 1) others))
  where
    by_rest : (rest : Result (List Line) ℕ)
        → after read (rest >>= λ calls. Ok (option_to_list line ++ calls)) ≡ after (read ++ option_to_list line) rest
    by_rest (Ok calls) = ap Ok (sym (append_assoc read (option_to_list line) calls))
    by_rest (Err n) = refl
