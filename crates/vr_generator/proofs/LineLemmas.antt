-- Lines that are written one after the other, and what is left of them.
use Rattle.std.proofs.Common.{◌≡◌, ℕ, zero, suc, ◌+◌, ◌-◌, ◌<◌, List, ◌++◌, length, get_or, drop, sym, ap, ◌∙◌, append_assoc, arith}
use Rattle.std.proofs.lemmas.List.{drop_more}
use Rattle.std.specs.List.{flat_map, enumerate_from}
use Rattle.vr_generator.specs.Generator.{call_line, call_lines, call_drawn, state_after}
use Rattle.vr_generator.specs.Summary.{reply_line}

first_line : (left state : ℕ) → 0 < left → call_lines left state ≡ call_line (call_drawn state) ++ call_lines (left - 1) (state_after state)
first_line zero state h = absurd (omega arith)
first_line (suc left) state h = ap (λ n. call_line (call_drawn state) ++ call_lines n (state_after state)) (omega arith)

-- one more call is written
pub one_call_more : (text whole : List ℕ) (count written state : ℕ) → written < count → text ++ call_lines (count - written) state ≡ whole
    → (text ++ call_line (call_drawn state)) ++ call_lines (count - (written + 1)) (state_after state) ≡ whole
one_call_more text whole count written state h e =
    append_assoc text (call_line (call_drawn state)) (call_lines (count - (written + 1)) (state_after state))
    ∙ (ap (λ n. text ++ (call_line (call_drawn state) ++ call_lines n (state_after state))) (omega arith)
    ∙ (ap (λ ls. text ++ ls) (sym (first_line (count - written) state (omega arith))) ∙ e))

-- the lines of the replies from a number on
abbrev pub replies_left : ℕ → List ℕ → List ℕ
replies_left number replies = flat_map reply_line (enumerate_from number (drop number replies))

-- one more reply is written
pub one_reply_more : (text whole replies : List ℕ) (number : ℕ) → number < length replies → text ++ replies_left number replies ≡ whole
    → (text ++ reply_line (number, get_or replies number 0)) ++ replies_left (number + 1) replies ≡ whole
one_reply_more text whole replies number h e =
    append_assoc text (reply_line (number, get_or replies number 0)) (replies_left (number + 1) replies)
    ∙ (ap (λ xs. text ++ flat_map reply_line (enumerate_from number xs)) (sym (drop_more replies number 0 h)) ∙ e)
