-- The first head of a stream, by what was read of it.
use Rattle.std.proofs.Common.{◌≡◌, ℕ, ◌+◌, ◌-◌, ◌<◌, ◌≤◌, Bool, true, false, List, [], ◌∷◌, ◌++◌, length, take, drop, refl, sym, ap, ◌∙◌, arith, length-append, length-drop}
use Rattle.std.specs.Prelude.{Option, Some, None, option_map, slice_range, ◌&&◌, if◌then◌else◌, Ok, Err}
use Rattle.std.specs.List.{list_all}
use Rattle.std.proofs.lemmas.Bool.{eq-eqb, ne_eqb, lt-ltb, le-ltb, le-leb, lt-leb, cond-true, cond-false}
use Rattle.std.proofs.lemmas.List.{append-nil, drop-append-le, take-append-le, take_all}
use Rattle.std.proofs.lemmas.List.Folds.{prefix_len-append}
use Rattle.std.proofs.Math.Seq.{take-append-add, take-append_seam, drop-length}
use Rattle.vr_http.specs.Heads.{is_newline, blank_length, text_length, head_end, inner_lines, head_at, short_head, first_head}
use Rattle.vr_http.specs.Searches.{EndsAt}
use Rattle.vr_http.specs.declared.faults.HttpFault.TheVariants.{HeadTooLarge, CutShort}

-- bytes after others that aren't all CR and LF change nothing
pub blank_length-inside : (held more : List ℕ) → blank_length held < length held → blank_length (held ++ more) ≡ blank_length held
blank_length-inside held more inside =
    prefix_len-append is_newline held more
    ∙ cond-false _ _ _ (ne_eqb (blank_length held) (length held) (λ same. absurd (omega arith)))

-- bytes after CR and LF alone
pub blank_length-all : (held more : List ℕ) → blank_length held ≡ length held
    → blank_length (held ++ more) ≡ length held + blank_length more
blank_length-all held more all =
    prefix_len-append is_newline held more ∙ cond-true _ _ _ (eq-eqb (blank_length held) (length held) all)

pub all_newlines : (held : List ℕ) → blank_length held ≡ length held → list_all is_newline held ≡ true
all_newlines [] all = refl
all_newlines (b ∷ bytes) all = by_test (all_newlines bytes) (is_newline b) refl
  where
    by_test : (blank_length bytes ≡ length bytes → list_all is_newline bytes ≡ true)
        → (t : Bool) → is_newline b ≡ t → list_all is_newline (b ∷ bytes) ≡ true
    by_test rest true newline =
        let later : blank_length (b ∷ bytes) ≡ 1 + blank_length bytes = cond-true _ _ _ newline in
        ap (λ (t : Bool). t && list_all is_newline bytes) newline ∙ rest (omega arith)
    by_test rest false other =
        let none : blank_length (b ∷ bytes) ≡ 0 = cond-false _ _ _ other in
        absurd (omega arith)

pub some_other : (held : List ℕ) → blank_length held < length held → list_all is_newline held ≡ false
some_other [] inside = absurd (omega arith)
some_other (b ∷ bytes) inside = by_test (some_other bytes) (is_newline b) refl
  where
    by_test : (blank_length bytes < length bytes → list_all is_newline bytes ≡ false)
        → (t : Bool) → is_newline b ≡ t → list_all is_newline (b ∷ bytes) ≡ false
    by_test rest true newline =
        let later : blank_length (b ∷ bytes) ≡ 1 + blank_length bytes = cond-true _ _ _ newline in
        ap (λ (t : Bool). t && list_all is_newline bytes) newline ∙ rest (omega arith)
    by_test rest false other = ap (λ (t : Bool). t && list_all is_newline bytes) other

-- as much of the stream as a head may have begins with what is held
taken : (most : ℕ) (held rest : List ℕ) → length held ≤ most
    → take most (held ++ rest) ≡ held ++ take (most - length held) rest
taken most held rest fits =
    ap (λ (n : ℕ). take n (held ++ rest)) (sum most (length held) fits) ∙ take-append-add held rest (most - length held)
  where
    sum : (m n : ℕ) → n ≤ m → m ≡ n + (m - n)
    sum m n le = omega arith

pub head_end-found : (most : ℕ) (held rest : List ℕ) (start end : ℕ) → length held ≤ most
    → blank_length held ≡ start → start < length held → EndsAt held start end
    → head_end (take most (held ++ rest)) ≡ Some end
head_end-found most held rest start end fits blank inside ends =
    let more = take (most - length held) rest in
    let ordered : start ≤ end = ends.ordered in
    ap head_end (taken most held rest fits)
    ∙ ap (λ (b : ℕ). option_map (λ n. b + n) (text_length (drop b (held ++ more))))
    (blank_length-inside held more (omega arith) ∙ blank)
    ∙ ap (λ (t : List ℕ). option_map (λ n. start + n) (text_length t)) (drop-append-le start held more (omega arith))
    ∙ ap (λ (o : Option ℕ). option_map (λ n. start + n) o) (ends.ended more)
    ∙ ap Some (back start end ordered)
  where
    back : (m n : ℕ) → m ≤ n → m + (n - m) ≡ n
    back m n le = omega arith

pub head_end-none : (held : List ℕ) (start : ℕ) → blank_length held ≡ start → text_length (drop start held) ≡ None
    → head_end held ≡ None
head_end-none held start blank none =
    ap (λ (b : ℕ). option_map (λ n. b + n) (text_length (drop b held))) blank
    ∙ ap (λ (o : Option ℕ). option_map (λ n. start + n) o) none

pub head_end-blank : (held : List ℕ) → blank_length held ≡ length held → head_end held ≡ None
head_end-blank held all =
    head_end-none held (length held) all (ap text_length (drop-length held))

-- the text of the head is within what is held
pub text_held : (held rest : List ℕ) (start end : ℕ) → start ≤ end → end ≤ length held
    → slice_range (held ++ rest) start end ≡ slice_range held start end
text_held held rest start end ordered within =
    ap (take (end - start)) (drop-append-le start held rest (omega arith))
    ∙ take-append-le (end - start) (drop start held) rest (omega (arith, length-drop start held))

-- a head that was read whole is looked at for its lines
pub first_head-whole : (most most_lines : ℕ) (held rest : List ℕ) (start end : ℕ) → length held ≤ most
    → blank_length held ≡ start → start < length held → EndsAt held start end
    → first_head most most_lines (held ++ rest)
    ≡ short_head most_lines (slice_range held start end) (drop end (held ++ rest))
first_head-whole most most_lines held rest start end fits blank inside ends =
    let after = drop end (held ++ rest) in
    ap (head_at most most_lines (held ++ rest)) (head_end-found most held rest start end fits blank inside ends)
    ∙ ap (λ (b : ℕ). short_head most_lines (slice_range (held ++ rest) b end) after)
    (blank_length-inside held rest (omega arith) ∙ blank)
    ∙ ap (λ (t : List ℕ). short_head most_lines t after) (text_held held rest start end ends.ordered ends.within)

-- it has few enough lines
pub short_head-few : (most_lines : ℕ) (text rest : List ℕ) → inner_lines text ≤ most_lines
    → short_head most_lines text rest ≡ Ok (Some (record { text = text; rest = rest }))
short_head-few most_lines text rest few = cond-false _ _ _ (le-ltb most_lines (inner_lines text) few)

-- it has too many
pub short_head-many : (most_lines : ℕ) (text rest : List ℕ) → most_lines < inner_lines text
    → short_head most_lines text rest ≡ Err HeadTooLarge
short_head-many most_lines text rest many = cond-true _ _ _ (lt-ltb most_lines (inner_lines text) many)

-- as many bytes came as a head may have, and it didn't end
pub first_head-full : (most most_lines : ℕ) (held rest : List ℕ) → length held ≡ most → head_end held ≡ None
    → first_head most most_lines (held ++ rest) ≡ Err HeadTooLarge
first_head-full most most_lines held rest full none =
    let cut : take most (held ++ rest) ≡ held =
    ap (λ (n : ℕ). take n (held ++ rest)) (sym full) ∙ take-append_seam held rest in
    ap (λ (t : List ℕ). head_at most most_lines (held ++ rest) (head_end t)) cut
    ∙ ap (head_at most most_lines (held ++ rest)) none
    ∙ cond-true _ _ _ (le-leb most (length (held ++ rest)) (omega (arith, length-append held rest)))

-- the source ended before a head did
first_head-whole_stream : (most most_lines : ℕ) (held : List ℕ) → length held < most → head_end held ≡ None
    → first_head most most_lines (held ++ []) ≡ (if list_all is_newline held then Ok None else Err CutShort)
first_head-whole_stream most most_lines held short none =
    let cut : take most held ≡ held = take_all most held (omega arith) in
    ap (first_head most most_lines) (append-nil held)
    ∙ ap (λ (t : List ℕ). head_at most most_lines held (head_end t)) cut
    ∙ ap (head_at most most_lines held) none
    ∙ cond-false _ _ _ (lt-leb most (length held) short)

pub first_head-ended : (most most_lines : ℕ) (held : List ℕ) → length held < most → blank_length held ≡ length held
    → first_head most most_lines (held ++ []) ≡ Ok None
first_head-ended most most_lines held short all =
    first_head-whole_stream most most_lines held short (head_end-blank held all)
    ∙ cond-true _ _ _ (all_newlines held all)

pub first_head-cut : (most most_lines : ℕ) (held : List ℕ) (start : ℕ) → length held < most
    → blank_length held ≡ start → start < length held → text_length (drop start held) ≡ None
    → first_head most most_lines (held ++ []) ≡ Err CutShort
first_head-cut most most_lines held start short blank inside none =
    first_head-whole_stream most most_lines held short (head_end-none held start blank none)
    ∙ cond-false _ _ _ (some_other held (omega arith))
