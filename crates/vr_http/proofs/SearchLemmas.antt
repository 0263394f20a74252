-- How the length of a head text follows from bytes that were looked at.
use Rattle.std.proofs.Common.{◌≡◌, ℕ, ◌+◌, ◌-◌, ◌<◌, ◌≤◌, suc, Bool, true, false, List, [], ◌∷◌, ◌++◌, length, drop, get_or, refl, sym, ap, ◌∙◌, arith, add-zero, add-one, drop-cons, subst, append_assoc, length-drop, length-append, get_or-drop}
use Rattle.std.specs.Prelude.{Option, Some, None, option_map, ◌≢◌, All, nat_lt, ◌&&◌, if◌then◌else◌}
use Rattle.std.proofs.lemmas.Bool.{ne_eqb}
use Rattle.std.proofs.lemmas.List.{append-nil, drop-append-le, drop-drop, drop_at, get_or-append-add}
use Rattle.std.proofs.lemmas.List.Elements.{All-head, All-tail}
use Rattle.vr_http.specs.Heads.{is_line_feed, empty_line_length, text_length}
use Rattle.vr_http.specs.Searches.{Passes, GoesOn, IsLineEndAt, IsUndecided}

-- a number is added to what is there
abbrev pub added : ℕ → Option ℕ → Option ℕ
added k o = option_map (λ n. k + n) o

pub added-zero : (k : ℕ) → k ≡ 0 → (o : Option ℕ) → added k o ≡ o
added-zero k none None = refl
added-zero k none (Some n) = ap Some (omega arith)

pub added-added : (j k m : ℕ) → j + k ≡ m → (o : Option ℕ) → added j (added k o) ≡ added m o
added-added j k m sum None = refl
added-added j k m sum (Some n) = ap Some (omega arith)

pub not_line_feed : (b : ℕ) → b ≢ 10 → is_line_feed b ≡ false
not_line_feed b other = ne_eqb b 10 other

-- a byte that is no LF is passed
pub text_length-other : (b : ℕ) (bytes : List ℕ) → is_line_feed b ≡ false
    → text_length (b ∷ bytes) ≡ added 1 (text_length bytes)
text_length-other b bytes other =
    ap (λ (t : Bool). if t && nat_lt 0 (empty_line_length bytes) then Some (1 + empty_line_length bytes) else added 1 (text_length bytes)) other

-- bytes that are no LF are passed
pub text_length-passed : (bytes more : List ℕ) → All (λ b. b ≢ 10) bytes
    → text_length (bytes ++ more) ≡ added (length bytes) (text_length more)
text_length-passed [] more all = sym (added-zero 0 refl (text_length more))
text_length-passed (b ∷ bytes) more all =
    let P : ℕ → Type 0 = λ v. v ≢ 10 in
    text_length-other b (bytes ++ more) (not_line_feed b (All-head P b bytes all))
    ∙ ap (added 1) (text_length-passed bytes more (All-tail P b bytes all))
    ∙ added-added 1 (length bytes) (suc (length bytes)) (omega arith) (text_length more)

-- a LF is passed where no empty line comes after it
pub text_length-line : (b : ℕ) (bytes : List ℕ) → empty_line_length bytes ≡ 0
    → text_length (b ∷ bytes) ≡ added 1 (text_length bytes)
text_length-line b bytes none = by_test (is_line_feed b)
  where
    by_test : (t : Bool) → (if t && nat_lt 0 (empty_line_length bytes) then Some (1 + empty_line_length bytes) else added 1 (text_length bytes)) ≡ added 1 (text_length bytes)
    by_test false = refl
    by_test true = ap (λ (n : ℕ). if nat_lt 0 n then Some (1 + n) else added 1 (text_length bytes)) none

pub Passes-refl : (bytes : List ℕ) (at : ℕ) → at ≤ length bytes → Passes bytes at at
Passes-refl bytes at within = record {
  ordered = omega arith;
  within = within;
  passed = λ more. sym (added-zero (at - at) (omega arith) (text_length (drop at bytes ++ more)));
}

pub Passes-trans : (bytes : List ℕ) (a b c : ℕ) → Passes bytes a b → Passes bytes b c → Passes bytes a c
Passes-trans bytes a b c first second = record {
  ordered = omega arith;
  within = second.within;
  passed = λ more.
      first.passed more
      ∙ ap (added (b - a)) (second.passed more)
      ∙ added-added (b - a) (c - b) (c - a) (omega arith) (text_length (drop c bytes ++ more));
}

-- nothing more comes
without_more : (bytes : List ℕ) (at : ℕ) → text_length (drop at bytes ++ []) ≡ text_length (drop at bytes)
without_more bytes at = ap text_length (append-nil (drop at bytes))

pub GoesOn-after : (bytes : List ℕ) (a b c : ℕ) → Passes bytes a b → GoesOn bytes b c → GoesOn bytes a c
GoesOn-after bytes a b c first last = record {
  passes = Passes-trans bytes a b c first last.passes;
  none =
      sym (without_more bytes a)
      ∙ first.passed []
      ∙ ap (added (b - a)) (without_more bytes b ∙ last.none);
}

-- the bytes from a place up to another that are no LF
pub Passes-bytes : (bytes : List ℕ) (at : ℕ) (front rest : List ℕ) → at ≤ length bytes → drop at bytes ≡ front ++ rest
    → All (λ b. b ≢ 10) front → Passes bytes at (at + length front)
Passes-bytes bytes at front rest within cut all =
    let size : length (drop at bytes) ≡ length front + length rest = ap length cut ∙ length-append front rest in
    let whole : length (drop at bytes) ≡ length bytes - at = length-drop at bytes in
    let after : drop (at + length front) bytes ≡ rest =
    sym (drop-drop (length front) at bytes) ∙ ap (drop (length front)) cut ∙ drop_at front rest (length front) refl in
    let count : length front ≡ at + length front - at = omega arith in
    record {
      ordered = omega arith;
      within = omega arith;
      passed = λ more.
          ap (λ (t : List ℕ). text_length (t ++ more)) cut
          ∙ ap text_length (append_assoc front rest more)
          ∙ text_length-passed front (rest ++ more) all
          ∙ ap (λ (k : ℕ). added k (text_length (rest ++ more))) count
          ∙ ap (λ (t : List ℕ). added (at + length front - at) (text_length (t ++ more))) (sym after);
    }

-- a line and its LF
pub line_end_after : (bytes : List ℕ) (at : ℕ) (front rest : List ℕ) → at ≤ length bytes
    → drop at bytes ≡ front ++ 10 ∷ rest → All (λ b. b ≢ 10) front → IsLineEndAt bytes at (at + length front)
line_end_after bytes at front rest within cut all =
    let size : length (drop at bytes) ≡ length front + length (10 ∷ rest) = ap length cut ∙ length-append front (10 ∷ rest) in
    let whole : length (drop at bytes) ≡ length bytes - at = length-drop at bytes in
    record {
      passes = Passes-bytes bytes at front (10 ∷ rest) within cut all;
      inside = omega arith;
      here =
          sym (get_or-drop at bytes (length front) 0)
          ∙ ap (λ (t : List ℕ). get_or t (length front) 0) cut
          ∙ ap (λ (k : ℕ). get_or (front ++ 10 ∷ rest) k 0) (sym (add-zero (length front)))
          ∙ get_or-append-add front (10 ∷ rest) 0 0;
    }

-- no LF is left
pub no_line_end : (bytes : List ℕ) (at : ℕ) (front : List ℕ) → at ≤ length bytes
    → drop at bytes ≡ front → All (λ b. b ≢ 10) front → GoesOn bytes at (length bytes)
no_line_end bytes at front within cut all =
    let whole : length front ≡ length bytes - at = ap length (sym cut) ∙ length-drop at bytes in
    let end : at + length front ≡ length bytes = omega arith in
    let P : ℕ → Type 0 = λ k. Passes bytes at k in
    record {
      passes = subst P end (Passes-bytes bytes at front [] within (cut ∙ sym (append-nil front)) all);
      none =
          ap text_length (cut ∙ sym (append-nil front))
          ∙ text_length-passed front [] all;
    }

first_and_rest : (bytes : List ℕ) (place : ℕ) → place < length bytes
    → drop place bytes ≡ get_or bytes place 0 ∷ drop (place + 1) bytes
first_and_rest bytes place inside =
    drop-cons bytes place 0 inside ∙ ap (λ (k : ℕ). get_or bytes place 0 ∷ drop k bytes) (sym (add-one place))

-- an LF after which a line comes that isn't empty
pub Passes-line : (bytes : List ℕ) (at place : ℕ) → IsLineEndAt bytes at place
    → ((more : List ℕ) → empty_line_length (drop (place + 1) bytes ++ more) ≡ 0) → Passes bytes at (place + 1)
Passes-line bytes at place line other =
    Passes-trans bytes at place (place + 1) line.passes (record {
      ordered = omega arith;
      within = let inside = line.inside in omega arith;
      passed = λ more.
          ap (λ (t : List ℕ). text_length (t ++ more)) (first_and_rest bytes place line.inside)
          ∙ text_length-line (get_or bytes place 0) (drop (place + 1) bytes ++ more) (other more)
          ∙ ap (λ (k : ℕ). added k (text_length (drop (place + 1) bytes ++ more))) (one place);
    })
  where
    one : (k : ℕ) → 1 ≡ k + 1 - k
    one k = omega arith

-- an LF after which the bytes end, or a CR alone stands
pub GoesOn-line : (bytes : List ℕ) (at place : ℕ) → IsLineEndAt bytes at place → IsUndecided (drop (place + 1) bytes)
    → GoesOn bytes at place
GoesOn-line bytes at place line undecided =
    GoesOn-after bytes at place place line.passes (record {
      passes = Passes-refl bytes place (let inside = line.inside in omega arith);
      none =
          ap text_length (first_and_rest bytes place line.inside)
          ∙ text_length-line (get_or bytes place 0) (drop (place + 1) bytes) undecided.no_line
          ∙ ap (added 1) undecided.no_text;
    })

-- an LF that comes first after bytes that were passed
pub line_from : (bytes : List ℕ) (a b place : ℕ) → Passes bytes a b → IsLineEndAt bytes b place → IsLineEndAt bytes a place
line_from bytes a b place first line = record {
  passes = Passes-trans bytes a b place first line.passes;
  inside = line.inside;
  here = line.here;
}

-- bytes that follow later change nothing
pub Passes-append : (bytes piece : List ℕ) (a b : ℕ) → Passes bytes a b → Passes (bytes ++ piece) a b
Passes-append bytes piece a b passes =
    let ordered : a ≤ b = passes.ordered in
    let within : b ≤ length bytes = passes.within in
    let from : a ≤ length bytes = omega arith in
    record {
      ordered = passes.ordered;
      within = omega (arith, length-append bytes piece);
      passed = λ more.
          ap text_length (later bytes piece more a from)
          ∙ passes.passed (piece ++ more)
          ∙ ap (λ (t : List ℕ). added (b - a) (text_length t)) (sym (later bytes piece more b within));
    }
  where
    later : (xs ys zs : List ℕ) (at : ℕ) → at ≤ length xs → drop at (xs ++ ys) ++ zs ≡ drop at xs ++ (ys ++ zs)
    later xs ys zs at inside = ap (λ (t : List ℕ). t ++ zs) (drop-append-le at xs ys inside) ∙ append_assoc (drop at xs) ys zs
