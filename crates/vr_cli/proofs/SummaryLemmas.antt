-- Counts of replies and sums of sizes, place by place.
use Rattle.std.proofs.Common.{◌≡◌, ℕ, ◌+◌, ◌<◌, ◌≤◌, Bool, cond, List, [], ◌∷◌, ◌++◌, length, get_or, take, map, Some, Result, Ok, Err, refl, sym, ap, ◌∙◌, arith}
use Rattle.std.proofs.lemmas.List.{ext_get_or, take_all}
use Rattle.std.proofs.lemmas.List.FromFn.{get_or-map-range_with_len, length-map-range_with_len}
use Rattle.std.proofs.lemmas.List.Sums.{sum_by-cons, sum_by_more}
use Rattle.std.proofs.lemmas.Option.{get_or_from_slice_get, slice_get_within}
use Rattle.std.specs.Prelude.{◌==◌, count_by, sum_by, slice_get, IfOk}
use Rattle.vr_base.specs.Calls.{reply_number}
use Rattle.vr_base.specs.declared.calls.Entry.{Entry}
use Rattle.vr_core.specs.History.{replies_of}
use Rattle.vr_core.specs.Machine.{Origin, Replay}
use Rattle.vr_digests.specs.Digests.{digits_of}
use Rattle.vr_generator.specs.Summary.{summary_text}
use Rattle.vr_generator.specs.declared.summary.Summary.{Summary}
use Rattle.vr_report.specs.declared.script.Line.{Line}
use Rattle.vr_cli.specs.Gathering.{PutsOne}
use Rattle.vr_cli.specs.Replays.{TellsReplay}
use Rattle.vr_cli.specs.Summaries.{IsSummary, reply_counts, summary_of}

count_by-map : {A B : Type 0} (f : A → B) (p : B → Bool) (xs : List A) → count_by p (map f xs) ≡ count_by (λ x. p (f x)) xs
count_by-map f p [] = refl
count_by-map f p (x ∷ xs) =
    sum_by-cons (λ y. cond (p y) 1 0) (f x) (map f xs) ∙ ap (λ n. cond (p (f x)) 1 0 + n) (count_by-map f p xs) ∙ sym (sum_by-cons (λ y. cond (p (f y)) 1 0) x xs)

-- the counts of all replies, where each is known
pub counted_all : (counts : List ℕ) (journal : List Entry) (i : ℕ) → length counts ≡ 14 → length journal ≤ i
    → ((k : ℕ) → k < 14 → get_or counts k 0 ≡ count_by (λ entry. reply_number entry.reply == k) (take i journal)) → counts ≡ reply_counts (replies_of journal)
counted_all counts journal i sized past counted =
    let counts_of : ℕ → ℕ = λ number. count_by (λ reply. reply_number reply == number) (replies_of journal) in
    ext_get_or 0 counts (reply_counts (replies_of journal)) (sized ∙ sym (length-map-range_with_len counts_of 0 14))
    (λ k within.
    let below : k < 14 = omega (arith, within, sized) in
    let all : take i journal ≡ journal = take_all i journal past in
    counted k below ∙ ap (count_by (λ entry. reply_number entry.reply == k)) all
    ∙ sym (count_by-map (λ entry. entry.reply) (λ reply. reply_number reply == k) journal)
    ∙ sym (get_or-map-range_with_len counts_of 0 14 k k 0 below (omega arith)))

-- the sum with the file at the next place
pub sum_next : (files : List (List ℕ × List ℕ)) (k : ℕ) (file : List ℕ × List ℕ) → slice_get files k ≡ Some file
    → sum_by (λ file. length file.1) (take (k + 1) files) ≡ sum_by (λ file. length file.1) (take k files) + length file.1
sum_next files k file e =
    sum_by_more (λ file. length file.1) files k file (slice_get_within files k file e)
    ∙ ap (λ (next : List ℕ × List ℕ). sum_by (λ file. length file.1) (take k files) + length next.1) (get_or_from_slice_get files k file file e)

-- a text that was hashed, and the lines of its summary
pub summary_is : {E : Type 0} (result : Result (List ℕ) E) (made : ℕ) (origin : Origin) (script : List Line) (replay : Replay) (old new digits : List ℕ) (summary : Summary)
    → old ≡ [] → PutsOne (Some old) (Some new) (TellsReplay origin script replay) → digits ≡ digits_of new → summary ≡ summary_of made replay digits
    → IfOk result (λ lines. lines ≡ summary_text summary) → IfOk result (IsSummary made origin script)
summary_is (Ok lines) made origin script replay old new digits summary none (text, tells, grown) hashed summed h = record {
  replay = replay;
  text = text;
  tells = tells;
  written = h ∙ ap summary_text (summed ∙ ap (summary_of made replay) (hashed ∙ ap digits_of (grown ∙ ap (λ (o : List ℕ). o ++ text) none)));
}
summary_is (Err e) made origin script replay old new digits summary none put hashed summed h = tt
