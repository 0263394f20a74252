-- Words are read one by one, up to the first that is out of place or to their end.
use Rattle.std.proofs.Common.{◌≡◌, ℕ, ◌+◌, ◌<◌, ◌≤◌, List, [], ◌∷◌, ◌++◌, length, take, drop, get_or, map, Option, None, Some, Err, refl, sym, ap, ◌∙◌, length-take-le, take-append-drop, arith}
use Rattle.std.proofs.lemmas.List.{take_more, take_all, drop_more, append-nil, length-map, get_or-map}
use Rattle.std.specs.Prelude.{option_map, ok_or}
use Rattle.vr_base.specs.Checks.{◌>>=◌, or_fault, result_map}
use Rattle.vr_words.proofs.ItemLemmas.{after_step}
use Rattle.vr_words.proofs.PlaceLemmas.{steps_append}
use Rattle.vr_words.proofs.Results.{bound}
use Rattle.vr_words.specs.Reading.{State, fresh, step, steps, task_in, answer, asked}
use Rattle.vr_words.specs.declared.commands.Verbs.{Verbs}

-- a task that is there, or a fault
pub mapped_ok : {A B E : Type 0} (f : A → B) (fault : E) (o : Option A) → result_map f (ok_or o fault) ≡ or_fault fault (option_map f o)
mapped_ok f fault None = refl
mapped_ok f fault (Some x) = refl

module _ (verbs : Verbs) where
  answer_append : (before after : List (List ℕ)) (place : ℕ) (state next : State) → steps verbs place state before ≡ Some next
      → answer verbs place state (before ++ after) ≡ answer verbs (place + length before) next after
  answer_append [] after place state next h =
      let same : state ≡ next = cc (h) in
      ap (λ s. answer verbs place s after) same ∙ ap (λ n. answer verbs n next after) (omega arith)
  answer_append (word ∷ before) after place state next h =
      let read = bound (λ s. steps verbs (place + 1) s before) (step verbs place state word) next h in
      ap (λ o. or_fault place o >>= λ s. answer verbs (place + 1) s (before ++ after)) read.1
      ∙ (answer_append before after (place + 1) read.0 next read.2 ∙ ap (λ n. answer verbs n next after) (omega arith))

  module _ {A : Type 0} (text : A → List ℕ) (words : List A) (place : ℕ) (state : State) (read : steps verbs 0 fresh (take place (map text words)) ≡ Some state) where
    texts : List (List ℕ)
    texts = map text words

    module _ (within : place < length words) (word : A) (here : word ≡ get_or words place word) where
      inside : place < length (map text words)
      inside = omega (arith, within, length-map words text)

      counted : 0 + length (take place (map text words)) ≡ place
      counted = omega (arith, length-take-le place (map text words) (omega (arith, inside)))

      -- the word at the place
      word_here : get_or (map text words) place (text word) ≡ text word
      word_here = get_or-map text words place word (text word) within ∙ ap text (sym here)

      -- one more word is read
      pub more_read : (next : State) → step verbs place state (text word) ≡ Some next → steps verbs 0 fresh (take (place + 1) (map text words)) ≡ Some next
      more_read next h =
          ap (steps verbs 0 fresh) (take_more (map text words) place (text word) inside ∙ ap (λ w. take place (map text words) ++ w ∷ []) word_here)
          ∙ (steps_append verbs (take place (map text words)) (text word ∷ []) 0 fresh state read
          ∙ (ap (λ n. steps verbs n state (text word ∷ [])) counted ∙ after_step verbs place state next (text word) [] h))

      -- the word is out of place
      pub stuck_here : step verbs place state (text word) ≡ None → Err place ≡ asked verbs (map text words)
      stuck_here h =
          sym (
          ap (asked verbs) (sym (take-append-drop place (map text words)))
          ∙ (answer_append (take place (map text words)) (drop place (map text words)) 0 fresh state read
          ∙ (ap (λ n. answer verbs n state (drop place (map text words))) counted
          ∙ (ap (answer verbs place state) (drop_more (map text words) place (text word) inside ∙ ap (λ w. w ∷ drop (place + 1) (map text words)) word_here)
          ∙ ap (λ o. or_fault place o >>= λ s. answer verbs (place + 1) s (drop (place + 1) (map text words))) h)))
          )

    -- the words end
    pub read_whole : length words ≤ place → asked verbs (map text words) ≡ or_fault (length words) (task_in state)
    read_whole past =
        let all : take place (map text words) ≡ map text words = take_all place (map text words) (omega (arith, past, length-map words text)) in
        let whole : steps verbs 0 fresh (map text words) ≡ Some state = sym (ap (steps verbs 0 fresh) all) ∙ read in
        ap (asked verbs) (sym (append-nil (map text words)))
        ∙ (answer_append (map text words) [] 0 fresh state whole
        ∙ ap (λ n. or_fault n (task_in state)) (omega (arith, length-map words text)))
