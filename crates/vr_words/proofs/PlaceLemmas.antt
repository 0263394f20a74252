-- The place that is answered is that of the first word out of place, and there is one such place at most.
use Rattle.std.proofs.Common.{◌≡◌, ℕ, ◌+◌, ◌<◌, true, cond, List, [], ◌∷◌, ◌++◌, length, Option, None, Some, Result, Ok, Err, refl, sym, ap, ◌∙◌, subst, inl, inr, append_assoc, arith}
use Rattle.std.proofs.lemmas.Bool.{cases_order}
use Rattle.std.proofs.lemmas.List.{append-nil}
use Rattle.std.specs.Prelude.{◌&&◌, is_none, unwrap_or, codes, option_map, option_and_then, ◌↔◌}
use Rattle.vr_base.specs.Checks.{◌>>=◌, or_fault, result_map}
use Rattle.vr_words.proofs.AnswerLemmas.{begun_by, read_asks, asks_read, asked_accepts}
use Rattle.vr_words.proofs.ItemLemmas.{ReadsTo, after_step, plain_read, other_read}
use Rattle.vr_words.proofs.Results.{bool_cases, mapped, bound, chosen}
use Rattle.vr_words.specs.Grammar.{Task, hash, check, flows, replay, make, serve, serving, over_both, take_file, takes_two, IsAccepted, IsBegun, IsOutOfPlace, IsWrongAt, task_said, take_operand}
use Rattle.vr_words.specs.Options.{Placed, Said, is_plain, may_come, give, take_option}
use Rattle.vr_words.specs.Reading.{State, fresh, within, awaiting, named_in, read_named, read_word, step, steps, task_in, answer, asked}
use Rattle.vr_words.specs.Views.{task_of}
use Rattle.vr_words.specs.declared.commands.Command.{Command}
use Rattle.vr_words.specs.declared.commands.Verb.{Verb}
use Rattle.vr_words.specs.declared.commands.Verb.TheVariants.{Hash, Check, Flows, Replay, Make, Serve}
use Rattle.vr_words.specs.declared.commands.Verbs.{Verbs}
use Rattle.vr_words.specs.declared.options.Choice.{Choice}
use Rattle.vr_words.specs.declared.options.Choice.TheVariants.{Fuel, Workers, Sessions, Port, Store}

-- ---- lists of words

-- the longer of two beginnings goes on with what comes after the shorter
record GoesOn (before after longer : List (List ℕ)) : Type 0 where
  next : List ℕ
  rest : List (List ℕ)
  more : List (List ℕ)
  follows : after ≡ next ∷ rest
  extends : longer ≡ before ++ next ∷ more

goes_on : (before after longer left : List (List ℕ)) → before ++ after ≡ longer ++ left → length before < length longer → GoesOn before after longer
goes_on [] after [] left e h = absurd (omega arith)
goes_on [] after (word ∷ longer) left e h = record { next = word; rest = longer ++ left; more = longer; follows = e; extends = refl }
goes_on (word ∷ before) after [] left e h = absurd (omega arith)
goes_on (word ∷ before) after (word' ∷ longer) left e h =
    let same : word' ≡ word = cc in
    let tails : before ++ after ≡ longer ++ left = cc in
    let on = goes_on before after longer left tails (omega arith) in
    record { next = on.next; rest = on.rest; more = on.more; follows = on.follows; extends = cc (same, on.extends) }

-- ---- words that can be read go on to an accepted list

-- words that come next, with which a task is asked for
record CanEnd (verbs : Verbs) (place : ℕ) (state : State) : Type 0 where
  rest : List (List ℕ)
  task : Task
  reads : ReadsTo verbs place state rest task

now_ends : (verbs : Verbs) (place : ℕ) (state : State) (task : Task) → task_in state ≡ Some task → CanEnd verbs place state
now_ends verbs place state task h = record { rest = []; task = task; reads = record { last = state; reached = refl; asks = h } }

ends_after : (verbs : Verbs) (place : ℕ) (state next : State) (word : List ℕ) → step verbs place state word ≡ Some next → CanEnd verbs (place + 1) next → CanEnd verbs place state
ends_after verbs place state next word e h = record {
  rest = word ∷ h.rest;
  task = h.task;
  reads = record { last = h.reads.last; reached = after_step verbs place state next word h.rest e ∙ h.reads.reached; asks = h.reads.asks };
}

-- a word that names a file
abbrev some_file : List ℕ
some_file = codes "a"

-- a word that is the value of each option
abbrev some_value : List ℕ
some_value = codes "1"

module _ (verbs : Verbs) where
  with_first : Said → Placed → Said
  with_first said file = record said { first = Some file }

  with_second : Said → Placed → Said
  with_second said file = record said { second = Some file }

  -- a command that takes no number takes the names of files
  abbrev TakesFiles : Verb → Type 0
  TakesFiles verb = (place : ℕ) (said : Said) (word : List ℕ) → take_operand verb place said word ≡ take_file verb said (record { place = place; text = word })

  first_taken : (verb : Verb) (place : ℕ) (said : Said) → TakesFiles verb → said.first ≡ None
      → step verbs place (within verb said) some_file ≡ Some (within verb (with_first said (record { place = place; text = some_file })))
  unfolding with_first
  first_taken verb place said files e =
      let file : Placed = record { place = place; text = some_file } in
      ap (option_map (within verb))
      (files place said some_file
      ∙ ap (λ o. cond (is_none o) (Some (record said { first = Some file })) (cond (takes_two verb && is_none said.second) (Some (record said { second = Some file })) None)) e)

  second_taken : (verb : Verb) (place : ℕ) (said : Said) (file : Placed) → TakesFiles verb → takes_two verb ≡ true → said.first ≡ Some file → said.second ≡ None
      → step verbs place (within verb said) some_file ≡ Some (within verb (with_second said (record { place = place; text = some_file })))
  unfolding with_second
  second_taken verb place said file files two e k =
      let next : Placed = record { place = place; text = some_file } in
      ap (option_map (within verb))
      (files place said some_file
      ∙ (ap (λ o. cond (is_none o) (Some (record said { first = Some next })) (cond (takes_two verb && is_none said.second) (Some (record said { second = Some next })) None)) e
      ∙ (ap (λ b. cond (b && is_none said.second) (Some (record said { second = Some next })) None) two
      ∙ ap (λ o. cond (is_none o) (Some (record said { second = Some next })) None) k)))

  one_file_ends : (verb : Verb) (make_task : Placed → Task) (place : ℕ) (said : Said) → TakesFiles verb → ((s : Said) → task_said verb s ≡ option_map make_task s.first)
      → (o : Option Placed) → said.first ≡ o → CanEnd verbs place (within verb said)
  unfolding with_first
  one_file_ends verb make_task place said files asks (Some file) e =
      now_ends verbs place (within verb said) (make_task file) (asks said ∙ ap (option_map make_task) e)
  one_file_ends verb make_task place said files asks None e =
      let file : Placed = record { place = place; text = some_file } in
      ends_after verbs place (within verb said) (within verb (with_first said file)) some_file (first_taken verb place said files e)
      (now_ends verbs (place + 1) (within verb (with_first said file)) (make_task file) (asks (with_first said file)))

  second_file_ends : (verb : Verb) (make_task : Said → Placed → Placed → Task) (place : ℕ) (said : Said) (first : Placed) → TakesFiles verb → takes_two verb ≡ true
      → ((s : Said) → task_said verb s ≡ over_both (make_task s) s.first s.second) → said.first ≡ Some first
      → (o : Option Placed) → said.second ≡ o → CanEnd verbs place (within verb said)
  unfolding with_second
  second_file_ends verb make_task place said first files two asks e (Some second) k =
      now_ends verbs place (within verb said) (make_task said first second)
      (asks said ∙ (ap (λ o. over_both (make_task said) o said.second) e ∙ ap (over_both (make_task said) (Some first)) k))
  second_file_ends verb make_task place said first files two asks e None k =
      let second : Placed = record { place = place; text = some_file } in
      let more : Said = with_second said second in
      ends_after verbs place (within verb said) (within verb more) some_file (second_taken verb place said first files two e k)
      (now_ends verbs (place + 1) (within verb more) (make_task more first second) (asks more ∙ ap (λ o. over_both (make_task more) o (Some second)) e))

  two_files_end : (verb : Verb) (make_task : Said → Placed → Placed → Task) (place : ℕ) (said : Said) → TakesFiles verb → takes_two verb ≡ true
      → ((s : Said) → task_said verb s ≡ over_both (make_task s) s.first s.second)
      → (o : Option Placed) → said.first ≡ o → CanEnd verbs place (within verb said)
  unfolding with_first
  two_files_end verb make_task place said files two asks (Some file) e = second_file_ends verb make_task place said file files two asks e said.second refl
  two_files_end verb make_task place said files two asks None e =
      let file : Placed = record { place = place; text = some_file } in
      ends_after verbs place (within verb said) (within verb (with_first said file)) some_file (first_taken verb place said files e)
      (second_file_ends verb make_task (place + 1) (with_first said file) file files two asks refl said.second refl)

  count_ends : (place : ℕ) (said : Said) (o : Option ℕ) → said.count ≡ o → CanEnd verbs place (within Make said)
  count_ends place said (Some count) e = now_ends verbs place (within Make said) (make count) (ap (option_map make) e)
  count_ends place said None e =
      ends_after verbs place (within Make said) (within Make (record said { count = Some 1 })) some_value
      (ap (λ o. option_map (within Make) (cond (is_none o) (Some (record said { count = Some 1 })) None)) e)
      (now_ends verbs (place + 1) (within Make (record said { count = Some 1 })) (make 1) refl)

  within_ends : (verb : Verb) (place : ℕ) (said : Said) → CanEnd verbs place (within verb said)
  within_ends Hash place said = one_file_ends Hash hash place said (λ _ _ _. refl) (λ _. refl) said.first refl
  within_ends Check place said = one_file_ends Check check place said (λ _ _ _. refl) (λ _. refl) said.first refl
  within_ends Flows place said = one_file_ends Flows flows place said (λ _ _ _. refl) (λ _. refl) said.first refl
  within_ends Replay place said = two_files_end Replay (λ s. replay (unwrap_or s.fuel 50000000)) place said (λ _ _ _. refl) refl (λ _. refl) said.first refl
  within_ends Make place said = count_ends place said said.count refl
  within_ends Serve place said = two_files_end Serve (λ s. serve (serving s)) place said (λ _ _ _. refl) refl (λ _. refl) said.first refl

  value_given : (said : Said) (choice : Choice) → (more : Said) × (give said choice some_value ≡ Some more)
  value_given said Fuel = (record said { fuel = Some 1 }, refl)
  value_given said Workers = (record said { workers = Some 1 }, refl)
  value_given said Sessions = (record said { sessions = Some 1 }, refl)
  value_given said Port = (record said { port = Some 1 }, refl)
  value_given said Store = (record said { store = Some some_value }, refl)

  -- a word was read
  abbrev IsStarted : State → Type 0
  IsStarted fresh = ⊥
  IsStarted state = Unit {0}

  can_end : (place : ℕ) (state : State) → IsStarted state → CanEnd verbs place state
  can_end place fresh h = absurd h
  can_end place (within verb said) h = within_ends verb place said
  can_end place (awaiting verb said choice) h =
      let given = value_given said choice in
      ends_after verbs place (awaiting verb said choice) (within verb given.0) some_value (ap (option_map (within verb)) given.1)
      (within_ends verb (place + 1) given.0)

  named_started : (verb : Verb) (said : Said) (named : Choice × Option (List ℕ)) (next : State) → read_named verb said named ≡ Some next → IsStarted next
  named_started verb said (choice, Some value) next h =
      let more = mapped (within verb) (take_option verb said choice value) next h in subst IsStarted more.2 tt
  named_started verb said (choice, None) next h =
      let may = chosen (may_come verb said choice) (Some (awaiting verb said choice)) next h in
      let same : awaiting verb said choice ≡ next = cc (may.1) in
      subst IsStarted same tt

  word_started : (verb : Verb) (place : ℕ) (said : Said) (word : List ℕ) (next : State) → read_word verb place said word ≡ Some next → IsStarted next
  word_started verb place said word next h = elim (bool_cases (is_plain word)) [
    | inl plain ↦ let more = mapped (within verb) (take_operand verb place said word) next (sym (plain_read verbs verb place said word plain) ∙ h) in subst IsStarted more.2 tt
    | inr other ↦
        let named = bound (read_named verb said) (named_in word) next (sym (other_read verbs verb place said word other) ∙ h) in
        named_started verb said named.0 next named.2
  ]

  step_started : (place : ℕ) (state : State) (word : List ℕ) (next : State) → step verbs place state word ≡ Some next → IsStarted next
  step_started place fresh word next h = let begun = begun_by verbs word next h in subst IsStarted (sym begun.3) tt
  step_started place (within verb said) word next h = word_started verb place said word next h
  step_started place (awaiting verb said choice) word next h =
      let more = mapped (within verb) (give said choice word) next h in subst IsStarted more.2 tt

  steps_started : (words : List (List ℕ)) (place : ℕ) (state next : State) → steps verbs place state words ≡ Some next → IsStarted state → IsStarted next
  steps_started [] place state next h started = let same : state ≡ next = cc (h) in subst IsStarted same started
  steps_started (word ∷ words) place state next h started =
      let read = bound (λ s. steps verbs (place + 1) s words) (step verbs place state word) next h in
      steps_started words (place + 1) read.0 next read.2 (step_started place state word read.0 read.1)

  some_started : (words : List (List ℕ)) (next : State) → steps verbs 0 fresh words ≡ Some next → 0 < length words → IsStarted next
  some_started [] next h some = absurd (omega arith)
  some_started (word ∷ words) next h some =
      let read = bound (λ s. steps verbs 1 s words) (step verbs 0 fresh word) next h in
      steps_started words 1 read.0 next read.2 (step_started 0 fresh word read.0 read.1)

  pub steps_append : (before after : List (List ℕ)) (place : ℕ) (state next : State) → steps verbs place state before ≡ Some next
      → steps verbs place state (before ++ after) ≡ steps verbs (place + length before) next after
  steps_append [] after place state next h =
      let same : state ≡ next = cc (h) in
      ap (λ s. steps verbs place s after) same ∙ ap (λ n. steps verbs n next after) (omega arith)
  steps_append (word ∷ before) after place state next h =
      let read = bound (λ s. steps verbs (place + 1) s before) (step verbs place state word) next h in
      after_step verbs place state read.0 word (before ++ after) read.1
      ∙ (steps_append before after (place + 1) read.0 next read.2 ∙ ap (λ n. steps verbs n next after) (omega arith))

  -- an accepted list begins with words that can be read
  pub begun : (before : List (List ℕ)) (state : State) → steps verbs 0 fresh before ≡ Some state → 0 < length before → IsBegun verbs before
  begun before state h some =
      let end = can_end (0 + length before) state (some_started before state h some) in (
        end.rest,
        (
          end.task,
          read_asks verbs (before ++ end.rest) end.task
              (record { last = end.reads.last; reached = steps_append before end.rest 0 fresh state h ∙ end.reads.reached; asks = end.reads.asks }),
        ),
      )

  -- ---- the first word out of place

  -- no word goes on from here, or nothing is asked for where none is left
  IsStuck : ℕ → State → List (List ℕ) → Type 0
  IsStuck place state [] = task_in state ≡ None
  IsStuck place state (word ∷ words) = step verbs place state word ≡ None

  -- the words are read up to a place, and no further
  record Stops (place : ℕ) (state : State) (words : List (List ℕ)) (at : ℕ) : Type 0 where
    before : List (List ℕ)
    after : List (List ℕ)
    last : State
    split : words ≡ before ++ after
    counted : at ≡ place + length before
    reached : steps verbs place state before ≡ Some last
    stuck : IsStuck at last after

  stops_at : (place : ℕ) (state : State) (words : List (List ℕ)) (at : ℕ) → place ≡ at → IsStuck place state words → Stops place state words at
  stops_at place state words at e h = record {
    before = [];
    after = words;
    last = state;
    split = refl;
    counted = omega (arith, e);
    reached = refl;
    stuck = subst (λ (n : ℕ). IsStuck n state words) e h;
  }

  stops_later : (place : ℕ) (state next : State) (word : List ℕ) (words : List (List ℕ)) (at : ℕ) → step verbs place state word ≡ Some next
      → Stops (place + 1) next words at → Stops place state (word ∷ words) at
  stops_later place state next word words at e h = record {
    before = word ∷ h.before;
    after = h.after;
    last = h.last;
    split = ap (λ ws. word ∷ ws) h.split;
    counted = omega (arith, h.counted);
    reached = after_step verbs place state next word h.before e ∙ h.reached;
    stuck = h.stuck;
  }

  no_task_stops : (place : ℕ) (state : State) (at : ℕ) (o : Option Task) → task_in state ≡ o → or_fault place o ≡ Err at → Stops place state [] at
  unfolding IsStuck
  no_task_stops place state at None e h = let same : place ≡ at = cc (h) in stops_at place state [] at same e
  no_task_stops place state at (Some task) e h = cc

  word_stops : (place : ℕ) (state : State) (word : List ℕ) (words : List (List ℕ)) (at : ℕ) (o : Option State) → step verbs place state word ≡ o
      → (or_fault place o >>= λ next. answer verbs (place + 1) next words) ≡ Err at
      → ((next : State) → answer verbs (place + 1) next words ≡ Err at → Stops (place + 1) next words at) → Stops place state (word ∷ words) at
  unfolding IsStuck
  word_stops place state word words at None e h later = let same : place ≡ at = cc (h) in stops_at place state (word ∷ words) at same e
  word_stops place state word words at (Some next) e h later = stops_later place state next word words at e (later next h)

  answer_stops : (words : List (List ℕ)) (place : ℕ) (state : State) (at : ℕ) → answer verbs place state words ≡ Err at → Stops place state words at
  answer_stops [] place state at h = no_task_stops place state at (task_in state) refl h
  answer_stops (word ∷ words) place state at h =
      word_stops place state word words at (step verbs place state word) refl h (λ next k. answer_stops words (place + 1) next at k)

  out_of_place : (before after : List (List ℕ)) (last : State) → steps verbs 0 fresh before ≡ Some last → IsStuck (0 + length before) last after → IsOutOfPlace verbs before after
  unfolding IsStuck
  out_of_place before [] last h stuck = λ accepted.
      let read = asks_read verbs before accepted.0 accepted.1 in
      let same : last ≡ read.last = cc (h, read.reached) in
      let never : None ≡ Some accepted.0 = sym stuck ∙ (ap task_in same ∙ read.asks) in
      cc (never)
  out_of_place before (word ∷ after) last h stuck = λ more.
      let read = asks_read verbs ((before ++ word ∷ []) ++ more.0) more.1.0 more.1.1 in
      let whole : (before ++ word ∷ []) ++ more.0 ≡ before ++ word ∷ more.0 = append_assoc before (word ∷ []) more.0 in
      let never : None ≡ Some read.last =
      sym (ap (option_and_then (λ s. steps verbs (0 + length before + 1) s more.0)) stuck)
      ∙ (sym (steps_append before (word ∷ more.0) 0 fresh last h) ∙ (sym (ap (steps verbs 0 fresh) whole) ∙ read.reached)) in
      cc (never)

  -- the place that is answered is wrong
  pub asked_wrong : (words : List (List ℕ)) (at : ℕ) → asked verbs words ≡ Err at → IsWrongAt verbs words at
  asked_wrong words at h =
      let stop = answer_stops words 0 fresh at h in
      record {
        before = stop.before;
        after = stop.after;
        split = stop.split;
        counted = omega (arith, stop.counted);
        begun = λ some. begun stop.before stop.last stop.reached (omega (arith, some, stop.counted));
        wrong = out_of_place stop.before stop.after stop.last stop.reached (subst (λ (n : ℕ). IsStuck n stop.last stop.after) stop.counted stop.stuck);
      }

  -- ---- one wrong place

  -- an accepted list is wrong nowhere
  accepted_split : (words before after : List (List ℕ)) → words ≡ before ++ after → IsOutOfPlace verbs before after → IsAccepted verbs words → ⊥
  accepted_split words before [] e wrong accepted = wrong (subst (IsAccepted verbs) (e ∙ append-nil before) accepted)
  accepted_split words before (word ∷ after) e wrong accepted =
      wrong (after, subst (IsAccepted verbs) (e ∙ sym (append_assoc before (word ∷ []) after)) accepted)

  begun_before : (before longer more : List (List ℕ)) (next : List ℕ) → longer ≡ before ++ next ∷ more → IsBegun verbs longer → IsBegun verbs (before ++ next ∷ [])
  begun_before before longer more next e begun =
      (more ++ begun.0, subst (IsAccepted verbs) (ap (λ ws. ws ++ begun.0) (e ∙ sym (append_assoc before (next ∷ []) more)) ∙ append_assoc (before ++ next ∷ []) more begun.0) begun.1)

  not_earlier : (words : List (List ℕ)) (a b : ℕ) → IsWrongAt verbs words a → IsWrongAt verbs words b → a < b → ⊥
  not_earlier words a b v w h =
      let on = goes_on v.before v.after w.before w.after (sym v.split ∙ w.split) (omega (arith, v.counted, w.counted)) in
      let wrong : IsBegun verbs (v.before ++ on.next ∷ []) → ⊥ = subst (λ (ws : List (List ℕ)). IsOutOfPlace verbs v.before ws) on.follows v.wrong in
      wrong (begun_before v.before w.before on.more on.next on.extends (w.begun (omega arith)))

  one_place : (words : List (List ℕ)) (a b : ℕ) → IsWrongAt verbs words a → IsWrongAt verbs words b → a ≡ b
  one_place words a b v w = elim (cases_order a b) [
    | inl same ↦ same
    | inr other ↦ elim other [
      | inl earlier ↦ absurd (not_earlier words a b v w earlier)
      | inr later ↦ absurd (not_earlier words b a w v later)
    ]
  ]

  wrong_answer : (words : List (List ℕ)) (at : ℕ) → IsWrongAt verbs words at → (reply : Result Task ℕ) → asked verbs words ≡ reply → reply ≡ Err at
  wrong_answer words at w (Ok task) e = absurd (accepted_split words w.before w.after w.split w.wrong (task, asked_accepts verbs words task e))
  wrong_answer words at w (Err place) e = ap (λ p. Err p) (one_place words place at (asked_wrong words place e) w)

  -- a wrong place is answered
  pub wrong_asked : (words : List (List ℕ)) (at : ℕ) → IsWrongAt verbs words at → asked verbs words ≡ Err at
  wrong_asked words at w = wrong_answer words at w (asked verbs words) refl

  refused : (r : Result Command ℕ) (place : ℕ) → result_map task_of r ≡ Err place → r ≡ Err place
  refused (Ok command) place h = cc
  refused (Err at) place h = let same : at ≡ place = cc (h) in ap (λ p. Err p) same

  -- the call's place is the wrong one
  pub refused_by : (words : List (List ℕ)) (r : Result Command ℕ) → result_map task_of r ≡ asked verbs words → (place : ℕ) → (r ≡ Err place) ↔ IsWrongAt verbs words place
  refused_by words r e place = (
    λ h. asked_wrong words place (sym e ∙ ap (result_map task_of) h),
    λ wrong. refused r place (e ∙ wrong_asked words place wrong),
  )
