-- The answer is a task exactly where the words ask for it.
use Rattle.std.proofs.Common.{◌≡◌, ℕ, ◌+◌, true, cond, List, [], ◌∷◌, Option, None, Some, Ok, refl, sym, ap, ◌∙◌, subst}
use Rattle.std.specs.Prelude.{option_and_then}
use Rattle.std.specs.List.{flat_map}
use Rattle.vr_base.specs.Checks.{◌>>=◌, or_fault}
use Rattle.vr_words.proofs.ItemLemmas.{ReadsTo, first_read, after_step, items_read, read_items}
use Rattle.vr_words.proofs.NameLemmas.{verb_named_is, verb_is_named}
use Rattle.vr_words.proofs.Results.{bound, chosen}
use Rattle.vr_words.specs.Grammar.{Task, item_words, contains, verb_name, AskFor}
use Rattle.vr_words.specs.Options.{nothing_said}
use Rattle.vr_words.specs.Reading.{State, fresh, within, begin, verb_named, step, task_in, answer, asked}
use Rattle.vr_words.specs.declared.commands.Verb.{Verb}
use Rattle.vr_words.specs.declared.commands.Verbs.{Verbs}

module _ (verbs : Verbs) where
  -- ---- the answer and what is read

  answer_here : (place : ℕ) (words : List (List ℕ)) (task : Task) (o : Option State) → (or_fault place o >>= λ next. answer verbs (place + 1) next words) ≡ Ok task
      → (next : State) × (o ≡ Some next) × (answer verbs (place + 1) next words ≡ Ok task)
  answer_here place words task None h = cc
  answer_here place words task (Some next) h = (next, refl, h)

  task_there : (place : ℕ) (task : Task) (o : Option Task) → or_fault place o ≡ Ok task → o ≡ Some task
  task_there place task None h = cc
  task_there place task (Some other) h = let same : other ≡ task = cc in ap (λ t. Some t) same

  answer_read : (words : List (List ℕ)) (place : ℕ) (state : State) (task : Task) → answer verbs place state words ≡ Ok task → ReadsTo verbs place state words task
  answer_read [] place state task h = record { last = state; reached = refl; asks = task_there place task (task_in state) h }
  answer_read (word ∷ words) place state task h =
      let next = answer_here place words task (step verbs place state word) h in
      let later = answer_read words (place + 1) next.0 task next.2 in
      record { last = later.last; reached = after_step verbs place state next.0 word words next.1 ∙ later.reached; asks = later.asks }

  read_answer : (words : List (List ℕ)) (place : ℕ) (state : State) (task : Task) → ReadsTo verbs place state words task → answer verbs place state words ≡ Ok task
  read_answer [] place state task h =
      let same : state ≡ h.last = cc (h.reached) in
      ap (or_fault place) (ap task_in same ∙ h.asks)
  read_answer (word ∷ words) place state task h =
      let read = first_read verbs place state word words task h in
      ap (λ o. or_fault place o >>= λ next. answer verbs (place + 1) next words) read.here ∙ read_answer words (place + 1) read.next task read.others

  -- ---- the first word

  pub begun_by : (name : List ℕ) (next : State) → begin verbs name ≡ Some next → (verb : Verb) × (name ≡ verb_name verb) × (contains verbs verb ≡ true) × (next ≡ within verb nothing_said)
  begun_by name next h =
      let named = bound (λ verb. cond (contains verbs verb) (Some (within verb nothing_said)) None) (verb_named name) next h in
      let known = chosen (contains verbs named.0) (Some (within named.0 nothing_said)) next named.2 in
      let same : next ≡ within named.0 nothing_said = cc (known.1) in
      (named.0, verb_named_is name named.0 named.1, known.0, same)

  begins : (verb : Verb) → contains verbs verb ≡ true → begin verbs (verb_name verb) ≡ Some (within verb nothing_said)
  begins verb known =
      ap (option_and_then (λ v. cond (contains verbs v) (Some (within v nothing_said)) None)) (verb_is_named verb)
      ∙ ap (λ b. cond b (Some (within verb nothing_said)) None) known

  -- ---- whole lists

  pub read_asks : (words : List (List ℕ)) (task : Task) → ReadsTo verbs 0 fresh words task → AskFor verbs task words
  read_asks [] task h =
      let same : fresh ≡ h.last = cc (h.reached) in
      let never : None ≡ Some task = ap task_in same ∙ h.asks in
      cc (never)
  read_asks (name ∷ words) task h =
      let read = first_read verbs 0 fresh name words task h in
      let verb = begun_by name read.next read.here in
      let items = read_items verbs verb.0 words 1 nothing_said task (subst (λ (s : State). ReadsTo verbs 1 s words task) verb.3 read.others) in
      record {
        verb = verb.0;
        items = items.items;
        said = items.end;
        spelled = ap (λ n. n ∷ words) verb.1 ∙ ap (λ ws. verb_name verb.0 ∷ ws) items.spelled;
        known = verb.2;
        taken = items.taken;
        asks = items.asks;
      }

  asks_read_spelled : (words : List (List ℕ)) (task : Task) (h : AskFor verbs task words) → ReadsTo verbs 0 fresh (verb_name h.verb ∷ flat_map item_words h.items) task
  asks_read_spelled words task h = record {
    last = within h.verb h.said;
    reached = after_step verbs 0 fresh (within h.verb nothing_said) (verb_name h.verb) (flat_map item_words h.items) (begins h.verb h.known) ∙ items_read verbs h.verb 1 nothing_said h.said h.items h.taken;
    asks = h.asks;
  }

  pub asks_read : (words : List (List ℕ)) (task : Task) → AskFor verbs task words → ReadsTo verbs 0 fresh words task
  asks_read words task h = subst (λ (ws : List (List ℕ)). ReadsTo verbs 0 fresh ws task) (sym h.spelled) (asks_read_spelled words task h)

  -- what is answered is asked for
  pub asked_accepts : (words : List (List ℕ)) (task : Task) → asked verbs words ≡ Ok task → AskFor verbs task words
  asked_accepts words task h = read_asks words task (answer_read words 0 fresh task h)

  -- what is asked for is answered
  pub accepts_asked : (words : List (List ℕ)) (task : Task) → AskFor verbs task words → asked verbs words ≡ Ok task
  accepts_asked words task h = read_answer words 0 fresh task (asks_read words task h)
