-- Items are read word by word, and words that are read are items.
use Rattle.std.proofs.Common.{◌≡◌, ℕ, ◌+◌, true, false, cond, List, [], ◌∷◌, ◌++◌, Option, None, Some, refl, sym, ap, ◌∙◌, subst, inl, inr}
use Rattle.std.specs.Prelude.{option_map, option_and_then}
use Rattle.std.specs.List.{flat_map}
use Rattle.vr_words.proofs.NameLemmas.{not_plain, joined_not_plain, name_alone, name_joined, joined_named, alone_named}
use Rattle.vr_words.proofs.Results.{bool_cases, mapped, bound, chosen}
use Rattle.vr_words.specs.Grammar.{Task, Item, operand, apart, attached, item_words, place_after, take_operand, take_item, take_items, task_said}
use Rattle.vr_words.specs.Options.{Said, is_plain, option_name, may_come, give, take_option, equals_sign}
use Rattle.vr_words.specs.Reading.{State, within, awaiting, named_in, read_named, read_word, step, steps, task_in}
use Rattle.vr_words.specs.declared.commands.Verb.{Verb}
use Rattle.vr_words.specs.declared.commands.Verbs.{Verbs}
use Rattle.vr_words.specs.declared.options.Choice.{Choice}

pub after_step : (verbs : Verbs) (place : ℕ) (state next : State) (word : List ℕ) (rest : List (List ℕ)) → step verbs place state word ≡ Some next
    → steps verbs place state (word ∷ rest) ≡ steps verbs (place + 1) next rest
after_step verbs place state next word rest h = ap (option_and_then (λ s. steps verbs (place + 1) s rest)) h

-- The words from a place on are read to their end, and ask for the task.
pub record ReadsTo (verbs : Verbs) (place : ℕ) (state : State) (words : List (List ℕ)) (task : Task) : Type 0 where
  pub last : State
  pub reached : steps verbs place state words ≡ Some last
  pub asks : task_in last ≡ Some task

-- The words from a place on are items that are taken, and ask for the task.
pub record AreItems (verb : Verb) (place : ℕ) (said : Said) (words : List (List ℕ)) (task : Task) : Type 0 where
  pub items : List Item
  pub end : Said
  pub spelled : words ≡ flat_map item_words items
  pub taken : take_items verb place said items ≡ Some end
  pub asks : task_said verb end ≡ Some task

-- the first word is read, and the others after it
pub record FirstRead (verbs : Verbs) (place : ℕ) (state : State) (word : List ℕ) (words : List (List ℕ)) (task : Task) : Type 0 where
  pub next : State
  pub here : step verbs place state word ≡ Some next
  pub others : ReadsTo verbs (place + 1) next words task

pub first_read : (verbs : Verbs) (place : ℕ) (state : State) (word : List ℕ) (words : List (List ℕ)) (task : Task) → ReadsTo verbs place state (word ∷ words) task → FirstRead verbs place state word words task
first_read verbs place state word words task h =
    let after = bound (λ next. steps verbs (place + 1) next words) (step verbs place state word) h.last h.reached in
    record { next = after.0; here = after.1; others = record { last = h.last; reached = after.2; asks = h.asks } }

module _ (verbs : Verbs) (verb : Verb) where
  -- ---- a word after whole items

  pub plain_read : (place : ℕ) (said : Said) (word : List ℕ) → is_plain word ≡ true → read_word verb place said word ≡ option_map (within verb) (take_operand verb place said word)
  plain_read place said word plain = ap (λ b. cond b (option_map (within verb) (take_operand verb place said word)) (option_and_then (read_named verb said) (named_in word))) plain

  pub other_read : (place : ℕ) (said : Said) (word : List ℕ) → is_plain word ≡ false → read_word verb place said word ≡ option_and_then (read_named verb said) (named_in word)
  other_read place said word other = ap (λ b. cond b (option_map (within verb) (take_operand verb place said word)) (option_and_then (read_named verb said) (named_in word))) other

  name_read : (place : ℕ) (said : Said) (choice : Choice) → may_come verb said choice ≡ true → read_word verb place said (option_name choice) ≡ Some (awaiting verb said choice)
  name_read place said choice may =
      other_read place said (option_name choice) (not_plain choice)
      ∙ (ap (option_and_then (read_named verb said)) (name_alone choice) ∙ ap (λ b. cond b (Some (awaiting verb said choice)) None) may)

  joined_read : (place : ℕ) (said : Said) (choice : Choice) (value : List ℕ)
      → read_word verb place said (option_name choice ++ equals_sign ∷ value) ≡ option_map (within verb) (take_option verb said choice value)
  joined_read place said choice value =
      other_read place said (option_name choice ++ equals_sign ∷ value) (joined_not_plain choice value)
      ∙ ap (option_and_then (read_named verb said)) (name_joined choice value)

  -- ---- items are read

  item_read : (place : ℕ) (said more : Said) (item : Item) (rest : List (List ℕ)) → take_item verb place said item ≡ Some more
      → steps verbs place (within verb said) (item_words item ++ rest) ≡ steps verbs (place_after place item) (within verb more) rest
  item_read place said more (operand word) rest h =
      let taken = chosen (is_plain word) (take_operand verb place said word) more h in
      after_step verbs place (within verb said) (within verb more) word rest (plain_read place said word taken.0 ∙ ap (option_map (within verb)) taken.1)
  item_read place said more (apart choice value) rest h =
      let taken = chosen (may_come verb said choice) (give said choice value) more h in
      after_step verbs place (within verb said) (awaiting verb said choice) (option_name choice) (value ∷ rest) (name_read place said choice taken.0)
      ∙ after_step verbs (place + 1) (awaiting verb said choice) (within verb more) value rest (ap (option_map (within verb)) taken.1)
  item_read place said more (attached choice value) rest h =
      after_step verbs place (within verb said) (within verb more) (option_name choice ++ equals_sign ∷ value) rest
      (joined_read place said choice value ∙ ap (option_map (within verb)) h)

  pub items_read : (place : ℕ) (said end : Said) (items : List Item) → take_items verb place said items ≡ Some end → steps verbs place (within verb said) (flat_map item_words items) ≡ Some (within verb end)
  items_read place said end [] h = let same : said ≡ end = cc in ap (λ s. Some (within verb s)) same
  items_read place said end (item ∷ items) h =
      let taken = bound (λ more. take_items verb (place_after place item) more items) (take_item verb place said item) end h in
      item_read place said taken.0 item (flat_map item_words items) taken.1 ∙ items_read (place_after place item) taken.0 end items taken.2

  -- ---- words that are read are items

  one_more : (place : ℕ) (said more : Said) (item : Item) (rest : List (List ℕ)) (task : Task) → take_item verb place said item ≡ Some more
      → AreItems verb (place_after place item) more rest task → AreItems verb place said (item_words item ++ rest) task
  one_more place said more item rest task e h = record {
    items = item ∷ h.items;
    end = h.end;
    spelled = ap (λ ws. item_words item ++ ws) h.spelled;
    taken = ap (option_and_then (λ s. take_items verb (place_after place item) s h.items)) e ∙ h.taken;
    asks = h.asks;
  }

  -- an item of one word, and the words after it
  one_word : (place : ℕ) (said : Said) (item : Item) (word : List ℕ) (words : List (List ℕ)) (task : Task) (next : State) (taken : Option Said)
      → item_words item ≡ word ∷ [] → place_after place item ≡ place + 1 → take_item verb place said item ≡ taken
      → option_map (within verb) taken ≡ Some next → ReadsTo verbs (place + 1) next words task
      → ((more : Said) → ReadsTo verbs (place + 1) (within verb more) words task → AreItems verb (place + 1) more words task)
      → AreItems verb place said (word ∷ words) task
  one_word place said item word words task next taken alone later e h others after =
      let more = mapped (within verb) taken next h in
      let read = after more.0 (subst (λ (s : State). ReadsTo verbs (place + 1) s words task) (sym more.2) others) in
      subst (λ (ws : List (List ℕ)). AreItems verb place said (ws ++ words) task) alone
      (one_more place said more.0 item words task (e ∙ more.1) (subst (λ (n : ℕ). AreItems verb n more.0 words task) (sym later) read))

  -- a word that begins with a hyphen
  named_word : (place : ℕ) (said : Said) (word : List ℕ) (words : List (List ℕ)) (task : Task) (next : State) (named : Choice × Option (List ℕ))
      → named_in word ≡ Some named → read_named verb said named ≡ Some next → ReadsTo verbs (place + 1) next words task
      → ((more : Said) → ReadsTo verbs (place + 1) (within verb more) words task → AreItems verb (place + 1) more words task)
      → ((choice : Choice) → may_come verb said choice ≡ true → ReadsTo verbs (place + 1) (awaiting verb said choice) words task
      → AreItems verb place said (option_name choice ∷ words) task)
      → AreItems verb place said (word ∷ words) task
  named_word place said word words task next (choice, Some value) e h others after value_next =
      subst (λ (w : List ℕ). AreItems verb place said (w ∷ words) task) (sym (joined_named word choice value e))
      (one_word place said (attached choice value) (option_name choice ++ equals_sign ∷ value) words task next (take_option verb said choice value) refl refl refl h others after)
  named_word place said word words task next (choice, None) e h others after value_next =
      let may = chosen (may_come verb said choice) (Some (awaiting verb said choice)) next h in
      let same : awaiting verb said choice ≡ next = cc (may.1) in
      subst (λ (w : List ℕ). AreItems verb place said (w ∷ words) task) (sym (alone_named word choice e))
      (value_next choice may.0 (subst (λ (s : State). ReadsTo verbs (place + 1) s words task) (sym same) others))

  -- a word after whole items
  some_word : (place : ℕ) (said : Said) (word : List ℕ) (words : List (List ℕ)) (task : Task) → ReadsTo verbs place (within verb said) (word ∷ words) task
      → ((more : Said) → ReadsTo verbs (place + 1) (within verb more) words task → AreItems verb (place + 1) more words task)
      → ((choice : Choice) → may_come verb said choice ≡ true → ReadsTo verbs (place + 1) (awaiting verb said choice) words task
      → AreItems verb place said (option_name choice ∷ words) task)
      → AreItems verb place said (word ∷ words) task
  some_word place said word words task h after value_next =
      let read = first_read verbs place (within verb said) word words task h in
      elim (bool_cases (is_plain word)) [
        | inl plain ↦ one_word place said (operand word) word words task read.next (take_operand verb place said word) refl refl
            (ap (λ b. cond b (take_operand verb place said word) None) plain) (sym (plain_read place said word plain) ∙ read.here) read.others after
        | inr other ↦
            let named = bound (read_named verb said) (named_in word) read.next (sym (other_read place said word other) ∙ read.here) in
            named_word place said word words task read.next named.0 named.1 named.2 read.others after value_next
      ]

  -- the value of an option in a word of its own
  value_read : (place : ℕ) (said : Said) (choice : Choice) (value : List ℕ) (words : List (List ℕ)) (task : Task) → may_come verb said choice ≡ true
      → ReadsTo verbs (place + 1) (awaiting verb said choice) (value ∷ words) task
      → ((more : Said) → ReadsTo verbs (place + 1 + 1) (within verb more) words task → AreItems verb (place + 1 + 1) more words task)
      → AreItems verb place said (option_name choice ∷ value ∷ words) task
  value_read place said choice value words task may h after =
      let read = first_read verbs (place + 1) (awaiting verb said choice) value words task h in
      let more = mapped (within verb) (give said choice value) read.next read.here in
      one_more place said more.0 (apart choice value) words task (ap (λ b. cond b (give said choice value) None) may ∙ more.1)
      (after more.0 (subst (λ (s : State). ReadsTo verbs (place + 1 + 1) s words task) (sym more.2) read.others))

  -- no value comes
  no_value : (place : ℕ) (said : Said) (choice : Choice) (task : Task) → ReadsTo verbs place (awaiting verb said choice) [] task → ⊥
  no_value place said choice task h =
      let same : awaiting verb said choice ≡ h.last = cc (h.reached) in
      let never : None ≡ Some task = ap task_in same ∙ h.asks in
      cc (never)

  pub read_items : (words : List (List ℕ)) (place : ℕ) (said : Said) (task : Task) → ReadsTo verbs place (within verb said) words task → AreItems verb place said words task
  read_items [] place said task h =
      let same : within verb said ≡ h.last = cc (h.reached) in
      record { items = []; end = said; spelled = refl; taken = refl; asks = ap task_in same ∙ h.asks }
  read_items (word ∷ []) place said task h =
      some_word place said word [] task h (λ more k. read_items [] (place + 1) more task k) (λ choice may k. absurd (no_value (place + 1) said choice task k))
  read_items (word ∷ value ∷ words) place said task h =
      some_word place said word (value ∷ words) task h (λ more k. read_items (value ∷ words) (place + 1) more task k)
      (λ choice may k. value_read place said choice value words task may k (λ more j. read_items words (place + 1 + 1) more task j))
