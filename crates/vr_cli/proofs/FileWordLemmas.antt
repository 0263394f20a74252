-- The words that name the files of a task stand in the command line at their places.
use Rattle.std.proofs.Common.{◌≡◌, ◌↔◌, ◌⊎◌, ℕ, ◌&&◌, List, [], ◌∷◌, ◌++◌, length, slice_get, Option, None, Some, Result, Ok, inl, inr, refl, ap, ◌∙◌, sym, subst, append_assoc, length-append, arith, option_map}
use Rattle.std.specs.List.{flat_map}
use Rattle.std.specs.Prelude.{IfSome, is_none}
use Rattle.vr_words.specs.Grammar.{Task, hash, check, flows, make, serve, AskFor, Item, operand, apart, attached, item_words, over_both, place_after, serving, take_file, take_item, take_items, take_operand, takes_two, task_said, verb_name}
use Rattle.vr_words.specs.Numbers.{number_within}
use Rattle.vr_words.specs.Options.{Placed, Said, give, is_plain, may_come, nothing_said, take_option}
use Rattle.vr_words.specs.declared.commands.Verb.{Verb}
use Rattle.vr_words.specs.declared.commands.Verb.TheVariants as verbs
use Rattle.vr_words.specs.declared.commands.Verbs.{Verbs}
use Rattle.vr_words.specs.declared.options.Choice.{Choice}
use Rattle.vr_words.specs.declared.options.Choice.TheVariants.{Fuel, Workers, Sessions, Port, Store}
use Rattle.vr_words.proofs.Results.{bool_cases, bound, chosen, mapped}
use Rattle.vr_cli.specs.FileWords.{IfAbsent, IsFileOf, IsPlaceOf, NamesFile}
use Rattle.vr_cli.specs.declared.status.Status.{Status}
use Rattle.vr_cli.proofs.FileLemmas.{absent_more}

seam : (before : List (List ℕ)) (word : List ℕ) (after : List (List ℕ)) → slice_get (before ++ word ∷ after) (length before) ≡ Some word
seam [] word after = refl
seam (first ∷ before) word after = seam before word after

module _ (words : List (List ℕ)) where
  -- a word stands at its place
  abbrev IsHere : Placed → Type 0
  IsHere word = slice_get words word.place ≡ Some word.text

  -- the names of files that were said stand at their places
  abbrev AreHere : Said → Type 0
  AreHere said = IfSome said.first IsHere × IfSome said.second IsHere

  give_here : (said : Said) (choice : Choice) (word : List ℕ) (next : Said) → give said choice word ≡ Some next → AreHere said → AreHere next
  give_here said Fuel word next h k = subst AreHere (mapped _ _ next h).2 k
  give_here said Workers word next h k = subst AreHere (mapped _ _ next h).2 k
  give_here said Sessions word next h k = subst AreHere (mapped _ _ next h).2 k
  give_here said Port word next h k = subst AreHere (mapped _ _ next h).2 k
  give_here said Store word next h k =
      let given = (chosen (is_plain word) (Some (record said { store = Some word })) next h).1 in
      let same : record said { store = Some word } ≡ next = cc (given) in
      subst AreHere same k

  option_here : (verb : Verb) (said : Said) (choice : Choice) (word : List ℕ) (next : Said) → take_option verb said choice word ≡ Some next → AreHere said → AreHere next
  option_here verb said choice word next h k = give_here said choice word next (chosen (may_come verb said choice) (give said choice word) next h).1 k

  file_here : (verb : Verb) (said : Said) (file : Placed) (next : Said) → take_file verb said file ≡ Some next → IsHere file → AreHere said → AreHere next
  file_here verb said file next h here k = elim (bool_cases (is_none said.first)) [
    | inl none ↦
        let took : Some (record said { first = Some file }) ≡ Some next = rw none at h in
        let same : record said { first = Some file } ≡ next = cc (took) in
        subst AreHere same (here, k.1)
    | inr some ↦
        let took = chosen (takes_two verb && is_none said.second) (Some (record said { second = Some file })) next (rw some at h) in
        let is = took.1 in
        let same : record said { second = Some file } ≡ next = cc (is) in
        subst AreHere same (k.0, here)
  ]

  operand_here : (verb : Verb) (place : ℕ) (said : Said) (word : List ℕ) (next : Said) → take_operand verb place said word ≡ Some next → slice_get words place ≡ Some word → AreHere said → AreHere next
  operand_here verbs.Make place said word next h here k =
      let taken = (chosen (is_none said.count) (option_map (λ n. record said { count = Some n }) (number_within 1 1000 word)) next h).1 in
      subst AreHere (mapped (λ (n : ℕ). record said { count = Some n }) (number_within 1 1000 word) next taken).2 k
  operand_here verbs.Hash place said word next h here k = file_here verbs.Hash said _ next h here k
  operand_here verbs.Check place said word next h here k = file_here verbs.Check said _ next h here k
  operand_here verbs.Flows place said word next h here k = file_here verbs.Flows said _ next h here k
  operand_here verbs.Replay place said word next h here k = file_here verbs.Replay said _ next h here k
  operand_here verbs.Serve place said word next h here k = file_here verbs.Serve said _ next h here k

  -- an item that stands after other words
  item_here : (verb : Verb) (before rest : List (List ℕ)) (said : Said) (item : Item) (next : Said) → words ≡ before ++ (item_words item ++ rest)
      → take_item verb (length before) said item ≡ Some next → AreHere said → AreHere next
  item_here verb before rest said (operand word) next split h k =
      let taken = (chosen (is_plain word) (take_operand verb (length before) said word) next h).1 in
      operand_here verb (length before) said word next taken (rw split (seam before word rest)) k
  item_here verb before rest said (apart choice value) next split h k = option_here verb said choice value next h k
  item_here verb before rest said (attached choice value) next split h k = option_here verb said choice value next h k

  place_moves : (before : List (List ℕ)) (item : Item) → length (before ++ item_words item) ≡ place_after (length before) item
  place_moves before (operand word) = simp length-append (omega arith)
  place_moves before (apart choice value) = simp length-append (omega arith)
  place_moves before (attached choice value) = simp length-append (omega arith)

  items_here : (verb : Verb) (before : List (List ℕ)) (place : ℕ) (said : Said) (items : List Item) (last : Said) → length before ≡ place → words ≡ before ++ flat_map item_words items
      → take_items verb place said items ≡ Some last → AreHere said → AreHere last
  items_here verb before place said [] last at split h k = let same : said ≡ last = cc (h) in subst AreHere same k
  items_here verb before place said (item ∷ items) last at split h k =
      let next = bound (λ more. take_items verb (place_after place item) more items) (take_item verb place said item) last h in
      let taken : take_item verb (length before) said item ≡ Some next.0 = rw at next.1 in
      let moved : length (before ++ item_words item) ≡ place_after place item = place_moves before item ∙ ap (λ (p : ℕ). place_after p item) at in
      let again : words ≡ (before ++ item_words item) ++ flat_map item_words items = split ∙ sym (append_assoc before (item_words item) (flat_map item_words items)) in
      items_here verb (before ++ item_words item) (place_after place item) next.0 items last moved again next.2 (item_here verb before (flat_map item_words items) said item next.0 split taken k)

  -- each file of the task is named by a word that stands at its place
  abbrev HasFilesHere : Task → Type 0
  HasFilesHere task = (word : Placed) → IsFileOf task word → IsHere word

  one_here : (make_task : Placed → Task) (file : Option Placed) (task : Task) → ((file word : Placed) → IsFileOf (make_task file) word → word ≡ file) → option_map make_task file ≡ Some task
      → IfSome file IsHere → HasFilesHere task
  one_here make_task None task only asks here = cc (asks)
  one_here make_task (Some file) task only asks here =
      let same : make_task file ≡ task = cc (asks) in
      subst HasFilesHere same (λ word named. rw (only file word named) here)

  two_here : (make_task : Placed → Placed → Task) (said : Said) (task : Task) → ((first second word : Placed) → IsFileOf (make_task first second) word → (word ≡ first) ⊎ (word ≡ second))
      → over_both make_task said.first said.second ≡ Some task → AreHere said → HasFilesHere task
  two_here make_task said task only asks here = by_both said.first said.second asks here.0 here.1
    where
      by_both : (first second : Option Placed) → over_both make_task first second ≡ Some task → IfSome first IsHere → IfSome second IsHere → HasFilesHere task
      by_both (Some first) (Some second) a h k =
          let same : make_task first second ≡ task = cc (a) in
          subst HasFilesHere same (λ word named. elim (only first second word named) [ inl e ↦ rw e h | inr e ↦ rw e k ])
      by_both None second a h k = cc (a)
      by_both (Some first) None a h k = cc (a)

  said_here : (verb : Verb) (said : Said) (task : Task) → task_said verb said ≡ Some task → AreHere said → HasFilesHere task
  said_here verbs.Hash said task asks here = one_here hash said.first task (λ file word named. named) asks here.0
  said_here verbs.Check said task asks here = one_here check said.first task (λ file word named. named) asks here.0
  said_here verbs.Flows said task asks here = one_here flows said.first task (λ file word named. named) asks here.0
  said_here verbs.Replay said task asks here = two_here _ said task (λ first second word named. named) asks here
  said_here verbs.Make said task asks here =
      let from = mapped make said.count task asks in
      subst HasFilesHere from.2 (λ word named. absurd named)
  said_here verbs.Serve said task asks here = two_here (serve (serving said)) said task (λ first second word named. named) asks here

  asked_here : (set : Verbs) (task : Task) → AskFor set task words → HasFilesHere task
  asked_here set task asks =
      said_here asks.verb asks.said task asks.asks
      (items_here asks.verb (verb_name asks.verb ∷ []) 1 nothing_said asks.items asks.said refl asks.spelled asks.taken (tt, tt))

  -- the place of a word that names a file of what was done is that of one that names a file of what the words ask for
  pub named_asked : (set : Verbs) (answer : Result Task ℕ) (done : Task) (status : Status) → answer ≡ Ok done → ((other : Task) → (answer ≡ Ok other) ↔ AskFor set other words)
      → IfAbsent status (IsPlaceOf (IsFileOf done)) → IfAbsent status (NamesFile set words)
  named_asked set answer done status e accepted blamed =
      let asked = (accepted done).0 e in
      absent_more status (IsPlaceOf (IsFileOf done)) (NamesFile set words)
      (λ place at. record { task = done; word = at.0; asked = asked; named = at.1; here = at.2; text = subst (λ (p : ℕ). slice_get words p ≡ Some at.0.text) at.2 (asked_here set done asked at.0 at.1) }) blamed
