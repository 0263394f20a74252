-- The words one by one: what is known after each of them, and the answer.
use Rattle.std.specs.Prelude.{ℕ, ◌+◌, List, [], ◌∷◌, length, nat_lt, find, bytes_eq, Option, Some, None, option_map, option_and_then, Result, if◌then◌else◌}
use Rattle.std.specs.List.{before_first, after_first, position_or_len}
use Rattle.vr_base.specs.Checks.{◌>>=◌, or_fault}
use Rattle.vr_words.specs.Grammar.{Task, verb_name, contains, take_operand, task_said}
use Rattle.vr_words.specs.Options.{Said, nothing_said, is_plain, option_named, may_come, give, take_option, is_equals_sign}
use Rattle.vr_words.specs.declared.commands.Verb.{Verb}
use Rattle.vr_words.specs.declared.commands.Verb.TheVariants.{Hash, Check, Flows, Replay, Make, Serve}
use Rattle.vr_words.specs.declared.commands.Verbs.{Verbs}
use Rattle.vr_words.specs.declared.options.Choice.{Choice}

-- What is known after some words.
pub data State : Type 0 where
  -- there were none
  fresh : State
  -- a command, and whole items
  within : Verb → Said → State
  -- the last word is the name of an option whose value comes next
  awaiting : Verb → Said → Choice → State

-- the commands, each once
abbrev pub every_verb : List Verb
every_verb = Hash ∷ Check ∷ Flows ∷ Replay ∷ Make ∷ Serve ∷ []

-- the command with this name
abbrev pub verb_named : List ℕ → Option Verb
verb_named name = find (λ verb. bytes_eq (verb_name verb) name) every_verb

-- the first word is the name of a command of the set
abbrev pub begin : Verbs → List ℕ → Option State
begin verbs name =
    option_and_then (λ verb. if contains verbs verb then Some (within verb nothing_said) else None)
    (verb_named name)

-- the option that a word names alone, or before the first = with a value after it
abbrev pub named_in : List ℕ → Option (Choice × Option (List ℕ))
named_in word =
    if nat_lt (position_or_len is_equals_sign word) (length word)
    then option_map (λ choice. (choice, Some (after_first is_equals_sign word)))
    (option_named (before_first is_equals_sign word))
    else option_map (λ choice. (choice, None)) (option_named word)

-- an option is named, with its value or without
abbrev pub read_named : Verb → Said → Choice × Option (List ℕ) → Option State
read_named verb said (choice, Some value) =
    option_map (within verb) (take_option verb said choice value)
read_named verb said (choice, None) =
    if may_come verb said choice then Some (awaiting verb said choice) else None

-- a word after whole items
abbrev pub read_word : Verb → ℕ → Said → List ℕ → Option State
read_word verb place said word =
    if is_plain word then option_map (within verb) (take_operand verb place said word)
    else option_and_then (read_named verb said) (named_in word)

-- the next word, at this place, or that none goes on with it
abbrev pub step : Verbs → ℕ → State → List ℕ → Option State
step verbs place fresh word = begin verbs word
step verbs place (within verb said) word = read_word verb place said word
step verbs place (awaiting verb said choice) word = option_map (within verb) (give said choice word)

-- what is asked for where the words end
abbrev pub task_in : State → Option Task
task_in (within verb said) = task_said verb said
task_in state = None

-- what is known after the words from a place on
abbrev pub steps : Verbs → ℕ → State → List (List ℕ) → Option State
steps verbs place state [] = Some state
steps verbs place state (word ∷ words) =
    option_and_then (λ next. steps verbs (place + 1) next words) (step verbs place state word)

-- what is asked for, or the place of the first word that is out of place, from a place on
abbrev pub answer : Verbs → ℕ → State → List (List ℕ) → Result Task ℕ
answer verbs place state [] = or_fault place (task_in state)
answer verbs place state (word ∷ words) = do
  next ← or_fault place (step verbs place state word)
  answer verbs (place + 1) next words

-- what the words ask for, or the place of the first that is out of place
abbrev pub asked : Verbs → List (List ℕ) → Result Task ℕ
asked verbs words = answer verbs 0 fresh words
