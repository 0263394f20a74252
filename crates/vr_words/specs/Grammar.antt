-- The lists of words that the program accepts, what each asks for, and the first word that is out of place.
use Rattle.std.specs.Prelude.{◌≡◌, ◌<◌, ℕ, ◌+◌, Bool, true, false, ◌&&◌, List, [], ◌∷◌, ◌++◌, length, codes, Option, Some, None, is_none, option_map, option_and_then, unwrap_or, if◌then◌else◌}
use Rattle.std.specs.List.{flat_map}
use Rattle.vr_words.specs.Numbers.{number_within}
use Rattle.vr_words.specs.Options.{Placed, Said, nothing_said, is_plain, option_name, take_option, equals_sign}
use Rattle.vr_words.specs.declared.commands.Verb.{Verb}
use Rattle.vr_words.specs.declared.commands.Verb.TheVariants.{Hash, Check, Flows, Replay, Make, Serve}
use Rattle.vr_words.specs.declared.commands.Verbs.{Verbs}
use Rattle.vr_words.specs.declared.options.Choice.{Choice}

-- How a server is to run, beside its policy and its keys.
pub record Serving : Type 0 where
  pub fuel : ℕ
  pub workers : ℕ
  pub sessions : ℕ
  pub port : ℕ
  pub store : List ℕ

-- What the program is asked to do.
pub data Task : Type 0 where
  hash : Placed → Task
  check : Placed → Task
  flows : Placed → Task
  -- the fuel of a run, the policy and the script
  replay : ℕ → Placed → Placed → Task
  -- so many times a hundred calls
  make : ℕ → Task
  -- the policy and the keys
  serve : Serving → Placed → Placed → Task

-- the word that names a command
abbrev pub verb_name : Verb → List ℕ
verb_name Hash = codes "hash"
verb_name Check = codes "check"
verb_name Flows = codes "flows"
verb_name Replay = codes "replay"
verb_name Make = codes "make"
verb_name Serve = codes "serve"

-- whether a command is one of the set
abbrev pub contains : Verbs → Verb → Bool
contains verbs Hash = verbs.hash
contains verbs Check = verbs.check
contains verbs Flows = verbs.flows
contains verbs Replay = verbs.replay
contains verbs Make = verbs.make
contains verbs Serve = verbs.serve

-- ---- the words after the command's name

-- What stands after the command's name, in any order.
pub data Item : Type 0 where
  -- the name of a file, or a number
  operand : List ℕ → Item
  -- an option in two words, `--name VALUE`
  apart : Choice → List ℕ → Item
  -- an option in one word, `--name=VALUE`
  attached : Choice → List ℕ → Item

-- the words of an item
abbrev pub item_words : Item → List (List ℕ)
item_words (operand word) = word ∷ []
item_words (apart choice value) = option_name choice ∷ value ∷ []
item_words (attached choice value) = (option_name choice ++ equals_sign ∷ value) ∷ []

-- the place after an item that begins at this place
abbrev pub place_after : ℕ → Item → ℕ
place_after place (operand word) = place + 1
place_after place (apart choice value) = place + 1 + 1
place_after place (attached choice value) = place + 1

-- whether a command takes the names of two files
abbrev pub takes_two : Verb → Bool
takes_two Replay = true
takes_two Serve = true
takes_two verb = false

-- the name of a file is taken where the command wants one more
abbrev pub take_file : Verb → Said → Placed → Option Said
take_file verb said file =
    if is_none said.first then Some (record said { first = Some file })
    else (if takes_two verb && is_none said.second then Some (record said { second = Some file })
    else None)

-- a word that is no option: `make` takes one number from 1 to 1,000, and the other commands the names of files
abbrev pub take_operand : Verb → ℕ → Said → List ℕ → Option Said
take_operand Make place said word =
    if is_none said.count
    then option_map (λ n. record said { count = Some n }) (number_within 1 1000 word)
    else None
take_operand verb place said word = take_file verb said (record { place = place; text = word })

-- an item at a place is taken, or isn't one that may come there
abbrev pub take_item : Verb → ℕ → Said → Item → Option Said
take_item verb place said (operand word) =
    if is_plain word then take_operand verb place said word else None
take_item verb place said (apart choice value) = take_option verb said choice value
take_item verb place said (attached choice value) = take_option verb said choice value

-- the items from a place on are taken one after the other
abbrev pub take_items : Verb → ℕ → Said → List Item → Option Said
take_items verb place said [] = Some said
take_items verb place said (item ∷ items) =
    option_and_then (λ more. take_items verb (place_after place item) more items)
    (take_item verb place said item)

-- ---- whole lists of words

-- how the server runs: what isn't given is 50,000,000 steps, 4 workers, 1,000,000,000 sessions, port 8080, and no store file
abbrev pub serving : Said → Serving
serving said = record {
  fuel = unwrap_or said.fuel 50000000;
  workers = unwrap_or said.workers 4;
  sessions = unwrap_or said.sessions 1000000000;
  port = unwrap_or said.port 8080;
  store = unwrap_or said.store [];
}

-- the task over two files, where both are named
abbrev pub over_both : (Placed → Placed → Task) → Option Placed → Option Placed → Option Task
over_both make_task (Some first) (Some second) = Some (make_task first second)
over_both make_task first second = None

-- what a command is asked for, where all that it wants is said
abbrev pub task_said : Verb → Said → Option Task
task_said Hash said = option_map hash said.first
task_said Check said = option_map check said.first
task_said Flows said = option_map flows said.first
task_said Replay said = over_both (replay (unwrap_or said.fuel 50000000)) said.first said.second
task_said Make said = option_map make said.count
task_said Serve said = over_both (serve (serving said)) said.first said.second

-- The words ask for the task: the name of a command of the set, and items after it, in any order, that say what it wants.
pub record AskFor (verbs : Verbs) (task : Task) (words : List (List ℕ)) : Type 0 where
  pub verb : Verb
  pub items : List Item
  pub said : Said
  pub spelled : words ≡ verb_name verb ∷ flat_map item_words items
  pub known : contains verbs verb ≡ true
  pub taken : take_items verb 1 nothing_said items ≡ Some said
  pub asks : task_said verb said ≡ Some task

-- The list of words is accepted: it asks for some task.
abbrev pub IsAccepted : Verbs → List (List ℕ) → Type 0
IsAccepted verbs words = (task : Task) × AskFor verbs task words

-- An accepted list begins with the words.
abbrev pub IsBegun : Verbs → List (List ℕ) → Type 0
IsBegun verbs words = (rest : List (List ℕ)) × IsAccepted verbs (words ++ rest)

-- After the words before, no accepted list goes on with the first word after them, or none ends where no word is left.
abbrev pub IsOutOfPlace : Verbs → List (List ℕ) → List (List ℕ) → Type 0
IsOutOfPlace verbs before [] = IsAccepted verbs before → ⊥
IsOutOfPlace verbs before (word ∷ after) = IsBegun verbs (before ++ word ∷ []) → ⊥

-- The place of the first word that no accepted list has after the words before it, or the number of the words where they
-- end too early.
pub record IsWrongAt (verbs : Verbs) (words : List (List ℕ)) (place : ℕ) : Type 0 where
  pub before : List (List ℕ)
  pub after : List (List ℕ)
  pub split : words ≡ before ++ after
  pub counted : length before ≡ place
  -- an accepted list begins with the words before, where there are any
  pub begun : 0 < place → IsBegun verbs before
  pub wrong : IsOutOfPlace verbs before after
