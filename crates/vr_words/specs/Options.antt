-- The options of the commands: their names, their values, and what they are where they aren't given.
use Rattle.std.specs.Prelude.{ℕ, Bool, true, false, not, ◌&&◌, ◌==◌, nat_eq, List, length, find, codes, bytes_eq, ◌∷◌, [], Option, Some, None, is_none, option_map, if◌then◌else◌}
use Rattle.std.specs.List.{starts_with}
use Rattle.vr_words.specs.Numbers.{number_within}
use Rattle.vr_words.specs.declared.commands.Verb.{Verb}
use Rattle.vr_words.specs.declared.commands.Verb.TheVariants as verbs
use Rattle.vr_words.specs.declared.options.Choice.{Choice}
use Rattle.vr_words.specs.declared.options.Choice.TheVariants.{Fuel, Workers, Sessions, Port, Store}

-- a word of the command line: its place, and its text
pub record Placed : Type 0 where
  pub place : ℕ
  pub text : List ℕ

-- What the words after the command's name have said so far: the names of the files, the number, and the values of the options.
pub record Said : Type 0 where
  pub first : Option Placed
  pub second : Option Placed
  pub count : Option ℕ
  pub fuel : Option ℕ
  pub workers : Option ℕ
  pub sessions : Option ℕ
  pub port : Option ℕ
  pub store : Option (List ℕ)

-- no word after the command's name
abbrev pub nothing_said : Said
nothing_said = record {
  first = None;
  second = None;
  count = None;
  fuel = None;
  workers = None;
  sessions = None;
  port = None;
  store = None;
}

-- a word that isn't empty and doesn't begin with a hyphen
abbrev pub is_plain : List ℕ → Bool
is_plain word = not (length word == 0) && not (starts_with nat_eq word (codes "-"))

-- the name of an option, with its hyphens
abbrev pub option_name : Choice → List ℕ
option_name Fuel = codes "--fuel"
option_name Workers = codes "--workers"
option_name Sessions = codes "--sessions"
option_name Port = codes "--port"
option_name Store = codes "--store"

-- the options, each once
abbrev pub every_option : List Choice
every_option = Fuel ∷ Workers ∷ Sessions ∷ Port ∷ Store ∷ []

-- the option with this name
abbrev pub option_named : List ℕ → Option Choice
option_named name = find (λ choice. bytes_eq (option_name choice) name) every_option

-- whether a command has an option: `serve` has each, and `replay` the fuel
abbrev pub has_option : Verb → Choice → Bool
has_option verbs.Serve choice = true
has_option verbs.Replay Fuel = true
has_option verb choice = false

-- whether a value of the option isn't given yet
abbrev pub is_open : Said → Choice → Bool
is_open said Fuel = is_none said.fuel
is_open said Workers = is_none said.workers
is_open said Sessions = is_none said.sessions
is_open said Port = is_none said.port
is_open said Store = is_none said.store

-- the value of an option, where the word is one: a number within the option's bounds, or the name of a file
abbrev pub give : Said → Choice → List ℕ → Option Said
give said Fuel word =
    option_map (λ n. record said { fuel = Some n }) (number_within 0 1000000000000 word)
give said Workers word =
    option_map (λ n. record said { workers = Some n }) (number_within 1 16 word)
give said Sessions word =
    option_map (λ n. record said { sessions = Some n }) (number_within 1 1000000000 word)
give said Port word = option_map (λ n. record said { port = Some n }) (number_within 0 65535 word)
give said Store word = if is_plain word then Some (record said { store = Some word }) else None

-- whether the option may come next: the command has it, and it isn't given yet
abbrev pub may_come : Verb → Said → Choice → Bool
may_come verb said choice = has_option verb choice && is_open said choice

-- an option with its value is taken where it may come
abbrev pub take_option : Verb → Said → Choice → List ℕ → Option Said
take_option verb said choice word =
    if may_come verb said choice then give said choice word else None

-- what parts an option's name from its value in one word
abbrev pub equals_sign : ℕ
equals_sign = 61

-- whether a byte is this sign
abbrev pub is_equals_sign : ℕ → Bool
is_equals_sign b = b == equals_sign
