-- What the code's own types stand for, without where their words lie in memory.
use Rattle.std.specs.Prelude.{ℕ, List, Option, option_map}
use Rattle.std.specs.Borrow.{Bor}
use Rattle.vr_words.specs.Grammar.{Task, hash, check, flows, replay, make, serve, Serving}
use Rattle.vr_words.specs.Options.{Placed, Said}
use Rattle.vr_words.specs.Reading.{State, fresh, within, awaiting}
use Rattle.vr_words.specs.declared.commands.Word.{Word}
use Rattle.vr_words.specs.declared.commands.Serving.{Serving as ServingWords}
use Rattle.vr_words.specs.declared.commands.Command.{Command}
use Rattle.vr_words.specs.declared.commands.Command.TheVariants as commands
use Rattle.vr_words.specs.declared.options.Choice.{Choice}
use Rattle.vr_words.specs.declared.said.Said.{Said as SaidWords}
use Rattle.vr_words.specs.declared.scan.State.{State as CodeState}
use Rattle.vr_words.specs.declared.scan.State.TheVariants as states

abbrev pub placed : Word → Placed
placed word = record { place = word.place; text = word.text.now }

abbrev pub said_of : SaidWords → Said
said_of said = record {
  first = option_map placed said.first;
  second = option_map placed said.second;
  count = said.count;
  fuel = said.fuel;
  workers = said.workers;
  sessions = said.sessions;
  port = said.port;
  store = option_map (λ text. text.now) said.store;
}

abbrev pub state_of : CodeState → State
state_of states.Fresh = fresh
state_of (states.Within verb said) = within verb (said_of said)
state_of (states.Awaiting verb said choice) = awaiting verb (said_of said) choice

abbrev pub serving_of : ServingWords → Serving
serving_of serving = record {
  fuel = serving.fuel;
  workers = serving.workers;
  sessions = serving.sessions;
  port = serving.port;
  store = serving.store.now;
}

-- an option that a word names, and the value in the same word
abbrev pub named_of : Choice × Option (Bor (List ℕ)) → Choice × Option (List ℕ)
named_of named = (named.0, option_map (λ text. text.now) named.1)

-- the task of a command
abbrev pub task_of : Command → Task
task_of (commands.Hash policy) = hash (placed policy)
task_of (commands.Check policy) = check (placed policy)
task_of (commands.Flows policy) = flows (placed policy)
task_of (commands.Replay fuel policy script) = replay fuel (placed policy) (placed script)
task_of (commands.Make count) = make count
task_of (commands.Serve serving policy keys) =
    serve (serving_of serving) (placed policy) (placed keys)
