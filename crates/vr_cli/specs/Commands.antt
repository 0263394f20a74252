-- The commands that `command` does.
use Rattle.std.specs.Prelude.{◌≤◌, true, false}
use Rattle.vr_words.specs.Grammar.{Task, make, serve}
use Rattle.vr_words.specs.declared.commands.Verbs.{Verbs}

-- all but `serve`
abbrev pub commands : Verbs
commands = record {
  hash = true;
  check = true;
  flows = true;
  replay = true;
  make = true;
  serve = false;
}

-- a task of one of these commands; what is made has a number of at most 1,000
abbrev pub IsOurs : Task → Type 0
IsOurs (make count) = count ≤ 1000
IsOurs (serve serving policy keys) = ⊥
IsOurs task = Unit {0}
