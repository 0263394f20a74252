-- What the words of a command line ask for, and the status that says so.
use Rattle.std.proofs.Common.{◌≡◌, ◌≤◌, ◌↔◌, ℕ, List, Option, None, Some, Result, Ok, Err, true, refl, ap, ◌∙◌, subst, option_map}
use Rattle.std.specs.Prelude.{IfOk, IfSome}
use Rattle.vr_words.specs.Grammar.{Task, hash, check, flows, make, AskFor, IsWrongAt, contains, over_both, task_said}
use Rattle.vr_words.specs.Options.{Placed, Said, nothing_said}
use Rattle.vr_words.specs.declared.commands.Verb.{Verb}
use Rattle.vr_words.specs.declared.commands.Verb.TheVariants as verbs
use Rattle.vr_words.proofs.Results.{mapped}
use Rattle.vr_cli.specs.Commands.{commands, IsOurs}
use Rattle.vr_cli.specs.Endings.{Ends, SaysOver}
use Rattle.vr_cli.specs.Outputs.{NamedFiles, files_for, output_of}
use Rattle.vr_cli.proofs.CountLemmas.{HasSmallCount, small_count}
use Rattle.vr_cli.proofs.EndingLemmas.{ends_over}
use Rattle.vr_cli.specs.declared.status.Status.{Status}
use Rattle.vr_cli.specs.declared.status.Status.TheVariants.{Usage}

-- a task over one file
over_one : (make_task : Placed → Task) (file : Option Placed) (task : Task) → ((word : Placed) → IsOurs (make_task word)) → option_map make_task file ≡ Some task → IsOurs task
over_one make_task file task ours h = let from = mapped make_task file task h in subst IsOurs from.2 (ours from.0)

-- a task over two files
over_two : (make_task : Placed → Placed → Task) (first second : Option Placed) (task : Task) → ((a b : Placed) → IsOurs (make_task a b)) → over_both make_task first second ≡ Some task
    → IsOurs task
over_two make_task (Some first) (Some second) task ours h = let same : make_task first second ≡ task = cc in subst IsOurs same (ours first second)
over_two make_task None second task ours h = cc
over_two make_task first None task ours h = cc

said_ours : (verb : Verb) (said : Said) (task : Task) → HasSmallCount said → contains commands verb ≡ true → task_said verb said ≡ Some task → IsOurs task
said_ours verbs.Hash said task small known asks = over_one hash said.first task (λ word. tt) asks
said_ours verbs.Check said task small known asks = over_one check said.first task (λ word. tt) asks
said_ours verbs.Flows said task small known asks = over_one flows said.first task (λ word. tt) asks
said_ours verbs.Replay said task small known asks = over_two _ said.first said.second task (λ policy script. tt) asks
said_ours verbs.Make said task small known asks =
    let from = mapped make said.count task asks in
    let within : from.0 ≤ 1000 = rw from.1 at small in
    subst IsOurs from.2 within
said_ours verbs.Serve said task small known asks = cc (known)

-- words that are accepted ask for one of the commands
pub asks_ours : (task : Task) (words : List (List ℕ)) → AskFor commands task words → IsOurs task
asks_ours task words asks =
    let small = small_count asks.verb 1 nothing_said asks.items asks.said asks.taken tt in
    said_ours asks.verb asks.said task small asks.known asks.asks

-- what was answered is what the words ask for, and so one of the commands
pub answers_ours : (answer : Result Task ℕ) (words : List (List ℕ)) → ((task : Task) → (answer ≡ Ok task) ↔ AskFor commands task words) → IfOk answer IsOurs
answers_ours (Ok task) words accepted = asks_ours task words ((accepted task).0 refl)
answers_ours (Err place) words accepted = tt

-- ---- the status for the words

module _ (words : List (List ℕ)) where
  -- of words that are out of place
  pub usage_at : {A : Type 0} (answer : Result A ℕ) (at : ℕ) → answer ≡ Err at → ((place : ℕ) → (answer ≡ Err place) ↔ IsWrongAt commands words place)
      → (place : ℕ) → (Usage at ≡ Usage place) ↔ IsWrongAt commands words place
  usage_at answer at e refused place = (
    λ same. let here : at ≡ place = cc (same) in (refused place).0 (e ∙ ap Err here),
    λ wrong. let found : answer ≡ Err place = (refused place).1 wrong in cc (found, e),
  )

  -- of words that are accepted
  pub usage_never : {A : Type 0} (value : A) (status : Status) → ((place : ℕ) → (Ok value ≡ Err place) ↔ IsWrongAt commands words place) → ((place : ℕ) → status ≡ Usage place → ⊥)
      → (place : ℕ) → (status ≡ Usage place) ↔ IsWrongAt commands words place
  usage_never value status refused never place = (
    λ same. absurd (never place same),
    λ wrong. let found : Ok value ≡ Err place = (refused place).1 wrong in cc (found),
  )

  -- nothing is asked for by words that are out of place
  pub no_task : (at : ℕ) (task : Task) → ((other : Task) → (Err at ≡ Ok other) ↔ AskFor commands other words) → AskFor commands task words → ⊥
  no_task at task accepted asks = let found : Err at ≡ Ok task = (accepted task).1 asks in cc (found)

  -- what is asked for ends as what was done
  pub ends_asked : (files : Option NamedFiles) (answer : Result Task ℕ) (done task : Task) (status : Status) (old new : Option (List ℕ)) → answer ≡ Ok done
      → ((other : Task) → (answer ≡ Ok other) ↔ AskFor commands other words) → AskFor commands task words → SaysOver (files_for done files) status (output_of done) old new
      → IfSome (files_for task files) (λ fs. Ends (output_of task fs) status old new)
  ends_asked files answer done task status old new e accepted asks says =
      let found : answer ≡ Ok task = (accepted task).1 asks in
      let same : done ≡ task = cc (found, e) in
      subst (λ (t : Task). IfSome (files_for t files) (λ fs. Ends (output_of t fs) status old new)) same (ends_over (files_for done files) (output_of done) status old new says)
