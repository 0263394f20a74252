-- What the words of a server's command line ask for.
use Rattle.std.proofs.Common.{◌≡◌, ◌↔◌, ℕ, ◌≤◌, ◌&&◌, Bool, true, false, cond, List, [], ◌∷◌, Option, None, Some, Result, Ok, Err, refl, ap, ◌∙◌, subst, arith, lit≤}
use Rattle.std.specs.Prelude.{IfOk, IfSome, is_none, nat_le, unwrap_or}
use Rattle.std.specs.Str.Parse.{digits_value}
use Rattle.std.proofs.lemmas.Bool.Decides.{nat_tests}
use Rattle.vr_cli.specs.declared.status.Status.{Status}
use Rattle.vr_cli.specs.declared.status.Status.TheVariants.{Usage}
use Rattle.vr_words.specs.Grammar.{Task, AskFor, IsWrongAt, Item, operand, apart, attached, serve, contains, over_both, place_after, take_file, take_item, take_items, take_operand, takes_two, task_said, Serving, serving}
use Rattle.vr_words.specs.Numbers.{number_within}
use Rattle.vr_words.specs.Options.{Placed, Said, give, is_plain, may_come, nothing_said, take_option}
use Rattle.vr_words.specs.declared.commands.Verb.{Verb}
use Rattle.vr_words.specs.declared.commands.Verb.TheVariants as verbs
use Rattle.vr_words.specs.declared.options.Choice.{Choice}
use Rattle.vr_words.specs.declared.options.Choice.TheVariants.{Fuel, Workers, Sessions, Port, Store}
use Rattle.vr_words.specs.Views.{placed, serving_of, task_of}
use Rattle.vr_words.specs.declared.commands.Command.{Command}
use Rattle.vr_words.specs.declared.commands.Command.TheVariants as commands
use Rattle.vr_words.specs.declared.commands.Serving.{Serving as ServingWords}
use Rattle.vr_words.specs.declared.commands.Word.{Word}
use Rattle.vr_words.proofs.Results.{bound, chosen, mapped}
use Rattle.vr_cli.specs.Servings.{servers, task_asked, WhereAsked}
use Rattle.vr_cli.specs.declared.serving.Asked.{Asked}

-- ---- the number of workers

-- the workers are 1 to 16, where they are given
abbrev HasWorkers : Said → Type 0
HasWorkers said = IfSome said.workers (λ n. (1 ≤ n) × (n ≤ 16))

within : (numeral : Bool) (least most value n : ℕ) → cond (numeral && (nat_le least value && nat_le value most)) (Some value) None ≡ Some n → (least ≤ n) × (n ≤ most)
within numeral least most value n h = grind (arith, nat_tests)

give_workers : (said : Said) (choice : Choice) (word : List ℕ) (next : Said) → give said choice word ≡ Some next → HasWorkers said → HasWorkers next
give_workers said Fuel word next h k = let from = mapped _ (number_within 0 1000000000000 word) next h in subst HasWorkers from.2 k
give_workers said Workers word next h k =
    let from = mapped _ (number_within 1 16 word) next h in
    subst HasWorkers from.2 (within _ 1 16 (digits_value 10 word) from.0 from.1)
give_workers said Sessions word next h k = let from = mapped _ (number_within 1 1000000000 word) next h in subst HasWorkers from.2 k
give_workers said Port word next h k = let from = mapped _ (number_within 0 65535 word) next h in subst HasWorkers from.2 k
give_workers said Store word next h k = by_test (is_plain word) h
  where
    by_test : (plain : Bool) → cond plain (Some (record said { store = Some word })) None ≡ Some next → HasWorkers next
    by_test true e = let same : record said { store = Some word } ≡ next = cc in subst HasWorkers same k
    by_test false e = cc

option_workers : (verb : Verb) (said : Said) (choice : Choice) (word : List ℕ) (next : Said) → take_option verb said choice word ≡ Some next → HasWorkers said → HasWorkers next
option_workers verb said choice word next h k = give_workers said choice word next (chosen (may_come verb said choice) (give said choice word) next h).1 k

file_workers : (verb : Verb) (said : Said) (file : Placed) (next : Said) → take_file verb said file ≡ Some next → HasWorkers said → HasWorkers next
file_workers verb said file next h k = by_first (is_none said.first) h
  where
    by_second : (unsaid : Bool) → cond unsaid (Some (record said { second = Some file })) None ≡ Some next → HasWorkers next
    by_second true e = let same : record said { second = Some file } ≡ next = cc in subst HasWorkers same k
    by_second false e = cc

    by_first : (unsaid : Bool) → cond unsaid (Some (record said { first = Some file })) (cond (takes_two verb && is_none said.second) (Some (record said { second = Some file })) None) ≡ Some next → HasWorkers next
    by_first true e = let same : record said { first = Some file } ≡ next = cc in subst HasWorkers same k
    by_first false e = by_second (takes_two verb && is_none said.second) e

operand_workers : (verb : Verb) (place : ℕ) (said : Said) (word : List ℕ) (next : Said) → take_operand verb place said word ≡ Some next → HasWorkers said → HasWorkers next
operand_workers verbs.Make place said word next h k =
    let from = mapped _ (number_within 1 1000 word) next (chosen (is_none said.count) _ next h).1 in
    subst HasWorkers from.2 k
operand_workers verbs.Hash place said word next h k = file_workers verbs.Hash said _ next h k
operand_workers verbs.Check place said word next h k = file_workers verbs.Check said _ next h k
operand_workers verbs.Flows place said word next h k = file_workers verbs.Flows said _ next h k
operand_workers verbs.Replay place said word next h k = file_workers verbs.Replay said _ next h k
operand_workers verbs.Serve place said word next h k = file_workers verbs.Serve said _ next h k

item_workers : (verb : Verb) (place : ℕ) (said : Said) (item : Item) (next : Said) → take_item verb place said item ≡ Some next → HasWorkers said → HasWorkers next
item_workers verb place said (operand word) next h k = operand_workers verb place said word next (chosen (is_plain word) _ next h).1 k
item_workers verb place said (apart choice value) next h k = option_workers verb said choice value next h k
item_workers verb place said (attached choice value) next h k = option_workers verb said choice value next h k

items_workers : (verb : Verb) (place : ℕ) (said : Said) (items : List Item) (next : Said) → take_items verb place said items ≡ Some next → HasWorkers said → HasWorkers next
items_workers verb place said [] next h k = let same : said ≡ next = cc in subst HasWorkers same k
items_workers verb place said (item ∷ items) next h k =
    let more = bound _ (take_item verb place said item) next h in
    items_workers verb (place_after place item) more.0 items next more.2 (item_workers verb place said item more.0 more.1 k)

-- the server's workers, whether they are given or not
serving_workers : (workers : Option ℕ) → IfSome workers (λ n. (1 ≤ n) × (n ≤ 16)) → (1 ≤ unwrap_or workers 4) × (unwrap_or workers 4 ≤ 16)
serving_workers None h = (lit≤ tt, lit≤ tt)
serving_workers (Some n) h = h

-- ---- the task of a server

-- a server, of one worker at least and of sixteen at most
abbrev pub IsServer : Task → Type 0
IsServer (serve serving policy keys) = (1 ≤ serving.workers) × (serving.workers ≤ 16)
IsServer task = ⊥

over_server : (said : Said) (first second : Option Placed) (task : Task) → over_both (serve (serving said)) first second ≡ Some task → HasWorkers said → IsServer task
over_server said (Some first) (Some second) task h k =
    let same : serve (serving said) first second ≡ task = cc in
    subst IsServer same (serving_workers said.workers k)
over_server said None second task h k = cc
over_server said first None task h k = cc

said_server : (verb : Verb) (said : Said) (task : Task) → contains servers verb ≡ true → task_said verb said ≡ Some task → HasWorkers said → IsServer task
said_server verbs.Serve said task known asks k = over_server said said.first said.second task asks k
said_server verbs.Hash said task known asks k = cc
said_server verbs.Check said task known asks k = cc
said_server verbs.Flows said task known asks k = cc
said_server verbs.Replay said task known asks k = cc
said_server verbs.Make said task known asks k = cc

-- the words ask for a server alone
pub asks_server : (task : Task) (words : List (List ℕ)) → AskFor servers task words → IsServer task
asks_server task words asks =
    said_server asks.verb asks.said task asks.known asks.asks (items_workers asks.verb 1 nothing_said asks.items asks.said asks.taken tt)

-- what was answered is what the words ask for, and so a server
pub answers_server : (answer : Result Task ℕ) (words : List (List ℕ)) → ((task : Task) → (answer ≡ Ok task) ↔ AskFor servers task words) → IfOk answer IsServer
answers_server (Ok task) words accepted = asks_server task words ((accepted task).0 refl)
answers_server (Err place) words accepted = tt

-- ---- claims about how the server is to run

-- What is so of the server that was read is so of the one that the words ask for.
pub where_asked : (words : List (List ℕ)) (asked : Asked) (answer : Result Task ℕ) (Claim : Serving → Placed → Placed → Type 0) → answer ≡ Ok (task_asked asked)
    → ((task : Task) → (answer ≡ Ok task) ↔ AskFor servers task words)
    → Claim (serving_of asked.serving) (placed asked.policy) (placed asked.keys) → WhereAsked words Claim
where_asked words asked answer Claim e accepted claim how policy keys asks =
    let found : answer ≡ Ok (serve how policy keys) = (accepted (serve how policy keys)).1 asks in
    let same : task_asked asked ≡ serve how policy keys = cc (found, e) in
    let first : serving_of asked.serving ≡ how = cc (same) in
    let second : placed asked.policy ≡ policy = cc (same) in
    let third : placed asked.keys ≡ keys = cc (same) in
    subst (λ (p : Serving × Placed × Placed). Claim p.0 p.1 p.2) (λ i. (first i, second i, third i)) claim

-- words that are out of place ask for nothing
pub where_wrong : (words : List (List ℕ)) (at : ℕ) (answer : Result Task ℕ) (Claim : Serving → Placed → Placed → Type 0) → answer ≡ Err at
    → ((task : Task) → (answer ≡ Ok task) ↔ AskFor servers task words) → WhereAsked words Claim
where_wrong words at answer Claim e accepted how policy keys asks =
    let found : answer ≡ Ok (serve how policy keys) = (accepted (serve how policy keys)).1 asks in
    cc (found, e)

-- ---- the status for the words

module _ (words : List (List ℕ)) where
  -- of words that are out of place
  pub server_usage : {A : Type 0} (answer : Result A ℕ) (at : ℕ) → answer ≡ Err at → ((place : ℕ) → (answer ≡ Err place) ↔ IsWrongAt servers words place)
      → (place : ℕ) → (Usage at ≡ Usage place) ↔ IsWrongAt servers words place
  server_usage answer at e refused place = (
    λ same. let here : at ≡ place = cc (same) in (refused place).0 (e ∙ ap Err here),
    λ wrong. let found : answer ≡ Err place = (refused place).1 wrong in cc (found, e),
  )

  -- of words that are accepted
  pub server_no_usage : {A : Type 0} (value : A) (status : Status) → ((place : ℕ) → (Ok value ≡ Err place) ↔ IsWrongAt servers words place) → ((place : ℕ) → status ≡ Usage place → ⊥)
      → (place : ℕ) → (status ≡ Usage place) ↔ IsWrongAt servers words place
  server_no_usage value status refused never place = (
    λ same. absurd (never place same),
    λ wrong. let found : Ok value ≡ Err place = (refused place).1 wrong in cc (found),
  )

-- ---- the command that was read

-- what was read is no place, whatever was read
pub still_refused : {A B : Type 0} (x : A) (y : B) (IsWrong : ℕ → Type 0) → ((place : ℕ) → (Ok x ≡ Err place) ↔ IsWrong place) → (place : ℕ) → (Ok y ≡ Err place) ↔ IsWrong place
still_refused x y IsWrong refused place = (
  λ same. cc (same),
  λ wrong. let found : Ok x ≡ Err place = (refused place).1 wrong in cc (found),
)

-- a place is the same, whatever might have been read
pub same_refused : {A B : Type 0} (first : Result A ℕ) (second : Result B ℕ) (at : ℕ) (IsWrong : ℕ → Type 0) → first ≡ Err at → second ≡ Err at
    → ((place : ℕ) → (first ≡ Err place) ↔ IsWrong place) → (place : ℕ) → (second ≡ Err place) ↔ IsWrong place
same_refused first second at IsWrong e f refused place = (
  λ same. let here : at ≡ place = cc (same, f) in (refused place).0 (e ∙ ap Err here),
  λ wrong.
      let found : first ≡ Err place = (refused place).1 wrong in
      let here : at ≡ place = cc (found, e) in
      f ∙ ap Err here,
)

-- a command of a server is one
pub only_serve : (command : Command) → IsServer (task_of command) → ((serving : ServingWords) (policy keys : Word) → command ≡ commands.Serve serving policy keys → ⊥) → ⊥
only_serve (commands.Serve serving policy keys) h other = other serving policy keys refl
only_serve (commands.Hash policy) h other = h
only_serve (commands.Check policy) h other = h
only_serve (commands.Flows policy) h other = h
only_serve (commands.Replay fuel policy script) h other = h
only_serve (commands.Make count) h other = h
