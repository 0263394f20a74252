-- Which words of a command line name the files that are read.
use Rattle.std.specs.Prelude.{◌≡◌, ◌⊎◌, ℕ, List, Some, slice_get}
use Rattle.vr_words.specs.Grammar.{AskFor, Task, hash, check, flows, replay, make, serve}
use Rattle.vr_words.specs.Options.{Placed}
use Rattle.vr_words.specs.declared.commands.Verbs.{Verbs}
use Rattle.vr_cli.specs.declared.status.Status.{Status}
use Rattle.vr_cli.specs.declared.status.Status.TheVariants.{Absent}

-- one of two words
abbrev pub IsEither : Placed → Placed → Placed → Type 0
IsEither first second word = (word ≡ first) ⊎ (word ≡ second)

-- a word that names a file of the task
abbrev pub IsFileOf : Task → Placed → Type 0
IsFileOf (hash policy) word = word ≡ policy
IsFileOf (check policy) word = word ≡ policy
IsFileOf (flows policy) word = word ≡ policy
IsFileOf (replay fuel policy script) word = IsEither policy script word
IsFileOf (make count) word = ⊥
IsFileOf (serve serving policy keys) word = IsEither policy keys word

-- the place of such a word
abbrev pub IsPlaceOf : (Placed → Type 0) → ℕ → Type 0
IsPlaceOf IsNamed place = (word : Placed) × IsNamed word × (word.place ≡ place)

-- The place in a command line of a word that names a file of what the words ask for.
pub record NamesFile (verbs : Verbs) (words : List (List ℕ)) (place : ℕ) : Type 0 where
  pub task : Task
  pub word : Placed
  pub asked : AskFor verbs task words
  pub named : IsFileOf task word
  pub here : word.place ≡ place
  pub text : slice_get words place ≡ Some word.text

-- a claim about the place of the word whose file isn't there, where the status says so
abbrev pub IfAbsent : Status → (ℕ → Type 0) → Type 0
IfAbsent (Absent word) Claim = Claim word
IfAbsent status Claim = Unit {0}

-- a file that isn't there is the one that this word names
abbrev pub BlamesOnly : Placed → Status → Type 0
BlamesOnly word (Absent place) = place ≡ word.place
BlamesOnly word status = Unit {0}
