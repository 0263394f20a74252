-- Histories: the calls that were made, with their replies. A history is legal where the machine's replay of its calls
-- comes to its replies.
use Rattle.std.specs.Prelude.{◌≡◌, ℕ, Bool, is_some, IsTrue, IsFalse, Option, IfSome, List, [], ◌∷◌, ◌++◌, map, All, Result, Ok, Err}
use Rattle.std.specs.Option.{ForSome}
use Rattle.vr_base.specs.declared.calls.Call.{Call}
use Rattle.vr_base.specs.declared.calls.Reply.{Reply}
use Rattle.vr_base.specs.declared.calls.Entry.{Entry}
use Rattle.vr_files.specs.FileMaps.{FileMap}
use Rattle.vr_policy_check.specs.Checked.{IsChecked}
use Rattle.vr_policy_check.specs.Rules.{CheckedData}
use Rattle.vr_core.specs.Machine.{Origin, Replays, IsStep, effect}
use Rattle.vr_base.specs.Calls.{is_made}

-- the entry of a call
abbrev pub entry : ℕ → ℕ → Call → Reply → Entry
entry seat who call reply = record { seat = seat; who = who; call = call; reply = reply }

-- the calls of a history, each with its identity
abbrev pub calls_of : List Entry → List (ℕ × Call)
calls_of history = map (λ e. (e.who, e.call)) history

-- the replies of a history
abbrev pub replies_of : List Entry → List Reply
replies_of history = map (λ e. e.reply) history

-- The calls of a history were made, and come to its replies and these files.
pub record IsCurrent (origin : Origin) (history : List Entry) (files : FileMap) : Type 0 where
  pub replayed : Replays origin origin.opening (calls_of history)
      (record { replies = replies_of history; files = files })
  pub made : All (λ e. IsTrue (is_made e.reply)) history

-- each reply of a history is the machine's, on the files that the calls before it left
abbrev pub IsLegal : Origin → List Entry → Type 0
IsLegal origin history = (files : FileMap) × IsCurrent origin history files

-- What a book stands for: where its history began, the history, the files after it, and the keeper of the files.
pub record BookState (K : Type 0) : Type 0 where
  pub origin : Origin
  pub journal : List Entry
  pub files : FileMap
  pub keeper : K

-- the state with these parts
abbrev pub book_state : {K : Type 0} → CheckedData → List ℕ → ℕ → FileMap → List Entry → FileMap → K
    → BookState K
book_state policy hash fuel opening journal files keeper = record {
  origin = record { policy = policy; hash = hash; fuel = fuel; opening = opening };
  journal = journal;
  files = files;
  keeper = keeper;
}

-- The policy passed the rules, the journal is legal, the files are those after it, and the keeper was loaded. Where it
-- tells its rows, they are the files.
pub record IsBook {K : Type 0} (rows : K → Option FileMap) (is_loaded : K → Bool)
    (book : BookState K) : Type 0 where
  pub checked : IsChecked book.origin.policy
  pub history : IsCurrent book.origin book.journal book.files
  pub loaded : IsTrue (is_loaded book.keeper)
  pub kept : ForSome (rows book.keeper) (λ kept. kept ≡ book.files)

-- What a call does to a book, apart from its keeper: where the call was made, its reply and the files after it are the
-- machine's, and the journal has its entry at the end; else neither changed.
pub record Steps {K : Type 0} (old new : BookState K) (seat who : ℕ) (call : Call)
    (reply : Reply) : Type 0 where
  pub origin : new.origin ≡ old.origin
  pub outcome : IsTrue (is_made reply)
      → IsStep old.origin old.files who call (effect reply new.files)
  pub made : IsTrue (is_made reply) → new.journal ≡ old.journal ++ entry seat who call reply ∷ []
  pub journal : IsFalse (is_made reply) → new.journal ≡ old.journal
  pub files : IsFalse (is_made reply) → new.files ≡ old.files

-- the keeper, whether a book was started over it or it came back
abbrev pub keeper_of : {K E : Type 0} → Result (BookState K) (E × K) → K
keeper_of (Ok book) = book.keeper
keeper_of (Err refusal) = refusal.1

-- A keeper tells its rows, and what a crash may leave, where it did before.
pub record TellsAsBefore {K : Type 0} (rows_of : K → Option FileMap) (tells : K → Bool)
    (old new : K) : Type 0 where
  pub rows : is_some (rows_of new) ≡ is_some (rows_of old)
  pub crashes : tells new ≡ tells old

-- A new book: without calls, over the files that the keeper loaded, which are its rows where it tells them.
pub record Opens {K : Type 0} (under : CheckedData) (digits : List ℕ) (steps : ℕ)
    (rows : Option FileMap) (book : BookState K) : Type 0 where
  pub policy : book.origin.policy ≡ under
  pub hash : book.origin.hash ≡ digits
  pub fuel : book.origin.fuel ≡ steps
  pub journal : book.journal ≡ []
  pub opening : book.files ≡ book.origin.opening
  pub loaded : IfSome rows (λ kept. book.origin.opening ≡ kept)
