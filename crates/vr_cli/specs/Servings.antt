-- What a server is asked for, what it rests on and what it writes.
use Rattle.std.specs.Prelude.{ℕ, true, false, List, [], ◌∷◌, ◌++◌, length, codes, decimal, Ok}
use Rattle.vr_base.specs.Checks.{◌>>=◌, result_map_err}
use Rattle.vr_base.specs.Signs.{line_feed}
use Rattle.vr_files.specs.FileMaps.{FileMap}
use Rattle.vr_core.specs.History.{BookState}
use Rattle.vr_face.specs.Keys.{Holding, keys_of, most_keys}
use Rattle.vr_policy_check.specs.Rules.{CheckedData, identity_ids}
use Rattle.vr_policy_read.specs.Limits.{most_policy}
use Rattle.vr_report.specs.Texts.{files_text, policy_line}
use Rattle.vr_words.specs.Grammar.{AskFor, Serving, Task, serve}
use Rattle.vr_words.specs.Options.{Placed}
use Rattle.vr_words.specs.Views.{placed, serving_of}
use Rattle.vr_words.specs.declared.commands.Verbs.{Verbs}
use Rattle.vr_cli.specs.Outputs.{NamedFiles, Tested, in_file, policy_from}
use Rattle.vr_cli.specs.declared.serving.Asked.{Asked}
use Rattle.vr_cli.specs.declared.status.Status.TheVariants.{KeysRefused}

-- ---- the words

-- the one command that `serve` does
abbrev pub servers : Verbs
servers = record {
  hash = false;
  check = false;
  flows = false;
  replay = false;
  make = false;
  serve = true;
}

-- A claim about how a server is to run and about the words that name its policy and its keys, where the words of the
-- command line ask for one.
abbrev pub WhereAsked : List (List ℕ) → (Serving → Placed → Placed → Type 0) → Type 0
WhereAsked words Claim =
    (serving : Serving) (policy keys : Placed)
    → AskFor servers (serve serving policy keys) words → Claim serving policy keys

-- what the code's own words of a server stand for
abbrev pub task_asked : Asked → Task
task_asked asked = serve (serving_of asked.serving) (placed asked.policy) (placed asked.keys)

-- ---- the two files

-- What a server rests on: a checked policy, the hash of its file, and who holds which key.
pub record Basis : Type 0 where
  pub policy : CheckedData
  pub hash : List ℕ
  pub held : List Holding

-- who holds which key by a keys file of at most so many bytes, under a policy with these ids
abbrev pub keys_in : List ℕ → ℕ → List ℕ → Tested (List Holding)
keys_in ids most bytes = result_map_err KeysRefused (keys_of most ids bytes)

-- what a server rests on by the files of a folder, or the status of the first check that fails
abbrev pub basis_over : Placed → Placed → NamedFiles → Tested Basis
basis_over policy keys files = do
  said ← in_file (policy_from most_policy) policy files
  held ← in_file (keys_in (identity_ids said.0.policy) most_keys) keys files
  Ok (record { policy = said.0; hash = said.1; held = held })

-- ---- the text

-- the line of the port
abbrev pub listening_line : ℕ → List ℕ
listening_line port = codes "listening " ++ (decimal port ++ line_feed ∷ [])

-- the line of the number of calls that were made
abbrev pub entries_line : ℕ → List ℕ
entries_line count = codes "entries " ++ (decimal count ++ line_feed ∷ [])

-- what is written before the first connection: the hash of the policy, and the port
abbrev pub first_lines : List ℕ → ℕ → List ℕ
first_lines hash port = policy_line hash ++ listening_line port

-- what is written at the end: how many calls were made, and a line a file that is left
abbrev pub last_lines : ℕ → FileMap → List ℕ
last_lines count files = entries_line count ++ files_text files

-- all that a server writes, over the book that it kept
abbrev pub server_text : {K : Type 0} → ℕ → BookState K → List ℕ
server_text port book =
    first_lines book.origin.hash port ++ last_lines (length book.journal) book.files
