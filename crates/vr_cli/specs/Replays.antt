-- The text of a replay: a line a call with the machine's reply, and then a line a file that is left.
use Rattle.std.specs.Prelude.{◌≡◌, ◌⊎◌, ℕ, Bool, List, ◌++◌}
use Rattle.vr_base.specs.declared.calls.Call.{Call}
use Rattle.vr_base.specs.declared.calls.Reply.{Reply}
use Rattle.vr_files.specs.FileMaps.{FileMap}
use Rattle.vr_core.specs.Isolation.{AgreeIn, IsClosedFor, heard, purged}
use Rattle.vr_core.specs.History.{BookState, replies_of}
use Rattle.vr_core.specs.Machine.{Origin, Replay, Replays, no_calls}
use Rattle.vr_report.specs.Script.{calls_of}
use Rattle.vr_report.specs.Texts.{call_lines, policy_line, replay_text}
use Rattle.vr_report.specs.declared.script.Line.{Line}

-- A replay of calls is isolated: for each caller, and identities and regions that are closed for it, the replies to it
-- are those that the calls of these identities alone come to, from each opening that agrees in these regions on.
abbrev pub IsIsolatedReplay : Origin → List (ℕ × Call) → Replay → Type 0
IsIsolatedReplay origin calls replay =
    (caller : ℕ) (ids regions : ℕ → Bool) → IsClosedFor origin.policy caller ids regions
    → (opening : FileMap) (twin : Replay) → AgreeIn origin.policy regions origin.opening opening
    → Replays origin opening (purged ids calls) twin
    → heard caller (purged ids calls) twin.replies ≡ heard caller calls replay.replies

-- The text tells this replay of a script: what the machine answers its calls from the opening files on. The replies to
-- each caller depend on no calls but those of which the policy lets it learn.
pub record TellsReplay (origin : Origin) (script : List Line) (replay : Replay) (text : List ℕ)
    : Type 0 where
  pub comes : Replays origin origin.opening (calls_of script) replay
  pub isolated : IsIsolatedReplay origin (calls_of script) replay
  pub written : text ≡ replay_text origin.hash script replay.replies replay.files

-- the text is that of a script's replay
abbrev pub IsReplayText : Origin → List Line → List ℕ → Type 0
IsReplayText origin script text = (replay : Replay) × TellsReplay origin script replay text

-- ---- parts of it

-- what a book has come to: the replies in its journal, and its files
abbrev pub reached : {K : Type 0} → BookState K → Replay
reached book = record { replies = replies_of book.journal; files = book.files }

-- After what was reached before, the calls of a script come to the lines of their replies, and to what is reached then.
pub record AreCallLines (origin : Origin) (before : Replay) (script : List Line) (after : Replay)
    (lines : List ℕ) : Type 0 where
  pub replies : List Reply
  pub come : Replays origin before.files (calls_of script)
      (record { replies = replies; files = after.files })
  pub noted : after.replies ≡ before.replies ++ replies
  pub written : lines ≡ call_lines script replies

-- The lines are those of the first calls of a script, after what was reached before.
pub record AreFirstLines (origin : Origin) (before : Replay) (script : List Line)
    (lines : List ℕ) : Type 0 where
  pub called : List Line
  pub left : List Line
  pub split : script ≡ called ++ left
  pub after : Replay
  pub are : AreCallLines origin before called after lines

-- The text is one with which the replay of a script begins: the policy's line, and the lines of the first calls.
pub record BeginsReplay (origin : Origin) (script : List Line) (text : List ℕ) : Type 0 where
  pub lines : List ℕ
  pub first : AreFirstLines origin (no_calls origin.opening) script lines
  pub written : text ≡ policy_line origin.hash ++ lines

-- the text of a script's replay, or one with which it begins
abbrev pub IsReplaySoFar : Origin → List Line → List ℕ → Type 0
IsReplaySoFar origin script text = BeginsReplay origin script text ⊎ IsReplayText origin script text
