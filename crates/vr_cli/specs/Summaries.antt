-- The summary of a script's replay.
use Rattle.std.specs.Prelude.{◌≡◌, ℕ, ◌==◌, List, length, map, count_by, sum_by}
use Rattle.std.specs.List.{range_with_len}
use Rattle.std.specs.FinMap.{entries, len}
use Rattle.vr_base.specs.Calls.{reply_number}
use Rattle.vr_base.specs.declared.calls.Reply.{Reply}
use Rattle.vr_core.specs.Machine.{Origin, Replay}
use Rattle.vr_digests.specs.Digests.{digits_of}
use Rattle.vr_files.specs.FileMaps.{FileMap}
use Rattle.vr_generator.specs.Summary.{summary_text}
use Rattle.vr_generator.specs.declared.summary.Summary.{Summary}
use Rattle.vr_report.specs.declared.script.Line.{Line}
use Rattle.vr_cli.specs.Replays.{TellsReplay}

-- how many of the replies have each number from 0 to 13
abbrev pub reply_counts : List Reply → List ℕ
reply_counts replies =
    map (λ number. count_by (λ reply. reply_number reply == number) replies) (range_with_len 0 14)

-- the sum of the files' sizes
abbrev pub total_size : FileMap → ℕ
total_size files = sum_by (λ file. length file.1) (entries files)

-- what is told of a replay, whose text has this hash, of a script that was made for a number
abbrev pub summary_of : ℕ → Replay → List ℕ → Summary
summary_of made replay digits = record {
  made = made;
  calls = length replay.replies;
  replies = reply_counts replay.replies;
  files = len replay.files;
  bytes = total_size replay.files;
  hash = digits;
}

-- The lines are the summary of a script's replay, with the SHA-256 of the text that tells it.
pub record IsSummary (made : ℕ) (origin : Origin) (script : List Line) (lines : List ℕ)
    : Type 0 where
  pub replay : Replay
  pub text : List ℕ
  pub tells : TellsReplay origin script replay text
  pub written : lines ≡ summary_text (summary_of made replay (digits_of text))
