-- The texts of a replay: one line a call, then one line a file.
use Rattle.std.specs.Prelude.{ℕ, List, [], ◌∷◌, ◌++◌, length, codes, decimal, flat_map, zip}
use Rattle.std.specs.FinMap.{entries}
use Rattle.vr_base.specs.Signs.{line_feed}
use Rattle.vr_base.specs.declared.calls.Reply.{Reply}
use Rattle.vr_base.specs.declared.calls.Reply.TheVariants.{Stored, Read, Ended, PolicyHash}
use Rattle.vr_digests.specs.Digests.{digits_of}
use Rattle.vr_files.specs.FileMaps.{FileMap}
use Rattle.vr_report.specs.declared.script.Line.{Line}
use Rattle.vr_text.specs.Refusals.{refusal_text}
use Rattle.vr_text.specs.Words.{word, number, sized_bytes}

-- what a reply says
abbrev pub reply_text : Reply → List ℕ
reply_text Stored = codes "done"
reply_text (Read body) = codes "done bytes" ++ sized_bytes body
reply_text (Ended code out) = codes "done code" ++ number code ++ codes " out" ++ sized_bytes out
reply_text (PolicyHash digits) = codes "done hash" ++ word digits
reply_text refusal = refusal_text refusal

-- the line of a call: its line in the script, its identity and the reply
abbrev pub call_line : ℕ → ℕ → Reply → List ℕ
call_line line who reply = decimal line ++ number who ++ word (reply_text reply) ++ line_feed ∷ []

-- the line of a file: its path, its size and its SHA-256
abbrev pub file_line : List ℕ × List ℕ → List ℕ
file_line file =
    codes "file" ++ word file.0 ++ number (length file.1) ++ word (digits_of file.1)
    ++ line_feed ∷ []

-- a line a file, in the order of the bytes of their paths
abbrev pub files_text : FileMap → List ℕ
files_text files = flat_map file_line (entries files)

-- the first line: the hash of the policy
abbrev pub policy_line : List ℕ → List ℕ
policy_line hash = codes "policy" ++ word hash ++ line_feed ∷ []

-- the lines of the calls, each with its reply
abbrev pub call_lines : List Line → List Reply → List ℕ
call_lines script replies =
    flat_map (λ call. call_line call.0.line call.0.who call.1) (zip script replies)

-- What a replay writes: the policy's hash, a line a call with its reply, and a line a file that is left.
abbrev pub replay_text : List ℕ → List Line → List Reply → FileMap → List ℕ
replay_text hash script replies files =
    policy_line hash ++ call_lines script replies ++ files_text files
