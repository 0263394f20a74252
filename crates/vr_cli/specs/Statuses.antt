-- The exit status and the text of each status.
use Rattle.std.specs.Prelude.{ℕ, List, [], ◌++◌, codes, decimal, slice_get, unwrap_or}
use Rattle.vr_cli.specs.declared.status.Status.{Status}
use Rattle.vr_cli.specs.declared.status.Status.TheVariants as statuses

abbrev pub exit_code : Status → ℕ
exit_code statuses.Ok = 0
exit_code (statuses.Usage index) = 1
exit_code (statuses.PolicyRefused stage rule index) = 2
exit_code (statuses.ScriptRefused line) = 3
exit_code (statuses.Absent word) = 4
exit_code statuses.ReadFault = 5
exit_code statuses.WriteFault = 6
exit_code statuses.WantOfMemory = 7
exit_code statuses.ListenFault = 8
exit_code statuses.KeeperFault = 9
exit_code (statuses.KeysRefused line) = 10
exit_code (statuses.StoreRefused row) = 11

-- the word at this place, or no text where there is none
abbrev pub word_at : List (List ℕ) → ℕ → List ℕ
word_at words place = unwrap_or (slice_get words place) []

-- the text on standard error, over the words of the command line
abbrev pub status_text : List (List ℕ) → Status → List ℕ
status_text words statuses.Ok = []
status_text words (statuses.Usage index) = codes "usage: word " ++ decimal index
status_text words (statuses.PolicyRefused stage rule index) =
    codes "policy refused: stage " ++ (decimal stage
    ++ (codes " rule " ++ (decimal rule ++ (codes " at " ++ decimal index))))
status_text words (statuses.ScriptRefused line) = codes "script refused: line " ++ decimal line
status_text words (statuses.Absent word) = codes "absent: " ++ word_at words word
status_text words statuses.ReadFault = codes "read fault"
status_text words statuses.WriteFault = codes "write fault"
status_text words statuses.WantOfMemory = codes "out of memory"
status_text words statuses.ListenFault = codes "listen fault"
status_text words statuses.KeeperFault = codes "keeper fault"
status_text words (statuses.KeysRefused line) = codes "keys refused: line " ++ decimal line
status_text words (statuses.StoreRefused row) = codes "store refused: row " ++ decimal row
