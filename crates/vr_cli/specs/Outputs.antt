-- What a task writes over the files of a folder, or the status of the first check that fails.
use Rattle.std.specs.Prelude.{ℕ, List, [], ◌∷◌, ◌++◌, Option, Some, Result, Ok, Err, nat_lt, length, codes, decimal}
use Rattle.vr_base.specs.Checks.{◌>>=◌, or_fault, unless_fault, fault_if, result_map_err}
use Rattle.vr_base.specs.Outside.{file_of}
use Rattle.vr_base.specs.Signs.{line_feed}
use Rattle.vr_digests.specs.Digests.{digits_of}
use Rattle.vr_files.specs.FileMaps.{no_files}
use Rattle.vr_core.specs.Machine.{Origin}
use Rattle.vr_policy_read.specs.Limits.{most_policy}
use Rattle.vr_policy_read.specs.Policies.{policy_within}
use Rattle.vr_policy_read.specs.declared.faults.ReadFault.{ReadFault as PolicyFault}
use Rattle.vr_policy_read.specs.Faults.{kind_number}
use Rattle.vr_policy_read.specs.declared.faults.ReadKind.TheVariants.{TooLong}
use Rattle.vr_policy_read.specs.PolicyData.{PolicyData}
use Rattle.vr_policy_check.specs.Faults.{kind_number as rule_number}
use Rattle.vr_policy_check.specs.Rules.{CheckedData, check_of}
use Rattle.vr_policy_check.specs.declared.faults.CheckFault.{CheckFault}
use Rattle.vr_report.specs.Script.{script_of, most_script}
use Rattle.vr_report.specs.declared.script.Line.{Line}
use Rattle.vr_generator.specs.Generator.{policy_text, script_text}
use Rattle.vr_words.specs.Grammar.{Task, hash, check, flows, replay, make}
use Rattle.vr_words.specs.Options.{Placed}
use Rattle.vr_cli.specs.declared.status.Status.{Status}
use Rattle.vr_cli.specs.declared.status.Status.TheVariants.{Usage, PolicyRefused, ScriptRefused, Absent}

-- what a check lets pass, or the status of the check that fails
abbrev pub Tested : Type 0 → Type 0
Tested A = Result A Status

-- files by their names
abbrev pub NamedFiles : Type 0
NamedFiles = List (List ℕ × List ℕ)

-- the bytes of the file that a word names
abbrev pub bytes_named : Placed → NamedFiles → Tested (List ℕ)
bytes_named word files = or_fault (Absent word.place) (file_of word.text files)

-- a policy that its reading refuses, which is the first stage
abbrev pub policy_refusal : PolicyFault → Status
policy_refusal fault = PolicyRefused 1 (kind_number fault.kind) fault.at

-- a policy that breaks a rule, which is the second stage
abbrev pub rule_refusal : CheckFault → Status
rule_refusal fault = PolicyRefused 2 (rule_number fault.kind) fault.at

-- the checked policy that at most so many bytes say
abbrev pub checked_from : ℕ → List ℕ → Tested CheckedData
checked_from most bytes = do
  policy ← result_map_err policy_refusal (policy_within most bytes)
  result_map_err rule_refusal (check_of policy)

-- how many identities, programs, pipelines and hashes of files a policy has
abbrev pub counts_line : PolicyData → List ℕ
counts_line policy =
    codes "ok " ++ (decimal (length policy.identities)
    ++ (codes " " ++ (decimal (length policy.programs)
    ++ (codes " " ++ (decimal (length policy.pipelines)
    ++ (codes " " ++ (decimal (length policy.pins) ++ line_feed ∷ [])))))))

-- the checked policy that at most so many bytes say, and the hash of its file
abbrev pub policy_from : ℕ → List ℕ → Tested (CheckedData × List ℕ)
policy_from most bytes = do
  policy ← checked_from most bytes
  Ok (policy, digits_of bytes)

-- where a replay begins under a checked policy with the hash of its file: without files, and with so many steps for all
-- programs of a run together
abbrev pub origin_under : ℕ → CheckedData → List ℕ → Origin
origin_under fuel policy digits =
    record { policy = policy; hash = digits; fuel = fuel; opening = no_files }

-- the calls of the script that at most so many bytes are
abbrev pub script_in : ℕ → List ℕ → Tested (List Line)
script_in most bytes = result_map_err ScriptRefused (script_of most bytes)

-- the hash of a policy file of at most so many bytes; a longer one is refused as its reading would refuse it
abbrev pub digits_from : ℕ → List ℕ → Tested (List ℕ)
digits_from most bytes =
    unless_fault (fault_if (nat_lt most (length bytes)) (PolicyRefused 1 (kind_number TooLong) 0))
    (digits_of bytes)

-- what a reading says of the file that a word names
abbrev pub in_file : {A : Type 0} → (List ℕ → Tested A) → Placed → NamedFiles → Tested A
in_file reading word files = bytes_named word files >>= reading

-- how many steps all programs of a run may make together, where no words say it
abbrev pub usual_fuel : ℕ
usual_fuel = 50000000

-- What a task writes: this text; the text of the flows of a policy, whatever sets tell them; the text of the replay of a
-- script, which the machine's replies make; or the summary of the replay of a script that was made for a number.
pub data Output : Type 0 where
  text : List ℕ → Output
  flows_under : CheckedData → Output
  replay_of : Origin → List Line → Output
  summary_under : ℕ → Origin → List Line → Output

-- The output of a task over the files of a folder. A task of another command has none; no words ask for it.
abbrev pub output_of : Task → NamedFiles → Tested Output
output_of (hash policy) files = do
  digits ← in_file (digits_from most_policy) policy files
  Ok (text (digits ++ line_feed ∷ []))
output_of (check policy) files = do
  checked ← in_file (checked_from most_policy) policy files
  Ok (text (counts_line checked.policy))
output_of (flows policy) files = do
  checked ← in_file (checked_from most_policy) policy files
  Ok (flows_under checked)
output_of (replay fuel policy script) files = do
  said ← in_file (policy_from most_policy) policy files
  calls ← in_file (script_in most_script) script files
  Ok (replay_of (origin_under fuel said.0 said.1) calls)
output_of (make count) files = do
  said ← policy_from most_policy policy_text
  calls ← script_in most_script (script_text count)
  Ok (summary_under count (origin_under usual_fuel said.0 said.1) calls)
output_of task files = Err (Usage 0)

-- the files that an output is made of, where they are told: those of the folder, and none for `make`, which reads no file
abbrev pub files_for : Task → Option NamedFiles → Option NamedFiles
files_for (make count) files = Some []
files_for task files = files
