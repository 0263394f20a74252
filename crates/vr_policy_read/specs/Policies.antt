-- The policy that a file says, or its first fault in the order of the tests.
use Rattle.std.specs.Prelude.{ℕ, ◌*◌, ◌-◌, ◌^◌, min, List, [], length, nat_lt, if◌then◌else◌, None, option_map, Result, Ok, Err}
use Rattle.std.specs.Result.{result_ok}
use Rattle.std.specs.Str.{is_utf8}
use Rattle.hex.specs.Hex.{encode_lower, decode_sized}
use Rattle.serde_json.specs.Data.{Data, number, string, Members}
use Rattle.serde_json.specs.Read.{read}
use Rattle.vr_base.specs.Checks.{◌>>=◌, or_fault}
use Rattle.vr_base.specs.Names.{path_of, grant_of}
use Rattle.vr_base.specs.Rights.{known_rights, letters_word}
use Rattle.vr_policy_read.specs.Faults.{answer_at, kind_answer}
use Rattle.vr_policy_read.specs.Limits.{most_policy, most_pages, pages_per_mib}
use Rattle.vr_policy_read.specs.Members.{member_value, required_value, optional_value, object_in, required_text, whole_at_most, number_in, entries_in}
use Rattle.vr_policy_read.specs.PolicyData.{PolicyData, policy_data}
use Rattle.vr_policy_read.specs.declared.entries.Identity.{Identity}
use Rattle.vr_policy_read.specs.declared.entries.Program.{Program}
use Rattle.vr_policy_read.specs.declared.entries.Pipeline.{Pipeline}
use Rattle.vr_policy_read.specs.declared.entries.Pin.{Pin}
use Rattle.vr_policy_read.specs.declared.entries.Quota.{Quota}
use Rattle.vr_policy_read.specs.declared.faults.Member.TheVariants.{Top, Identities, Id, FileRights, FileName, Rights, Programs, ProgramFileName, Pipelines, PipelineText, FileHashes, FilePath, Hash, MaxMemory, Quotas, Bytes}
use Rattle.vr_policy_read.specs.declared.faults.Member.{Member}
use Rattle.vr_policy_read.specs.declared.faults.ReadKind.{ReadKind}
use Rattle.vr_policy_read.specs.declared.faults.ReadKind.TheVariants.{TooLong, NotJson, WrongKind, BadName, BadRights, BadHash}
use Rattle.vr_policy_read.specs.declared.faults.ReadFault.{ReadFault}

-- ---- grants

-- the name of a grant in the text of a member
abbrev pub grant_name_in : Member → Members → Result (List ℕ) ReadKind
grant_name_in member members = do
  text ← required_text member members
  or_fault BadName (result_ok (grant_of text))

-- a rights word as a number or as letters, without the bits that have no meaning
abbrev pub rights_in : Data → Result ℕ ReadKind
rights_in (number n) = or_fault BadRights (option_map known_rights (whole_at_most (2 ^ 32 - 1) n))
rights_in (string text) = or_fault BadRights (letters_word text)
rights_in _ = Err (WrongKind Rights)

-- one grant: file_name, then rights
abbrev pub grant_in : Members → Result (List ℕ × ℕ) ReadKind
grant_in members = do
  name ← grant_name_in FileName members
  word ← required_value Rights members >>= rights_in
  Ok (name, word)

-- the grants of file_rights, which has to be there
abbrev pub grants_in : Members → Result (List (List ℕ × ℕ)) ReadKind
grants_in members = do
  value ← required_value FileRights members
  kind_answer (entries_in FileRights grant_in value)

-- ---- the entries of the lists

-- an id, from 0 to 2^32 - 1
abbrev pub id_in : Members → Result ℕ ReadKind
id_in members = required_value Id members >>= number_in (2 ^ 32 - 1) Id

-- an identity: id, then file_rights
abbrev pub identity_in : Members → Result Identity ReadKind
identity_in members = do
  id ← id_in members
  grants ← grants_in members
  Ok (record { id = id; grants = grants })

-- a program: program_file_name, then file_rights
abbrev pub program_in : Members → Result Program ReadKind
program_in members = do
  name ← grant_name_in ProgramFileName members
  grants ← grants_in members
  Ok (record { name = name; grants = grants })

-- a pipeline: id, then pipeline
abbrev pub pipeline_in : Members → Result Pipeline ReadKind
pipeline_in members = do
  id ← id_in members
  text ← required_text PipelineText members
  Ok (record { id = id; text = text })

-- the path in the text of file_path
abbrev pub path_in : Members → Result (List ℕ) ReadKind
path_in members = do
  text ← required_text FilePath members
  or_fault BadName (result_ok (path_of text))

-- the lower-case digits of the 32 bytes that a text of 64 hex digits spells
abbrev pub hash_of : List ℕ → Result (List ℕ) ReadKind
hash_of text = or_fault BadHash (option_map encode_lower (result_ok (decode_sized text 32)))

-- a pinned hash: file_path, then hash
abbrev pub pin_in : Members → Result Pin ReadKind
pin_in members = do
  path ← path_in members
  hash ← required_text Hash members >>= hash_of
  Ok (record { path = path; hash = hash })

-- a quota: file_name, then bytes, from 0 to 2^64 - 1
abbrev pub quota_in : Members → Result Quota ReadKind
quota_in members = do
  name ← grant_name_in FileName members
  bytes ← required_value Bytes members >>= number_in (2 ^ 64 - 1) Bytes
  Ok (record { name = name; bytes = bytes })

-- ---- the file

-- the pages of a run's memory, for so many MiB
abbrev pub pages_of : ℕ → ℕ
pages_of mib = min most_pages (pages_per_mib * mib)

-- max_memory_mib in pages; all that a run may have where it is absent
abbrev pub pages_in : Members → Result ℕ ReadKind
pages_in top =
    optional_value most_pages
    (λ d. number_in (2 ^ 64 - 1) MaxMemory d >>= λ mib. Ok (pages_of mib))
    (member_value MaxMemory top)

-- the entries of a list that may be absent, which means that it is empty
abbrev pub optional_entries : {A : Type 0} → Member → (Members → Result A ReadKind) → Members
    → Result (List A) ReadFault
optional_entries list read top = optional_value [] (entries_in list read) (member_value list top)

-- the policy that a tree says, its members tested in this order
abbrev pub policy_of_tree : Data → Result PolicyData ReadFault
policy_of_tree tree = do
  top ← answer_at 0 (object_in Top tree)
  identities ← answer_at 0 (required_value Identities top) >>= entries_in Identities identity_in
  programs ← optional_entries Programs program_in top
  pipelines ← optional_entries Pipelines pipeline_in top
  pins ← optional_entries FileHashes pin_in top
  pages ← answer_at 0 (pages_in top)
  quotas ← optional_entries Quotas quota_in top
  Ok (policy_data identities programs pipelines pins pages quotas)

-- the tree that a file of at most so many bytes spells in JSON, as UTF-8
abbrev pub tree_within : ℕ → List ℕ → Result Data ReadKind
tree_within most bytes =
    if nat_lt most (length bytes) then Err TooLong
    else or_fault NotJson (if is_utf8 bytes then read bytes else None)

-- the policy that a file of at most so many bytes says, or its first fault
abbrev pub policy_within : ℕ → List ℕ → Result PolicyData ReadFault
policy_within most bytes = answer_at 0 (tree_within most bytes) >>= policy_of_tree

-- the policy that a file says, or its first fault
abbrev pub policy_of : List ℕ → Result PolicyData ReadFault
policy_of bytes = policy_within most_policy bytes
