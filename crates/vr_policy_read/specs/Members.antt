-- The members of a policy file: their names, their presence, their kinds and their lists.
use Rattle.std.specs.Prelude.{ℕ, suc, List, [], ◌∷◌, codes, nat_le, nat_lt, if◌then◌else◌, Option, Some, None, option_and_then, Result, Ok, Err}
use Rattle.serde_json.specs.Data.{Num, Data, Items, no_items, item, Members}
use Rattle.serde_json.specs.Events.{items_len}
use Rattle.serde_json.specs.Find.{get_member, as_object, as_array, as_number, as_str, as_u64}
use Rattle.vr_base.specs.Checks.{◌>>=◌, or_fault}
use Rattle.vr_policy_read.specs.Faults.{fault_at, answer_at}
use Rattle.vr_policy_read.specs.Limits.{most_entries}
use Rattle.vr_policy_read.specs.declared.faults.Member.{Member}
use Rattle.vr_policy_read.specs.declared.faults.Member.TheVariants.{Top, Identities, Id, FileRights, FileName, Rights, Programs, ProgramFileName, Pipelines, PipelineText, FileHashes, FilePath, Hash, MaxMemory, Quotas, Bytes}
use Rattle.vr_policy_read.specs.declared.faults.ReadKind.{ReadKind}
use Rattle.vr_policy_read.specs.declared.faults.ReadKind.TheVariants.{Missing, WrongKind, TooMany}
use Rattle.vr_policy_read.specs.declared.faults.ReadFault.{ReadFault}

-- the member's name in the file; the whole file has none
abbrev pub member_name : Member → List ℕ
member_name Top = []
member_name Identities = codes "identities"
member_name Id = codes "id"
member_name FileRights = codes "file_rights"
member_name FileName = codes "file_name"
member_name Rights = codes "rights"
member_name Programs = codes "programs"
member_name ProgramFileName = codes "program_file_name"
member_name Pipelines = codes "pipelines"
member_name PipelineText = codes "pipeline"
member_name FileHashes = codes "file_hashes"
member_name FilePath = codes "file_path"
member_name Hash = codes "hash"
member_name MaxMemory = codes "max_memory_mib"
member_name Quotas = codes "quotas"
member_name Bytes = codes "bytes"

-- ---- presence

-- the value of a member of an object, where it has one
abbrev pub member_value : Member → Members → Option Data
member_value member object = get_member (member_name member) object

-- the value of a member that has to be there
abbrev pub required_value : Member → Members → Result Data ReadKind
required_value member object = or_fault (Missing member) (member_value member object)

-- what is read of the value of a member, or what its absence means
abbrev pub optional_value : {A E : Type 0} → A → (Data → Result A E) → Option Data → Result A E
optional_value absent read None = Ok absent
optional_value absent read (Some d) = read d

-- ---- kinds

-- the value of a member, where it is an object, a list or a text
abbrev pub object_in : Member → Data → Result Members ReadKind
object_in member d = or_fault (WrongKind member) (as_object d)

abbrev pub list_in : Member → Data → Result Items ReadKind
list_in member d = or_fault (WrongKind member) (as_array d)

abbrev pub text_in : Member → Data → Result (List ℕ) ReadKind
text_in member d = or_fault (WrongKind member) (as_str d)

-- the text of a member that has to be there
abbrev pub required_text : Member → Members → Result (List ℕ) ReadKind
required_text member object = required_value member object >>= text_in member

-- the whole number, where it is at most so much
abbrev pub whole_at_most : ℕ → Num → Option ℕ
whole_at_most most n =
    option_and_then (λ whole. if nat_le whole most then Some whole else None) (as_u64 n)

-- a whole number from 0 to the most
abbrev pub number_in : ℕ → Member → Data → Result ℕ ReadKind
number_in most member d =
    or_fault (WrongKind member) (option_and_then (whole_at_most most) (as_number d))

-- ---- lists

-- an entry of a list: an object that is read
abbrev pub entry_in : {A : Type 0} → Member → (Members → Result A ReadKind) → Data
    → Result A ReadKind
entry_in list read d = object_in list d >>= read

-- the entries of a list from the k-th on; the first fault has the index of its entry
abbrev pub entries_from : {A : Type 0} → ℕ → Member → (Members → Result A ReadKind) → Items
    → Result (List A) ReadFault
entries_from k list read no_items = Ok []
entries_from k list read (item d ds) = do
  x ← answer_at k (entry_in list read d)
  xs ← entries_from (suc k) list read ds
  Ok (x ∷ xs)

-- the entries of a list, unless there are too many
abbrev pub entries_of : {A : Type 0} → Member → (Members → Result A ReadKind) → Items
    → Result (List A) ReadFault
entries_of list read items =
    if nat_lt most_entries (items_len items) then Err (fault_at (TooMany list) 0)
    else entries_from 0 list read items

-- the entries of a list of objects
abbrev pub entries_in : {A : Type 0} → Member → (Members → Result A ReadKind) → Data
    → Result (List A) ReadFault
entries_in list read d = answer_at 0 (list_in list d) >>= entries_of list read
