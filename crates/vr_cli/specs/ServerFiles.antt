-- What was read of a server's two files, and why one of them was not.
use Rattle.std.specs.Prelude.{◌≡◌, ℕ, ◌≤◌, List, Ok, Err, IfErr}
use Rattle.vr_base.specs.Causes.{Rose}
use Rattle.vr_base.specs.Checks.{Told, exactly, Tells}
use Rattle.vr_base.specs.Outside.{FolderCounts}
use Rattle.vr_face.specs.Holders.{who}
use Rattle.vr_face.specs.Keys.{Holding, holder_of, most_keys}
use Rattle.vr_face.specs.declared.keys.Keys.{Keys}
use Rattle.vr_policy_check.specs.Rules.{CheckedData, identity_ids}
use Rattle.vr_policy_read.specs.Limits.{most_policy}
use Rattle.vr_cli.specs.Endings.{told}
use Rattle.vr_cli.specs.Outputs.{Tested, policy_from}
use Rattle.vr_cli.specs.Servings.{Basis, keys_in}
use Rattle.vr_cli.specs.declared.status.Status.{Status}
use Rattle.vr_cli.specs.declared.status.Status.TheVariants.{Absent, PolicyRefused, ReadFault, WantOfMemory, KeysRefused}

-- ---- what was read

-- what a status tells of the answer: a refused line is the answer too
abbrev pub told_of_basis : Status → Told Status
told_of_basis (KeysRefused line) = exactly (KeysRefused line)
told_of_basis status = told status

-- the keys are those that are held
abbrev pub AreKeys : List Holding → Keys → Type 0
AreKeys held keys = (key : List ℕ) → who keys key ≡ holder_of held key

-- The keys are what is held by a file, unless a read failed or memory ran out.
abbrev pub GivesHeld : Tested Keys → Tested (List Holding) → Type 0
GivesHeld (Ok keys) answer = (held : List Holding) × (answer ≡ Ok held) × AreKeys held keys
GivesHeld (Err status) answer = Tells (told_of_basis status) answer

-- Some bytes say this policy, and this is their hash.
abbrev pub IsSaid : CheckedData × List ℕ → Type 0
IsSaid said = (bytes : List ℕ) × (policy_from most_policy bytes ≡ Ok said)

-- Some bytes say who holds these keys, under a policy with these ids.
abbrev pub AreSaid : List ℕ → Keys → Type 0
AreSaid ids keys =
    (bytes : List ℕ) × ((held : List Holding) × (keys_in ids most_keys bytes ≡ Ok held)
    × AreKeys held keys)

-- Some bytes say the policy, with this hash, and other bytes who holds the keys under it.
abbrev pub AreBothSaid : CheckedData × List ℕ × Keys → Type 0
AreBothSaid read = IsSaid (read.0, read.1) × AreSaid (identity_ids read.0.policy) read.2

-- The policy, its hash and the keys are what a server rests on.
abbrev pub IsBasis : CheckedData × List ℕ × Keys → Basis → Type 0
IsBasis read basis =
    (basis.policy ≡ read.0) × (basis.hash ≡ read.1) × AreKeys basis.held read.2

-- What was read is what the server rests on, unless a read failed or memory ran out.
abbrev pub GivesBasis : Tested (CheckedData × List ℕ × Keys) → Tested Basis → Type 0
GivesBasis (Ok read) answer = (basis : Basis) × (answer ≡ Ok basis) × IsBasis read basis
GivesBasis (Err status) answer = Tells (told_of_basis status) answer

-- ---- why a file was not read

-- a status with which the reading of a policy ends
abbrev pub IsOfPolicy : Status → Type 0
IsOfPolicy (Absent word) = Unit {0}
IsOfPolicy (PolicyRefused stage rule index) = Unit {0}
IsOfPolicy ReadFault = Unit {0}
IsOfPolicy WantOfMemory = Unit {0}
IsOfPolicy status = ⊥

-- a status with which the reading of the bytes of a keys file ends
abbrev pub IsKeysRefusal : Status → Type 0
IsKeysRefusal (KeysRefused line) = Unit {0}
IsKeysRefusal WantOfMemory = Unit {0}
IsKeysRefusal status = ⊥

-- a status with which the reading of both files ends: an absent file and a failed read come only where their count rose
abbrev pub EndsReading : FolderCounts → FolderCounts → Status → Type 0
EndsReading old new (Absent word) = Rose old.absences new.absences
EndsReading old new ReadFault = Rose old.faults new.faults
EndsReading old new (KeysRefused line) = Unit {0}
EndsReading old new status = IsOfPolicy status

-- No count of the folder fell, and an absent file and a failed read were answered only where theirs rose.
pub record HasFileCause {A : Type 0} (old new : FolderCounts) (result : Tested A) : Type 0 where
  pub absences : old.absences ≤ new.absences
  pub faults : old.faults ≤ new.faults
  pub counted : IfErr result (EndsReading old new)
