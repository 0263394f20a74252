-- What is read of a server's two files.
use Rattle.std.proofs.Common.{ℕ, List, Option, None, Some, Ok, Err, refl}
use Rattle.std.specs.Prelude.{IfSome, IfErr, IfOk}
use Rattle.vr_base.specs.Checks.{Tells}
use Rattle.vr_face.specs.Keys.{Holding, most_keys}
use Rattle.vr_face.specs.declared.keys.Keys.{Keys}
use Rattle.vr_policy_check.specs.Rules.{CheckedData, identity_ids}
use Rattle.vr_policy_read.specs.Limits.{most_policy}
use Rattle.vr_words.specs.Options.{Placed}
use Rattle.vr_cli.specs.Endings.{Gives, GivesOver, told}
use Rattle.vr_cli.specs.FileWords.{BlamesOnly}
use Rattle.vr_cli.specs.Outputs.{NamedFiles, Tested, in_file, policy_from}
use Rattle.vr_cli.specs.ServerFiles.{AreSaid, GivesBasis, GivesHeld, IsKeysRefusal, IsSaid, told_of_basis}
use Rattle.vr_cli.specs.Servings.{basis_over, keys_in}
use Rattle.vr_cli.specs.declared.status.Status.{Status}
use Rattle.vr_cli.specs.declared.status.Status.TheVariants.{Absent, KeysRefused}

-- ---- the keys

-- what an error of the reading tells of the answer is the same of a server
told_wider : {A : Type 0} (status : Status) (answer : Tested A) → Tells (told status) answer → Tells (told_of_basis status) answer
told_wider (KeysRefused line) answer h = absurd h
told_wider status answer h = h

-- the keys file was not read
pub keys_unread : (files : Option NamedFiles) (ids : List ℕ) (word : Placed) (status : Status)
    → GivesOver {A = List Holding} files (Err status) (in_file (keys_in ids most_keys) word) → IfSome files (λ fs. GivesHeld (Err status) (in_file (keys_in ids most_keys) word fs))
keys_unread None ids word status h = tt
keys_unread (Some fs) ids word status h = told_wider status (in_file (keys_in ids most_keys) word fs) h

-- a refusal of what the file says blames no word
keys_blame_none : (status : Status) (word : Placed) → IsKeysRefusal status → BlamesOnly word status
keys_blame_none (Absent place) word h = absurd h
keys_blame_none status word h = tt

pub refused_keys_blame_none : {A : Type 0} (result : Tested A) (word : Placed) → IfErr result IsKeysRefusal → IfErr result (BlamesOnly word)
refused_keys_blame_none (Ok keys) word h = tt
refused_keys_blame_none (Err status) word h = keys_blame_none status word h

-- ---- both files

-- both were read
pub both_read : (files : Option NamedFiles) (policy keys : Placed) (said : CheckedData × List ℕ) (holders : Keys)
    → GivesOver files (Ok said) (in_file (policy_from most_policy) policy)
    → IfSome files (λ fs. GivesHeld (Ok holders) (in_file (keys_in (identity_ids said.0.policy) most_keys) keys fs))
    → IfSome files (λ fs. GivesBasis (Ok (said.0, said.1, holders)) (basis_over policy keys fs))
both_read None policy keys said holders h k = tt
both_read (Some fs) policy keys said holders h k =
    (record { policy = said.0; hash = said.1; held = k.0 }, rw (h, k.1) refl, (refl, refl, k.2))

-- ---- bytes that say what was read

pub policy_said : (result : Tested (CheckedData × List ℕ)) (bytes : List ℕ) → Gives result (policy_from most_policy bytes) → IfOk result IsSaid
policy_said (Ok said) bytes h = (bytes, h)
policy_said (Err status) bytes h = tt

pub keys_said : (ids : List ℕ) (result : Tested Keys) (bytes : List ℕ) → GivesHeld result (keys_in ids most_keys bytes) → IfOk result (AreSaid ids)
keys_said ids (Ok keys) bytes h = (bytes, (h.0, h.1, h.2))
keys_said ids (Err status) bytes h = tt
