-- What is known of a folder's files where it tells them, and readings that are the same of a file's first bytes.
use Rattle.std.proofs.Common.{◌≡◌, ℕ, ◌+◌, ◌<◌, List, take, length, Option, None, Some, option_map, Ok, Err, ◌⊎◌, inl, inr, refl, sym, ap, ◌∙◌, subst, arith}
use Rattle.std.proofs.lemmas.Bool.{cases_lt, lt-ltb}
use Rattle.std.proofs.lemmas.List.{take_all, length-take-le}
use Rattle.std.specs.Prelude.{IfSome, IfErr}
use Rattle.vr_base.specs.Checks.{◌>>=◌, result_map, or_fault, Told, nothing, exactly, never, Tells}
use Rattle.vr_base.specs.Outside.{FolderCounts, Holds, IsNotThere, file_of}
use Rattle.vr_cli.specs.Outputs.{Tested, NamedFiles, bytes_named, in_file, policy_from, checked_from, script_in, digits_from}
use Rattle.vr_words.specs.Options.{Placed}
use Rattle.vr_cli.specs.Servings.{keys_in}
use Rattle.vr_cli.specs.Endings.{told, Gives, GivesOver, HasCount, IsRefusal}
use Rattle.vr_cli.specs.FileWords.{BlamesOnly, IfAbsent, IsPlaceOf}
use Rattle.vr_cli.specs.declared.status.Status.{Status}
use Rattle.vr_cli.specs.declared.status.Status.TheVariants.{PolicyRefused, ScriptRefused, KeysRefused, WantOfMemory, Absent}

-- ---- facts of files that are told

-- a fact follows from another, where the files are told
pub told_more : (files : Option NamedFiles) (P R : NamedFiles → Type 0) → ((fs : NamedFiles) → P fs → R fs) → IfSome files P → IfSome files R
told_more None P R f p = tt
told_more (Some fs) P R f p = f fs p

first_bytes : (place most : ℕ) (file : Option (List ℕ)) (bytes : List ℕ) → option_map (take most) file ≡ Some bytes
    → result_map (take most) (or_fault (Absent place) file) ≡ Ok bytes
first_bytes place most None bytes h = cc
first_bytes place most (Some whole) bytes h = cc

pub told_bytes : (files : Option NamedFiles) (word : Placed) (bytes : List ℕ) (most : ℕ) → Holds files word.text most bytes
    → GivesOver files (Ok bytes) (λ fs. result_map (take most) (bytes_named word fs))
told_bytes None word bytes most h = tt
told_bytes (Some fs) word bytes most h = first_bytes word.place most (file_of word.text fs) bytes h

pub told_absent : (files : Option NamedFiles) (word : Placed) (most : ℕ) → IsNotThere files word.text
    → GivesOver files (Err (Absent word.place)) (λ fs. result_map (take most) (bytes_named word fs))
told_absent None word most h = tt
told_absent (Some fs) word most h = ap (λ file. result_map (take most) (or_fault (Absent word.place) file)) h

pub told_freely : (files : Option NamedFiles) → IfSome files (λ _. Unit {0})
told_freely None = tt
told_freely (Some fs) = tt

-- ---- causes

-- a refusal needs no cause outside
counted_refusal : (status : Status) (old new : FolderCounts) → IsRefusal status → HasCount old new status
counted_refusal (PolicyRefused stage rule index) old new h = tt
counted_refusal (ScriptRefused line) old new h = tt
counted_refusal WantOfMemory old new h = tt
counted_refusal status old new h = absurd h

pub refusal_is_counted : {A : Type 0} (result : Tested A) (old new : FolderCounts) → IfErr result IsRefusal → IfErr result (HasCount old new)
refusal_is_counted (Ok x) old new h = tt
refusal_is_counted (Err status) old new h = counted_refusal status old new h

-- ---- the word whose file isn't there

-- a refusal of what was read blames no word
blames_none : (status : Status) (word : Placed) → IsRefusal status → BlamesOnly word status
blames_none (Absent place) word h = absurd h
blames_none status word h = tt

pub refusal_blames_none : {A : Type 0} (result : Tested A) (word : Placed) → IfErr result IsRefusal → IfErr result (BlamesOnly word)
refusal_blames_none (Ok x) word h = tt
refusal_blames_none (Err status) word h = blames_none status word h

-- a claim about its place follows from another
pub absent_more : (status : Status) (P R : ℕ → Type 0) → ((place : ℕ) → P place → R place) → IfAbsent status P → IfAbsent status R
absent_more (Absent word) P R f h = f word h
absent_more status P R f h = tt

-- the one word that is blamed is of a kind
pub blames_named : (status : Status) (word : Placed) (IsNamed : Placed → Type 0) → IsNamed word → BlamesOnly word status → IfAbsent status (IsPlaceOf IsNamed)
blames_named (Absent place) word IsNamed named same = (word, named, sym same)
blames_named status word IsNamed named same = tt

-- ---- readings of a file's first bytes, one more than their limit

-- the first bytes are all, or both are too many
whole_or_long : (most : ℕ) (bytes : List ℕ) → (take (most + 1) bytes ≡ bytes) ⊎ ((most < length bytes) × (most < length (take (most + 1) bytes)))
whole_or_long most bytes = elim (cases_lt most (length bytes)) [
  | inl long ↦ inr (long, rw (length-take-le (most + 1) bytes (omega arith)) (omega arith))
  | inr short ↦ inl (take_all (most + 1) bytes (omega arith))
]

-- A reading of at most so many bytes, which refuses each longer list in the same way.
abbrev pub RefusesLonger : {A : Type 0} → (ℕ → List ℕ → Tested A) → ℕ → Tested A → Type 0
RefusesLonger reading most refusal = (bytes : List ℕ) → most < length bytes → reading most bytes ≡ refusal

same_of_prefix : {A : Type 0} (reading : ℕ → List ℕ → Tested A) (most : ℕ) (refusal : Tested A) → RefusesLonger reading most refusal
    → (bytes : List ℕ) → reading most (take (most + 1) bytes) ≡ reading most bytes
same_of_prefix reading most refusal longer bytes = elim (whole_or_long most bytes) [
  | inl same ↦ ap (reading most) same
  | inr both ↦ longer (take (most + 1) bytes) both.1 ∙ sym (longer bytes both.0)
]

pub long_policy : (most : ℕ) → RefusesLonger policy_from most (Err (PolicyRefused 1 1 0))
long_policy most bytes h = rw (lt-ltb most (length bytes) h) refl

pub long_checked : (most : ℕ) → RefusesLonger checked_from most (Err (PolicyRefused 1 1 0))
long_checked most bytes h = rw (lt-ltb most (length bytes) h) refl

pub long_script : (most : ℕ) → RefusesLonger script_in most (Err (ScriptRefused 0))
long_script most bytes h = rw (lt-ltb most (length bytes) h) refl

pub long_keys : (ids : List ℕ) (most : ℕ) → RefusesLonger (keys_in ids) most (Err (KeysRefused 0))
long_keys ids most bytes h = rw (lt-ltb most (length bytes) h) refl

pub long_hash : (most : ℕ) → RefusesLonger digits_from most (Err (PolicyRefused 1 1 0))
long_hash most bytes h = rw (lt-ltb most (length bytes) h) refl

tells_on : {A B C : Type 0} (t : Told Status) (a : Tested A) (f : A → B) (g : A → Tested C) → Tells t (result_map f a) → Tells t (a >>= g)
tells_on nothing a f g h = tt
tells_on (exactly status) (Ok x) f g h = cc
tells_on (exactly status) (Err other) f g h = cc
tells_on never a f g h = h

module _ {A : Type 0} (reading : ℕ → List ℕ → Tested A) (most : ℕ) (refusal : Tested A) (longer : RefusesLonger reading most refusal) where
  file_reading : (place : ℕ) (file : Option (List ℕ)) (bytes : List ℕ) → result_map (take (most + 1)) (or_fault (Absent place) file) ≡ Ok bytes
      → or_fault (Absent place) file >>= reading most ≡ reading most bytes
  file_reading place None bytes h = cc
  file_reading place (Some whole) bytes h =
      let same : take (most + 1) whole ≡ bytes = cc in
      sym (same_of_prefix reading most refusal longer whole) ∙ ap (reading most) same

  -- a claim about what was read of the first bytes is one about what the file says
  pub claim_reading : (Claim : Tested A → Type 0) (files : Option NamedFiles) (word : Placed) (bytes : List ℕ) → GivesOver files (Ok bytes) (λ fs. result_map (take (most + 1)) (bytes_named word fs))
      → Claim (reading most bytes) → IfSome files (λ fs. Claim (in_file (reading most) word fs))
  claim_reading Claim None word bytes h k = tt
  claim_reading Claim (Some fs) word bytes h k = subst Claim (sym (file_reading word.place (file_of word.text fs) bytes h)) k

  -- what was read of the first bytes is what the file says
  pub told_reading : (files : Option NamedFiles) (word : Placed) (bytes : List ℕ) (result : Tested A) → GivesOver files (Ok bytes) (λ fs. result_map (take (most + 1)) (bytes_named word fs))
      → Gives result (reading most bytes) → GivesOver files result (in_file (reading most) word)
  told_reading files word bytes result h k = claim_reading (Gives result) files word bytes h k

  -- what refused the first bytes refuses the file
  pub told_refusal : (files : Option NamedFiles) (word : Placed) (status : Status) → GivesOver {A = List ℕ} files (Err status) (λ fs. result_map (take (most + 1)) (bytes_named word fs))
      → GivesOver {A = A} files (Err status) (in_file (reading most) word)
  told_refusal None word status h = tt
  told_refusal (Some fs) word status h = tells_on (told status) (bytes_named word fs) (take (most + 1)) (reading most) h
