-- Where `ready` finds no fault, the run may start.
use Rattle.std.proofs.Common.{◌≡◌, ℕ, ◌+◌, ◌<◌, Bool, true, false, not, cond, List, [], ◌∷◌, ◌++◌, length, take, drop, get_or, Option, None, Some, Result, Ok, Err, All, refl, sym, ap, ◌∙◌, subst}
use Rattle.std.specs.Prelude.{bytes_eq, find, is_none, is_some, option_map, IsSome, IsTrue, if◌then◌else◌}
use Rattle.std.specs.Cmp.Lexicographic.{bytes_decides}
use Rattle.std.specs.FinMap.{get}
use Rattle.std.specs.Option.{option_or}
use Rattle.std.proofs.lemmas.List.{take-append-drop, take_more}
use Rattle.std.proofs.lemmas.List.Elements.{All-nil, All-cons}
use Rattle.vr_base.specs.Checks.{◌>>◌, unless_fault, fault_if}
use Rattle.vr_base.proofs.FaultLemmas.{answered, neither}
use Rattle.vr_files.specs.FileMaps.{FileMap}
use Rattle.vr_pipe.specs.declared.trees.Tree.{Tree}
use Rattle.vr_pipe.specs.Trees.{PipeTree, pipe_tree, programs_of}
use Rattle.vr_policy_check.specs.Rules.{CheckedData}
use Rattle.vr_policy_read.specs.declared.entries.Pin.{Pin}
use Rattle.vr_exec.specs.declared.starts.NotReady.{NotReady}
use Rattle.vr_exec.specs.declared.starts.NotReady.TheVariants.{NoSuchFile, PinMissing, PinMismatch, OutOfMemory}
use Rattle.vr_digests.specs.Digests.{digits_of}
use Rattle.vr_exec.specs.Starts.{Gives, missing_file, HaveFiles, observes_path, bytes_fault, pin_fault, first_pin_fault, HasPinnedHash, ready_answer, MayStart}

none_missing : (files : FileMap) (paths : List (List ℕ)) → missing_file paths files ≡ None → HaveFiles files paths
none_missing files [] h = All-nil (λ path. IsSome (get files path))
none_missing files (path ∷ paths) h = by_file (get files path) refl h (none_missing files paths)
  where
    by_file : (found : Option (List ℕ)) → get files path ≡ found
        → option_map NoSuchFile (cond (is_none found) (Some path) (find (λ p. is_none (get files p)) paths)) ≡ None
        → (missing_file paths files ≡ None → HaveFiles files paths) → HaveFiles files (path ∷ paths)
    by_file None e k rest = cc
    by_file (Some body) e k rest = All-cons (λ p. IsSome (get files p)) path paths (ap is_some e) (rest k)

module _ (checked : CheckedData) (pipe : PipeTree) (files : FileMap) where
  abbrev Pinned : Pin → Type 0
  Pinned pin = IsTrue (observes_path checked pipe pin.path) → HasPinnedHash files pin

  hash_found : (pin : Pin) (found : Option (List ℕ)) → get files pin.path ≡ found → bytes_fault pin found ≡ None → HasPinnedHash files pin
  hash_found pin None e h = cc
  hash_found pin (Some bytes) e h = by_test (bytes_eq (digits_of bytes) pin.hash) refl h
    where
      by_test : (b : Bool) → bytes_eq (digits_of bytes) pin.hash ≡ b → fault_if (not b) (PinMismatch pin.path (digits_of bytes)) ≡ None → HasPinnedHash files pin
      by_test true t k = (bytes, e, (bytes_decides (digits_of bytes) pin.hash).0 t)
      by_test false t k = cc

  pin_right : (pin : Pin) → pin_fault checked pipe files pin ≡ None → Pinned pin
  pin_right pin h observed = hash_found pin (get files pin.path) refl (subst (λ b. (if b then bytes_fault pin (get files pin.path) else None) ≡ None) observed h)

  pins_right : (pins : List Pin) → first_pin_fault checked pipe files pins ≡ None → All Pinned pins
  pins_right [] h = All-nil Pinned
  pins_right (pin ∷ pins) h =
      let parts = neither (pin_fault checked pipe files pin) (first_pin_fault checked pipe files pins) h in
      All-cons Pinned pin pins (pin_right pin parts.0) (pins_right pins parts.1)

  -- neither check finds a fault
  pub may_start : unless_fault (missing_file (programs_of pipe) files) (tt {0}) ≡ Ok (tt {0}) → first_pin_fault checked pipe files checked.policy.pins ≡ None → MayStart checked pipe files
  may_start there h =
      let none = answered (missing_file (programs_of pipe) files) (tt {0}) (tt {0}) there in
      record { programs = none_missing files (programs_of pipe) none.0; pins = pins_right checked.policy.pins h }

-- ---- a step of the loop over the pins

pub one_more_pin : (checked : CheckedData) (pipe : PipeTree) (files : FileMap) (pins : List Pin) (pin : Pin) → first_pin_fault checked pipe files pins ≡ None
    → first_pin_fault checked pipe files (pins ++ pin ∷ []) ≡ pin_fault checked pipe files pin
one_more_pin checked pipe files [] pin h = last_or (pin_fault checked pipe files pin)
  where
    last_or : (o : Option NotReady) → option_or o None ≡ o
    last_or None = refl
    last_or (Some fault) = refl
one_more_pin checked pipe files (first ∷ pins) pin h =
    let parts = neither (pin_fault checked pipe files first) (first_pin_fault checked pipe files pins) h in
    ap (λ o. option_or o (first_pin_fault checked pipe files (pins ++ pin ∷ []))) parts.0 ∙ one_more_pin checked pipe files pins pin parts.1

-- the first fault stays the first, whatever pins come after it
pub fault_stays : (checked : CheckedData) (pipe : PipeTree) (files : FileMap) (pins after : List Pin) (fault : NotReady) → first_pin_fault checked pipe files pins ≡ Some fault
    → first_pin_fault checked pipe files (pins ++ after) ≡ Some fault
fault_stays checked pipe files [] after fault h = cc
fault_stays checked pipe files (pin ∷ pins) after fault h = by_fault (pin_fault checked pipe files pin) h (fault_stays checked pipe files pins after fault)
  where
    by_fault : (o : Option NotReady) → option_or o (first_pin_fault checked pipe files pins) ≡ Some fault → (first_pin_fault checked pipe files pins ≡ Some fault → first_pin_fault checked pipe files (pins ++ after) ≡ Some fault)
        → option_or o (first_pin_fault checked pipe files (pins ++ after)) ≡ Some fault
    by_fault None k rest = rest k
    by_fault (Some f) k rest = k

-- a check that passes, and a fault of the one after it
second_fault : (first rest : Option NotReady) (fault : NotReady) → unless_fault first (tt {0}) ≡ Ok (tt {0}) → rest ≡ Some fault → (unless_fault first (tt {0}) >> unless_fault rest (tt {0})) ≡ Err fault
second_fault None rest fault there h = ap (λ o. unless_fault o (tt {0})) h
second_fault (Some other) rest fault there h = cc

-- what is told of one check is told of an answer that has its fault
told_on : (fault : Option NotReady) (answer : Result (Unit {0}) NotReady) (e : NotReady) → Gives (Err e) (unless_fault fault (tt {0})) → (fault ≡ Some e → answer ≡ Err e) → Gives (Err e) answer
told_on fault answer OutOfMemory h on = tt
told_on None answer (NoSuchFile path) h on = cc
told_on None answer (PinMissing path) h on = cc
told_on None answer (PinMismatch path found) h on = cc
told_on (Some fault) answer (NoSuchFile path) h on = let same : ◌≡◌ {A = Option NotReady} (Some fault) (Some (NoSuchFile path)) = cc in on same
told_on (Some fault) answer (PinMissing path) h on = let same : ◌≡◌ {A = Option NotReady} (Some fault) (Some (PinMissing path)) = cc in on same
told_on (Some fault) answer (PinMismatch path found) h on = let same : ◌≡◌ {A = Option NotReady} (Some fault) (Some (PinMismatch path found)) = cc in on same

module _ (checked : CheckedData) (pipe : PipeTree) (files : FileMap) (k : ℕ) (pin : Pin) (within : k < length checked.policy.pins) (is : pin ≡ get_or checked.policy.pins k pin) (so_far : first_pin_fault checked pipe files (take k checked.policy.pins) ≡ None) where
  one_on : first_pin_fault checked pipe files (take (k + 1) checked.policy.pins) ≡ pin_fault checked pipe files pin
  one_on =
      let more : take (k + 1) checked.policy.pins ≡ take k checked.policy.pins ++ pin ∷ [] = take_more checked.policy.pins k pin within ∙ ap (λ p. take k checked.policy.pins ++ p ∷ []) (sym is) in
      ap (first_pin_fault checked pipe files) more ∙ one_more_pin checked pipe files (take k checked.policy.pins) pin so_far

  -- a pin without a fault
  pub pin_passed : unless_fault (pin_fault checked pipe files pin) (tt {0}) ≡ Ok (tt {0}) → first_pin_fault checked pipe files (take (k + 1) checked.policy.pins) ≡ None
  pin_passed h = one_on ∙ (answered (pin_fault checked pipe files pin) (tt {0}) (tt {0}) h).0

  -- what is told of the first pin with a fault is told of the whole answer
  pub pin_told : unless_fault (missing_file (programs_of pipe) files) (tt {0}) ≡ Ok (tt {0}) → (e : NotReady) → Gives (Err e) (unless_fault (pin_fault checked pipe files pin) (tt {0})) → Gives (Err e) (ready_answer checked pipe files)
  pin_told there e h = told_on (pin_fault checked pipe files pin) (ready_answer checked pipe files) e h (λ fault.
      let stays = fault_stays checked pipe files (take (k + 1) checked.policy.pins) (drop (k + 1) checked.policy.pins) e (one_on ∙ fault) in
      let whole = take-append-drop (k + 1) checked.policy.pins in
      second_fault (missing_file (programs_of pipe) files) (first_pin_fault checked pipe files checked.policy.pins) e there (subst (λ pins. first_pin_fault checked pipe files pins ≡ Some e) whole stays))

-- ---- the pipeline at a place

-- the files of the programs are there, for the tree that stands at the place
pub programs_there : (files : FileMap) (paths : List (List ℕ)) (at : Option Tree) (spelled tree : Tree) → paths ≡ programs_of (pipe_tree spelled) → at ≡ Some spelled → at ≡ Some tree
    → unless_fault (missing_file paths files) (tt {0}) ≡ Ok (tt {0}) → unless_fault (missing_file (programs_of (pipe_tree tree)) files) (tt {0}) ≡ Ok (tt {0})
programs_there files paths at spelled tree of stands found there =
    let both : ◌≡◌ {A = Option Tree} (Some spelled) (Some tree) = sym stands ∙ found in
    let same : spelled ≡ tree = cc in
    subst (λ ps. unless_fault (missing_file ps files) (tt {0}) ≡ Ok (tt {0})) (of ∙ ap (λ (t : Tree). programs_of (pipe_tree t)) same) there
