-- The checks of a run let it be made exactly where it starts.
use Rattle.std.proofs.Common.{◌≡◌, ℕ, Bool, true, false, not, ◌&&◌, cond, List, [], ◌∷◌, Option, None, Some, Ok, Err, All, refl, sym, ap, ◌∙◌, subst}
use Rattle.std.specs.Prelude.{IsOk, IsSome, IsTrue, bytes_eq, find, is_none, option_map, if◌then◌else◌}
use Rattle.std.specs.Cmp.Lexicographic.{bytes_decides}
use Rattle.std.specs.FinMap.{get}
use Rattle.std.specs.List.{list_all}
use Rattle.std.specs.Option.{option_or}
use Rattle.std.proofs.lemmas.List.Elements.{All-head, All-tail}
use Rattle.vr_base.specs.Checks.{◌>>=◌, ◌>>◌, fault_if, result_map_err, unless_fault}
use Rattle.vr_base.specs.declared.calls.Call.{Call}
use Rattle.vr_base.specs.declared.calls.Call.TheVariants as calls
use Rattle.vr_digests.specs.Digests.{digits_of}
use Rattle.vr_exec.specs.Starts.{HasPinnedHash, HaveFiles, MayStart, bytes_fault, first_pin_fault, observes_path, pin_fault}
use Rattle.vr_exec.specs.declared.starts.NotReady.{NotReady}
use Rattle.vr_exec.specs.declared.starts.NotReady.TheVariants.{NoSuchFile, PinMismatch}
use Rattle.vr_files.specs.FileMaps.{FileMap}
use Rattle.vr_pipe.specs.Trees.{PipeTree, programs_of}
use Rattle.vr_policy_check.specs.Rules.{CheckedData}
use Rattle.vr_policy_read.specs.declared.entries.Identity.{Identity}
use Rattle.vr_policy_read.specs.declared.entries.Pin.{Pin}
use Rattle.vr_rights.specs.Words.{may_execute}
use Rattle.vr_core.specs.Machine.{Checked, Listed, execute_check, identity_of, pipeline_of, run_place, start_check, start_refusal}
use Rattle.vr_core.specs.Starts.{RunsWhereItStarts, Starts, StartsRightly}
use Rattle.vr_core.proofs.ExecuteLemmas.{may_all, may_pass}
use Rattle.vr_core.proofs.StartLemmas.{check_passes}

-- ---- from what holds to the checks

passes_all : (identity : Identity) (paths : List (List ℕ)) → list_all (may_execute identity.grants) paths ≡ true → execute_check identity paths ≡ Ok tt
passes_all identity [] h = refl
passes_all identity (path ∷ paths) h = by_bit (may_execute identity.grants path) refl h (passes_all identity paths)
  where
    by_bit : (b : Bool) → may_execute identity.grants path ≡ b → (b && list_all (may_execute identity.grants) paths) ≡ true
        → (list_all (may_execute identity.grants) paths ≡ true → execute_check identity paths ≡ Ok tt) → execute_check identity (path ∷ paths) ≡ Ok tt
    by_bit true e k rest = ap (λ (first : Checked (Unit {0})). first >> execute_check identity paths) (may_pass identity path e) ∙ rest k
    by_bit false e k rest = cc

none_missing : (files : FileMap) (paths : List (List ℕ)) → HaveFiles files paths → find (λ path. is_none (get files path)) paths ≡ None
none_missing files [] h = refl
none_missing files (path ∷ paths) h =
    by_file (get files path) (All-head (λ p. IsSome (get files p)) path paths h) (none_missing files paths (All-tail (λ p. IsSome (get files p)) path paths h))
  where
    by_file : (found : Option (List ℕ)) → IsSome found → find (λ p. is_none (get files p)) paths ≡ None → cond (is_none found) (Some path) (find (λ p. is_none (get files p)) paths) ≡ None
    by_file None k rest = cc
    by_file (Some body) k rest = rest

module _ (policy : CheckedData) (pipe : PipeTree) (files : FileMap) where
  abbrev Pinned : Pin → Type 0
  Pinned pin = IsTrue (observes_path policy pipe pin.path) → HasPinnedHash files pin

  right_hash : (pin : Pin) → HasPinnedHash files pin → bytes_fault pin (get files pin.path) ≡ None
  right_hash pin h =
      let same : bytes_eq (digits_of h.0) pin.hash ≡ true = (bytes_decides (digits_of h.0) pin.hash).1 h.2 in
      ap (bytes_fault pin) h.1 ∙ ap (λ b. fault_if (not b) (PinMismatch pin.path (digits_of h.0))) same

  right_pin : (pin : Pin) → Pinned pin → pin_fault policy pipe files pin ≡ None
  right_pin pin h = by_test (observes_path policy pipe pin.path) h
    where
      by_test : (b : Bool) → (IsTrue b → HasPinnedHash files pin) → (if b then bytes_fault pin (get files pin.path) else None) ≡ None
      by_test true k = right_hash pin (k refl)
      by_test false k = refl

  right_pins : (pins : List Pin) → All Pinned pins → first_pin_fault policy pipe files pins ≡ None
  right_pins [] h = refl
  right_pins (pin ∷ pins) h =
      ap (λ o. option_or o (first_pin_fault policy pipe files pins)) (right_pin pin (All-head Pinned pin pins h)) ∙ right_pins pins (All-tail Pinned pin pins h)

  passes_start : MayStart policy pipe files → start_check policy pipe files ≡ Ok tt
  passes_start may =
      ap (λ (o : Option (List ℕ)). result_map_err start_refusal (unless_fault (option_map NoSuchFile o) (tt {0}) >> unless_fault (first_pin_fault policy pipe files policy.policy.pins) (tt {0})))
      (none_missing files (programs_of pipe) may.programs)
      ∙ ap (λ (o : Option NotReady). result_map_err start_refusal (unless_fault o (tt {0}))) (right_pins policy.policy.pins may.pins)

-- ---- both ways

module _ (policy : CheckedData) (files : FileMap) (who id : ℕ) where
  abbrev after_rights : Identity → Listed → Checked ℕ
  after_rights identity listed = execute_check identity (programs_of listed.pipe) >> (start_check policy listed.pipe files >> Ok listed.place)

  starts_here : (identity : Identity) → identity_of policy who ≡ Ok identity → (listed : Listed) → pipeline_of policy id ≡ Ok listed → IsOk (after_rights identity listed) → Starts policy files who id
  starts_here identity called listed found h = by_checks (execute_check identity (programs_of listed.pipe)) (start_check policy listed.pipe files) refl refl h
    where
      by_checks : (a b : Checked (Unit {0})) → execute_check identity (programs_of listed.pipe) ≡ a → start_check policy listed.pipe files ≡ b → IsOk (a >> (b >> Ok listed.place)) → Starts policy files who id
      by_checks (Ok done) (Ok done') e f k = record {
        identity = identity;
        is_caller = called;
        listed = listed;
        is_listed = found;
        executes = may_all identity (programs_of listed.pipe) e;
        ready = check_passes policy listed.pipe files f;
      }
      by_checks (Ok done) (Err refusal) e f k = cc
      by_checks (Err refusal) b e f k = cc

  starts : IsOk (run_place policy files who id) → Starts policy files who id
  starts h = by_identity (identity_of policy who) refl h
    where
      by_listed : (identity : Identity) → identity_of policy who ≡ Ok identity → (found : Checked Listed) → pipeline_of policy id ≡ found → IsOk (found >>= after_rights identity) → Starts policy files who id
      by_listed identity called (Ok listed) e k = starts_here identity called listed e k
      by_listed identity called (Err refusal) e k = cc

      by_identity : (called : Checked Identity) → identity_of policy who ≡ called → IsOk (called >>= (λ identity. pipeline_of policy id >>= after_rights identity)) → Starts policy files who id
      by_identity (Ok identity) e k = by_listed identity e (pipeline_of policy id) refl k
      by_identity (Err refusal) e k = cc

  passes : Starts policy files who id → IsOk (run_place policy files who id)
  passes s =
      let place : run_place policy files who id ≡ Ok s.listed.place =
      ap (λ (called : Checked Identity). called >>= (λ identity. pipeline_of policy id >>= after_rights identity)) s.is_caller
      ∙ ap (λ (found : Checked Listed). found >>= after_rights s.identity) s.is_listed
      ∙ ap (λ (first : Checked (Unit {0})). first >> (start_check policy s.listed.pipe files >> Ok s.listed.place)) (passes_all s.identity (programs_of s.listed.pipe) s.executes)
      ∙ ap (λ (first : Checked (Unit {0})). first >> Ok s.listed.place) (passes_start policy s.listed.pipe files s.ready) in
      subst (λ (r : Checked ℕ). IsOk r) (sym place) refl

  -- a run is made exactly where it starts
  pub runs_where_it_starts : RunsWhereItStarts policy files who id
  runs_where_it_starts = (starts, passes)

pub starts_rightly : (policy : CheckedData) (files : FileMap) (who : ℕ) (call : Call) → StartsRightly policy files who call
starts_rightly policy files who (calls.Run id) = runs_where_it_starts policy files who id
starts_rightly policy files who (calls.Read name) = tt
starts_rightly policy files who (calls.Write name body) = tt
starts_rightly policy files who (calls.Append name piece) = tt
starts_rightly policy files who calls.Hash = tt
