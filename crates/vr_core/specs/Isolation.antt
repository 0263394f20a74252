-- What an identity can learn of the calls of others. Over identities and regions that are closed for it, its replies
-- depend on the files of those regions and on the calls of those identities alone.
use Rattle.std.specs.Prelude.{◌≡◌, ℕ, Bool, true, false, ◌==◌, List, [], ◌∷◌, filter, Option, Some, MatchOption, if◌then◌else◌}
use Rattle.std.specs.FinMap.{get}
use Rattle.vr_base.specs.declared.calls.Call.{Call}
use Rattle.vr_base.specs.declared.calls.Entry.{Entry}
use Rattle.vr_base.specs.declared.calls.Reply.{Reply}
use Rattle.vr_files.specs.FileMaps.{FileMap}
use Rattle.vr_flow.specs.Flows.{FlowTests, at_place, flows_of}
use Rattle.vr_flow.specs.Reach.{IsClosed}
use Rattle.vr_policy_check.specs.Checked.{identity_place}
use Rattle.vr_policy_check.specs.Rules.{CheckedData}
use Rattle.vr_rights.specs.Regions.{region_number}
use Rattle.vr_core.specs.History.{calls_of, replies_of}
use Rattle.vr_core.specs.Machine.{Effect, IsStep, Origin, Replay, Replays}
use Rattle.vr_core.specs.Quotas.{region_names}

-- ---- closed pairs

-- what a policy's identities and pipelines observe and modify of its regions, by their numbers
abbrev pub flows : CheckedData → FlowTests
flows policy = flows_of policy (region_names policy)

-- the number of a path's region
abbrev pub region_at : CheckedData → List ℕ → Option ℕ
region_at policy path = region_number (region_names policy) path

-- a test of identities by their ids, as one by their places
abbrev pub at_places : CheckedData → (ℕ → Bool) → ℕ → Bool
at_places policy ids place = at_place (λ identity. ids identity.id) policy.policy.identities place

-- Identities, by their ids, and regions, by their numbers, that are closed for a caller. For one that is no identity of
-- the policy there are no regions.
pub record IsClosedFor (policy : CheckedData) (caller : ℕ) (ids regions : ℕ → Bool) : Type 0 where
  pub itself : ids caller ≡ true
  pub closed : MatchOption (identity_place policy.policy caller)
      ((region : ℕ) → regions region ≡ false)
      (λ place. IsClosed (flows policy) place (at_places policy ids) regions)

-- Two maps have the same file, or none, at each path of the regions.
pub record AgreeIn (policy : CheckedData) (regions : ℕ → Bool) (files others : FileMap)
    : Type 0 where
  pub same : (path : List ℕ) (region : ℕ) → region_at policy path ≡ Some region
      → regions region ≡ true → get others path ≡ get files path

-- ---- one step

-- a call of an identity that is none of these changes no file of the regions
abbrev pub StaysOut : CheckedData → (ℕ → Bool) → (ℕ → Bool) → FileMap → ℕ → FileMap → Type 0
StaysOut policy ids regions files who after =
    ids who ≡ false → AgreeIn policy regions files after

-- Two steps of one call over files that agree in the regions: the caller is answered the same, and where the call is of
-- one of the identities, the files after it agree.
pub record AreAlike (policy : CheckedData) (caller : ℕ) (ids regions : ℕ → Bool) (who : ℕ)
    (next twin : Effect) : Type 0 where
  pub answered : who ≡ caller → twin.reply ≡ next.reply
  pub agree : ids who ≡ true → AgreeIn policy regions next.files twin.files

-- A step of a call is isolated: for each caller, and identities and regions that are closed for it, it stays out of the
-- regions where it is of none of the identities, and is alike over all files that agree.
pub record IsIsolated (origin : Origin) (files : FileMap) (who : ℕ) (call : Call) (next : Effect)
    : Type 0 where
  pub out : (caller : ℕ) (ids regions : ℕ → Bool) → IsClosedFor origin.policy caller ids regions
      → StaysOut origin.policy ids regions files who next.files
  pub alike : (caller : ℕ) (ids regions : ℕ → Bool) → IsClosedFor origin.policy caller ids regions
      → (others : FileMap) (twin : Effect) → AgreeIn origin.policy regions files others
      → IsStep origin others who call twin
      → AreAlike origin.policy caller ids regions who next twin

-- ---- a history

-- the calls of these identities, in order
abbrev pub purged : (ℕ → Bool) → List (ℕ × Call) → List (ℕ × Call)
purged ids calls = filter (λ asked. ids asked.0) calls

-- the replies to a caller
abbrev pub heard : ℕ → List (ℕ × Call) → List Reply → List Reply
heard caller [] replies = []
heard caller (asked ∷ calls) [] = []
heard caller (asked ∷ calls) (reply ∷ replies) =
    if asked.0 == caller then reply ∷ heard caller calls replies else heard caller calls replies

-- A history is isolated: for each caller, and identities and regions that are closed for it, the replies to it are those
-- that the calls of these identities alone come to, from each opening that agrees in these regions on.
abbrev pub IsIsolatedHistory : Origin → List Entry → Type 0
IsIsolatedHistory origin journal =
    (caller : ℕ) (ids regions : ℕ → Bool) → IsClosedFor origin.policy caller ids regions
    → (opening : FileMap) (replay : Replay) → AgreeIn origin.policy regions origin.opening opening
    → Replays origin opening (purged ids (calls_of journal)) replay
    → heard caller (purged ids (calls_of journal)) replay.replies
    ≡ heard caller (calls_of journal) (replies_of journal)
