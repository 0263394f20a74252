-- What each reply keeps true holds all along a run: the run is in step with itself, by the relation
-- of equal worlds in which it is true.
use Rattle.std.proofs.Common.{◌≡◌, refl, subst}
use Rattle.vr_wasm_steps.specs.Hosts.{Reply, gives_value, gives_nothing, exits}
use Rattle.vr_wasm_in_step.specs.InStep.{SameReply, Replies, RepliesAgree, over_host, Mirrors}
use Rattle.vr_wasm_in_step.specs.Kept.{world_after, RepliesKeep, StayKept}
use Rattle.vr_wasm_in_step.proofs.InStepLemmas.{mirrors}

abbrev Both : {W : Type 0} → (W → Type 0) → W → W → Type 0
Both I v w = (v ≡ w) × I v

same_reply : {W : Type 0} (I : W → Type 0) (a : Reply W) → I (world_after a) → SameReply (Both I) a a
same_reply I (gives_value x m w) i = (refl, refl, (refl, i))
same_reply I (gives_nothing m w) i = (refl, (refl, i))
same_reply I (exits c m w) i = (refl, refl, (refl, i))

agrees : {W : Type 0} (I : W → Type 0) (reply : Replies W) → RepliesKeep I reply → RepliesAgree (Both I) reply reply
agrees I reply keep v w b which args memory =
    subst (λ z. SameReply (Both I) (reply v which args memory) (reply z which args memory)) b.0
    (same_reply I (reply v which args memory) (keep v b.1 which args memory))

-- the law
pub stays_kept : {W : Type 0} (I : W → Type 0) (reply : Replies W) → RepliesKeep I reply → StayKept I reply
stays_kept {W} I reply keep types functions k i =
    let m : Mirrors (Both I) (over_host types functions reply) (over_host types functions reply) k k =
    mirrors (Both I) types functions reply reply (agrees I reply keep) k k (record { store = refl; term = refl; calls = refl; worlds = (refl, i) }) in
    record {
      reached = λ r n last t. (m.rows r n last t).2.worlds.1;
      ended = λ n code w e. (m.ends n code w e).2.1;
    }
