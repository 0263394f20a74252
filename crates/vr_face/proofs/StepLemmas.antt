-- What a session comes to by its last step.
use Rattle.std.proofs.Common.{ℕ, List, [], Option, Some, None, sym, arith, append-nil, inl}
use Rattle.std.specs.Io.KnownBytes.{Appends}
use Rattle.std.specs.Option.{IfSome}
use Rattle.vr_base.specs.declared.calls.Entry.{Entry}
use Rattle.vr_face.specs.Sessions.{AreAnswered, ServesFrom, TakesUntil, moment}
use Rattle.vr_face.specs.declared.keys.Keys.{Keys}
use Rattle.vr_face.specs.declared.sessions.SessionEnd.TheVariants as ends
use Rattle.vr_face.proofs.SessionLemmas.{sees_nothing}

pub appends_nothing : (known : Option (List ℕ)) → Appends known known []
appends_nothing None = tt
appends_nothing (Some bytes) = sym (append-nil bytes)

none_answered : (keys : Keys) → AreAnswered keys []
none_answered keys = λ k d below. absurd (omega arith)

begins_nowhere : (stream : Option (List ℕ)) (taken : ℕ) → IfSome stream (λ bytes. TakesUntil taken bytes [] None ends.WantOfMemory)
begins_nowhere None taken = tt
begins_nowhere (Some bytes) taken = tt

-- memory ran out before anything was taken
pub wants_memory : (keys : Keys) (seat taken : ℕ) (stream left written : Option (List ℕ)) (seen : List Entry) (faults : ℕ)
    → ServesFrom keys seat taken (moment stream written seen faults) (moment left written seen faults) ends.WantOfMemory
wants_memory keys seat taken stream left written seen faults = record {
  exchanges = [];
  refused = None;
  answered = none_answered keys;
  takes = begins_nowhere stream taken;
  writes = inl (appends_nothing written);
  sees = inl (sees_nothing seat seen);
  failures = λ few. omega arith;
  later = omega arith;
}
