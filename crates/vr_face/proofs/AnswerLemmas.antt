-- Which answers say that the keeper of the files failed: none that is given without the desk, and
-- a reply only where the keeper's count of faults rose.
use Rattle.std.proofs.Common.{◌≡◌, ℕ, ◌≤◌, Bool, true, false, cond, List, codes, Option, Some, None, Result, Ok, Err, refl, subst, arith}
use Rattle.std.specs.Prelude.{bytes_eq}
use Rattle.vr_base.specs.Checks.{◌>>=◌, ◌>>◌, or_fault, result_map_err}
use Rattle.vr_base.specs.Desks.{IsLicensed}
use Rattle.vr_base.specs.Names.{path_of}
use Rattle.vr_base.specs.declared.names.PathFault.{PathFault}
use Rattle.vr_base.specs.declared.calls.Reply.{Reply}
use Rattle.vr_base.specs.declared.calls.Reply.TheVariants.{BadPath, Unavailable, Unkeyed}
use Rattle.vr_http.specs.declared.requests.Request.{Request}
use Rattle.vr_face.specs.Asks.{ask_of, asker, call_of, call_on, file_call, named_path, pipeline_id}
use Rattle.vr_face.specs.Resources.{Resource, FileNamed, PipelineNamed, HashOfPolicy, resource_of}
use Rattle.vr_face.specs.Sessions.{RisesBy, failure_count}
use Rattle.vr_face.specs.declared.answers.Answer.{Answer}
use Rattle.vr_face.specs.declared.answers.Answer.TheVariants.{Replied, NoRoute}
use Rattle.vr_face.specs.declared.keys.Keys.{Keys}

-- an answer that is given doesn't say that the keeper failed
abbrev Calm : {A : Type 0} → Result A Answer → Type 0
Calm (Ok x) = Unit {0}
Calm (Err own) = failure_count own ≡ 0

calm_then : {A B : Type 0} (r : Result A Answer) (f : A → Result B Answer) → Calm r → ((x : A) → Calm (f x)) → Calm (r >>= f)
calm_then (Ok x) f h k = k x
calm_then (Err own) f h k = h

calm_after : {A B : Type 0} (r : Result A Answer) (s : Result B Answer) → Calm r → Calm s → Calm (r >> s)
calm_after (Ok x) s h k = k
calm_after (Err own) s h k = h

calm_or : {A : Type 0} (own : Answer) (o : Option A) → failure_count own ≡ 0 → Calm (or_fault own o)
calm_or own None e = e
calm_or own (Some x) e = tt

calm_if : {A : Type 0} (b : Bool) (r s : Result A Answer) → Calm r → Calm s → Calm (cond b r s)
calm_if true r s h k = h
calm_if false r s h k = k

calm_name : (r : Result (List ℕ) PathFault) → Calm (result_map_err (λ fault. Replied (BadPath fault)) r)
calm_name (Ok path) = tt
calm_name (Err fault) = refl

calm_on : (resource : Resource) (method body : List ℕ) → Calm (call_on resource method body)
calm_on (FileNamed name) method body =
    calm_then (file_call name method body) _
    (calm_if (bytes_eq method (codes "GET")) _ _ tt
    (calm_if (bytes_eq method (codes "PUT")) _ _ tt
    (calm_if (bytes_eq method (codes "POST")) _ _ tt refl)))
    (λ call. calm_after (named_path name) (Ok call) (calm_name (path_of name)) tt)
calm_on (PipelineNamed digits) method body =
    calm_then (pipeline_id digits) _ (calm_or NoRoute _ refl)
    (λ id. calm_if (bytes_eq method (codes "POST")) _ _ tt refl)
calm_on HashOfPolicy method body = calm_if (bytes_eq method (codes "GET")) _ _ tt refl

calm_ask : (keys : Keys) (request : Request) → Calm (ask_of keys request)
calm_ask keys request =
    calm_then (call_of request.target request.method request.body) _
    (calm_then (or_fault NoRoute (resource_of request.target)) _ (calm_or NoRoute (resource_of request.target) refl)
    (λ resource. calm_on resource request.method request.body))
    (λ call. calm_then (asker keys request.key) _ (calm_or (Replied Unkeyed) _ refl) (λ who. tt))

-- an answer without the desk says no such thing
pub own_counts : (keys : Keys) (request : Request) (own : Answer) → ask_of keys request ≡ Err own → failure_count own ≡ 0
own_counts keys request own e = subst Calm e (calm_ask keys request)

-- a reply says it only where the count rose
pub reply_rises : (reply : Reply) (before found after : ℕ) → before ≤ after → (reply ≡ Unavailable → IsLicensed before found after)
    → RisesBy (failure_count (Replied reply)) before after
reply_rises Unavailable before found after later licensed = λ few. let h = licensed refl few in omega (arith, h.0, h.1)
reply_rises other before found after later licensed = λ few. omega arith

pub own_rises : (keys : Keys) (request : Request) (own : Answer) (count : ℕ) → ask_of keys request ≡ Err own → RisesBy (failure_count own) count count
own_rises keys request own count e = λ few. let none = own_counts keys request own e in omega (arith, none)
