-- What an error tells of answers that are put together from several checks.
use Rattle.std.proofs.Common.{◌≡◌, ℕ, Option, Some, Result, Err, ap, sym, ◌∙◌, subst}
use Rattle.std.specs.Prelude.{IsErrAnd}
use Rattle.std.proofs.lemmas.Result.{err_from_is_err_and}
use Rattle.vr_base.specs.Checks.{Told, nothing, exactly, never, Tells, GivesBy, result_map, ◌>>=◌, ◌>>◌}
use Rattle.vr_policy_check.specs.declared.faults.CheckKind.{CheckKind}
use Rattle.vr_policy_check.specs.declared.faults.CheckKind.TheVariants.{NoIdentity, SameIdentity, SameProgram, SamePipeline, SamePin, GrantTwice, DirectoryAsProgram, PipeRefused, UnlistedProgram, OutOfMemory}
use Rattle.vr_policy_check.specs.declared.faults.CheckFault.{CheckFault}
use Rattle.vr_policy_check.specs.Faults.{fault_at, told}
use Rattle.vr_policy_check.specs.Rules.{rule}

-- a fault tells itself
pub tells_itself : {A : Type 0} (kind : CheckKind) (at : ℕ) (answer : Result A CheckFault) → answer ≡ Err (fault_at kind at)
    → Tells (told (fault_at kind at)) answer
tells_itself NoIdentity at answer h = h
tells_itself SameIdentity at answer h = h
tells_itself SameProgram at answer h = h
tells_itself SamePipeline at answer h = h
tells_itself SamePin at answer h = h
tells_itself GrantTwice at answer h = h
tells_itself DirectoryAsProgram at answer h = h
tells_itself (PipeRefused fault) at answer h = h
tells_itself UnlistedProgram at answer h = h
tells_itself OutOfMemory at answer h = tt

-- a rule that fails is told as it is
pub tells_rule : (kind : CheckKind) (at : ℕ) (failing : Option ℕ) → failing ≡ Some at → Tells (told (fault_at kind at)) (rule kind failing)
tells_rule kind at failing is = tells_itself kind at (rule kind failing) (ap (rule kind) is)

-- an error that is handed on tells what it told
pub hands_on : {A B : Type 0} (f : A → B) (r : Result A CheckFault) (e : CheckFault) (answer : Result B CheckFault) → IsErrAnd r (λ y. y ≡ e)
    → Tells (told e) answer → GivesBy told (result_map f r) answer
hands_on {A} f r e answer out h =
    let p = err_from_is_err_and r out in
    let is : r ≡ Err e = p.1 ∙ ap Err p.2 in
    let P : Result A CheckFault → Type 0 = λ x. GivesBy told (result_map f x) answer in
    subst P (sym is) h

module _ {A B : Type 0} where
  pub tells_map : (t : Told CheckFault) (r : Result A CheckFault) (f : A → B) → Tells t r → Tells t (result_map f r)
  tells_map nothing r f h = tt
  tells_map (exactly e) r f h = ap (result_map f) h
  tells_map never r f h = h

  -- what is told of the first check is told of it and those after it
  pub tells_then : (t : Told CheckFault) (r : Result A CheckFault) (rest : Result B CheckFault) → Tells t r → Tells t (r >> rest)
  tells_then nothing r rest h = tt
  tells_then (exactly e) r rest h = ap (λ x. x >> rest) h
  tells_then never r rest h = h

  pub tells_bind : (t : Told CheckFault) (r : Result A CheckFault) (rest : A → Result B CheckFault) → Tells t r → Tells t (r >>= rest)
  tells_bind nothing r rest h = tt
  tells_bind (exactly e) r rest h = ap (λ x. x >>= rest) h
  tells_bind never r rest h = h
