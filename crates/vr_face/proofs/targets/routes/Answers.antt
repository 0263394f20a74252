use Rattle.std.proofs.Common.{◌≡◌, ℕ, List, [], ◌∷◌, ◌++◌, codes, None, refl, ◌∙◌, Result, Ok, Err}
use Rattle.std.specs.Result.{IsErrAnd, IfErr}
use Rattle.matchit.proofs.OnLiterals.{matchit_on_literals}
use Rattle.matchit.specs.Rows.{RowsOf, param_token, catch_all_token}
use Rattle.matchit.specs.Router.{RouteOf, Refused, nearest}
use Rattle.matchit.specs.declared.error.InsertError.{InsertError}
use Rattle.matchit.specs.declared.error.InsertError.TheVariants.{Conflict, InvalidParam, InvalidParamSegment, InvalidCatchAll, OutOfMemory}
use Rattle.vr_face.proofs.targets.routes.Goals as goal

-- where no row conflicts, only memory can lack
only-memory : (pattern : List ℕ) (rows : RowsOf (RouteOf ℕ)) (e : InsertError) → nearest pattern rows ≡ None → Refused pattern rows e → e ≡ OutOfMemory
only-memory pattern rows (Conflict with) n r = let some = r.1 in cc
only-memory pattern rows OutOfMemory n r = refl
only-memory pattern rows InvalidParamSegment n r = elim r [ ]
only-memory pattern rows InvalidParam n r = elim r [ ]
only-memory pattern rows InvalidCatchAll n r = elim r [ ]

-- what `?` hands on
told : {T : Type 0} (r : Result T InsertError) (e : InsertError) → IsErrAnd r (λ x. x ≡ e) → e ≡ OutOfMemory → IfErr r (λ x. x ≡ OutOfMemory)
told (Ok v) e h m = tt
told (Err x) e h m = h ∙ m

pub returns-clause-rows : goal.returns-clause-rows
unfolding matchit_on_literals
returns-clause-rows c =
    let a = c.in_ok-insert.ensures in
    let b = c.in_ok-insert-2.ensures in
    let d = c.in_ok-insert-3.ensures in
    rw (d.1, b.1, a.1, c.new-router.ensures) refl

pub returns-in_err-insert-clause-memory : goal.returns-in_err-insert-clause-memory
unfolding matchit_on_literals
returns-in_err-insert-clause-memory c =
    let h = c.in_err-insert.ensures in
    let e = only-memory (codes "/files/" ++ catch_all_token ∷ []) c.new-router.result c.in_err-insert.field-0.0 (rw c.new-router.ensures refl) h.1 in
    told c.from_residual.result c.in_err-insert.field-0.0 c.from_residual.ensures.1 e

pub returns-in_err-insert-2-clause-memory : goal.returns-in_err-insert-2-clause-memory
unfolding matchit_on_literals
returns-in_err-insert-2-clause-memory c =
    let a = c.in_ok-insert.ensures in
    let h = c.in_err-insert-2.ensures in
    let e = only-memory (codes "/pipelines/" ++ param_token ∷ []) c.insert.new.self c.in_err-insert-2.field-0.0 (rw (a.1, c.new-router.ensures) refl) h.1 in
    told c.from_residual-in_err-insert-2.result c.in_err-insert-2.field-0.0 c.from_residual-in_err-insert-2.ensures.1 e

pub returns-in_err-insert-3-clause-memory : goal.returns-in_err-insert-3-clause-memory
unfolding matchit_on_literals
returns-in_err-insert-3-clause-memory c =
    let a = c.in_ok-insert.ensures in
    let b = c.in_ok-insert-2.ensures in
    let h = c.in_err-insert-3.ensures in
    let e = only-memory (codes "/policy/hash") c.insert-2.new.self c.in_err-insert-3.field-0.0 (rw (b.1, a.1, c.new-router.ensures) refl) h.1 in
    told c.from_residual-in_err-insert-3.result c.in_err-insert-3.field-0.0 c.from_residual-in_err-insert-3.ensures.1 e
