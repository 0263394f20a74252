use Rattle.std.proofs.Common.{◌≡◌, ℕ, List, ◌++◌, ap, subst, ◌∙◌}
use Rattle.std.proofs.lemmas.Result.{err_from_is_err_and}
use Rattle.vr_base.specs.Outside.{AppendsPrefix}
use Rattle.vr_base.proofs.Written.{AppendsPrefix-then}
use Rattle.vr_http.specs.Responses.{response_head}
use Rattle.vr_http.proofs.responses.write_response.Goals as goal

pub returns-in_err-write_all-3-clause-err : goal.returns-in_err-write_all-3-clause-err
returns-in_err-write_all-3-clause-err g c =
    let before = g.W.Sink.written c.args.sink.now in
    let between = g.W.Sink.written c.write_all-else-body-le-MOST_GATHERED.new.out in
    let after = g.W.Sink.written c.write_all-else-body-le-MOST_GATHERED-2.new.out in
    let head = c.as_slice-else-body-le-MOST_GATHERED.result.now in
    let body = c.sent_body-body.result.now in
    let wrote : AppendsPrefix before after (head ++ body) =
    AppendsPrefix-then before between after head body c.in_ok-write_all-2.ensures.ok c.in_err-write_all-3.ensures.err in
    let whole : head ≡ response_head c.args.response.now =
    c.as_slice-else-body-le-MOST_GATHERED.ensures.value ∙ c.head.view_is ∙ c.in_ok-head.ensures in
    let P : List ℕ → Type 0 = λ text. AppendsPrefix before after text in
    let p = err_from_is_err_and c.from_residual-in_err-write_all-3.result c.from_residual-in_err-write_all-3.ensures.1 in
    rw p.1 (subst P (ap (λ (t : List ℕ). t ++ body) whole ∙ ap (λ (t : List ℕ). response_head c.args.response.now ++ t) c.sent_body-body.ensures) wrote)
