use Rattle.std.proofs.Common.{◌≡◌, ℕ, List, ◌++◌, ap, ◌∙◌}
use Rattle.std.specs.Prelude.{codes}
use Rattle.std.proofs.lemmas.Result.{IfOk-weaker}
use Rattle.http.specs.StatusCode.{code_digits}
use Rattle.vr_http.specs.Responses.{line, phrase, status_line}
use Rattle.vr_http.proofs.ResponseLemmas.{three_pieces}
use Rattle.vr_http.proofs.responses.HeadText.status_line.Goals as goal

pub returns : goal.returns
unfolding status_line
returns c =
    let before = c.args.self in
    let status = c.args.status in
    let version = codes "HTTP/1.1 " in
    let last = line (codes " ") (phrase status) in
    let digits = c.as_bytes.ensures.value ∙ c.as_str.ensures in
    let reason = c.as_bytes-2.ensures.value ∙ c.phrase.ensures in
    let first : c.in_ok-add-2.field-0 ≡ (before ++ version) ++ code_digits status =
    c.in_ok-add-2.ensures
    ∙ ap (λ (t : List ℕ). t ++ c.as_bytes.result.now) c.in_ok-add.ensures
    ∙ ap (λ (t : List ℕ). (before ++ version) ++ t) digits in
    IfOk-weaker c.line.result _ _ (λ head is.
    is
    ∙ ap (λ (t : List ℕ). t ++ line (codes " ") c.as_bytes-2.result.now) first
    ∙ ap (λ (t : List ℕ). ((before ++ version) ++ code_digits status) ++ line (codes " ") t) reason
    ∙ three_pieces before version (code_digits status) last) c.line.ensures
