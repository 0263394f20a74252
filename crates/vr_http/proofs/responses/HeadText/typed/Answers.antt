use Rattle.std.proofs.Common.{ℕ, List, ◌++◌, length, ap, ◌∙◌, append_assoc}
use Rattle.std.specs.Prelude.{codes, decimal}
use Rattle.std.proofs.lemmas.Result.{IfOk-weaker}
use Rattle.vr_http.specs.Responses.{line}
use Rattle.vr_http.proofs.responses.HeadText.typed.Goals as goal

pub returns : goal.returns
returns c =
    let before = c.args.self in
    let media = line (codes "Content-Type: ") c.args.media.now in
    let size = line (codes "Content-Length: ") (decimal (length c.as_slice.result.now)) in
    IfOk-weaker c.number.result _ _ (λ head is.
    is
    ∙ ap (λ (t : List ℕ). t ++ size) c.in_ok-line.ensures
    ∙ append_assoc before media size
    ∙ ap (λ (t : List ℕ). before ++ (media ++ line (codes "Content-Length: ") (decimal (length t)))) c.as_slice.ensures) c.number.ensures
