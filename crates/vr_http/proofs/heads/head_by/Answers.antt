use Rattle.std.proofs.Common.{◌≡◌, map, take, sym}
use Rattle.std.specs.Prelude.{Err}
use Rattle.std.proofs.lemmas.Result.{err_from_is_err_and}
use Rattle.httparse.specs.Spans.{header_bytes, span_bytes}
use Rattle.vr_http.specs.Fields.{body_size}
use Rattle.vr_http.proofs.RequestLemmas.{head_tells}
use Rattle.vr_http.proofs.heads.head_by.Goals as goal

pub returns-in_err-size : goal.returns-in_err-size
returns-in_err-size c =
    let text = c.args.text.now in
    let spans = c.args.spans.now in
    let method = span_bytes text spans.method in
    let target = span_bytes text spans.path in
    let fields = map (header_bytes text) (take spans.headers c.args.headers.now) in
    let p = err_from_is_err_and c.from_residual.result c.from_residual.ensures.1 in
    let sized : body_size method target fields ≡ Err c.in_err-size.field-0.0 =
    sym (rw (c.of-method.ensures, c.of-target.ensures) at c.in_err-size.ensures) in
    rw (p.1, p.2) (head_tells method target spans.version fields _ sized)
