use Rattle.std.proofs.Common.{◌≡◌, ◌+◌, ◌*◌, ◌/◌, ◌%◌, drop, ap, ◌∙◌, arith}
use Rattle.std.proofs.lemmas.List.{take_rest}
use Rattle.vr_wasi_calls.proofs.RunLemmas.{run_is, run_some}
use Rattle.vr_wasi_calls.proofs.reads.run_at.Goals as goal

pub returns-in-Some-clause-some : goal.returns-in-Some-clause-some
returns-in-Some-clause-some c =
    let page = c.in-Some.page.now in
    let place : 4096 * (c.args.from / 4096) + c.args.from % 4096 ≡ c.args.from = omega arith in
    run_some 4096 (c.args.from / 4096) (c.args.from % 4096) c.args.from c.args.body.now page _
    (omega arith) place
    c.in-Some.ensures.bytes (take_rest page c.min.result ∙ ap (λ n. drop n page) c.min.ensures)

pub returns-in-Some-clause-bytes : goal.returns-in-Some-clause-bytes
returns-in-Some-clause-bytes c =
    let page = c.in-Some.page.now in
    let place : 4096 * (c.args.from / 4096) + c.args.from % 4096 ≡ c.args.from = omega arith in
    run_is 4096 (c.args.from / 4096) (c.args.from % 4096) c.args.from c.args.body.now page _
    (omega arith) place
    c.in-Some.ensures.bytes (take_rest page c.min.result ∙ ap (λ n. drop n page) c.min.ensures)
