use Rattle.std.proofs.Common.{◌∙◌, sym}
use Rattle.std.proofs.lemmas.List.{take_rest}
use Rattle.vr_http.proofs.SearchLemmas.{line_end_after, no_line_end}
use Rattle.vr_http.proofs.search.line_feed_from.Goals as goal

pub returns-in-Some-clause-found : goal.returns-in-Some-clause-found
returns-in-Some-clause-found c =
    let bytes = c.args.bytes.now in
    line_end_after bytes c.args.from c.cut_at.result.0.now c.in-Some.field-0.now c.requires
    (sym (take_rest bytes c.args.from) ∙ (rw c.in-Some.is at c.cut_at.ensures.whole)) c.cut_at.ensures.first

pub returns-in-None-clause-none : goal.returns-in-None-clause-none
returns-in-None-clause-none c =
    let bytes = c.args.bytes.now in
    no_line_end bytes c.args.from c.cut_at.result.0.now c.requires
    (sym (take_rest bytes c.args.from) ∙ (rw c.in-None.is at c.cut_at.ensures.whole)) c.cut_at.ensures.first
