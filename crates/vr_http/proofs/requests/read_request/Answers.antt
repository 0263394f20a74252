use Rattle.std.proofs.Common.{List, ℕ, subst, slice_range}
use Rattle.std.specs.Prelude.{Err}
use Rattle.std.proofs.lemmas.Result.{err_from_is_err_and}
use Rattle.vr_http.specs.Inboxes.{unread, stream}
use Rattle.vr_http.specs.Reading.{Spells, ReadsBody}
use Rattle.vr_http.proofs.TakeLemmas.{takes_refused, takes_cut, takes_request, spells_no_read_fault}
use Rattle.vr_http.proofs.requests.read_request.Goals as goal

pub returns-in_err-head-clause-takes : goal.returns-in_err-head-clause-takes
returns-in_err-head-clause-takes g c =
    let old = unread c.args.inbox.now in
    let held = unread c.read_head.new.inbox in
    let place = c.in-Some.place in
    let before = g.S.Source.left c.args.source.now in
    let after = stream held (g.S.Source.left c.read_head.new.source) in
    let locates = rw c.in-Some.is at c.in_ok-place.ensures.found in
    let P : List ℕ → Type 0 = λ bytes. Spells (slice_range bytes place.start place.end) (Err c.in_err-head.field-0.0) in
    let spells = subst P c.unread.ensures.value c.in_err-head.ensures in
    let p = err_from_is_err_and c.from_residual-in_err-head.result c.from_residual-in_err-head.ensures.1 in
    rw (p.1, p.2) (takes_refused old held before after place _ locates spells)

pub returns-in_err-head-clause-cause : goal.returns-in_err-head-clause-cause
returns-in_err-head-clause-cause g c =
    let p = err_from_is_err_and c.from_residual-in_err-head.result c.from_residual-in_err-head.ensures.1 in
    record {
      later = c.in_ok-place.ensures.cause.later;
      failed = λ is. absurd (spells_no_read_fault _ c.in_err-head.field-0.0 c.in_err-head.ensures (cc (p.1, p.2, is)));
    }

pub returns-in_err-body-clause-takes : goal.returns-in_err-body-clause-takes
returns-in_err-body-clause-takes g c =
    let old = unread c.args.inbox.now in
    let held = unread c.read_head.new.inbox in
    let place = c.in-Some.place in
    let said = c.in_ok-head.head in
    let before = g.S.Source.left c.args.source.now in
    let middle = g.S.Source.left c.read_head.new.source in
    let last = stream (unread c.read_body.new.inbox) (g.S.Source.left c.read_body.new.source) in
    let locates = rw c.in-Some.is at c.in_ok-place.ensures.found in
    let placed = rw c.in-Some.is at c.in_ok-place.ensures.placed in
    let spells = rw c.unread.ensures.value at c.in_ok-head.ensures in
    let P : List ℕ → Type 0 = λ bytes. ReadsBody said.size (stream bytes middle) last (Err c.in_err-body.field-0.0) in
    let body = subst P c.skip.ensures c.in_err-body.ensures.body in
    let p = err_from_is_err_and c.from_residual-in_err-body.result c.from_residual-in_err-body.ensures.1 in
    rw (p.1, p.2) (takes_cut old held before middle last place said _ c.in_ok-place.ensures.gathered locates placed spells body)

pub returns-clause-takes : goal.returns-clause-takes
returns-clause-takes g c =
    let old = unread c.args.inbox.now in
    let held = unread c.read_head.new.inbox in
    let place = c.in-Some.place in
    let said = c.in_ok-head.head in
    let before = g.S.Source.left c.args.source.now in
    let middle = g.S.Source.left c.read_head.new.source in
    let last = stream (unread c.read_body.new.inbox) (g.S.Source.left c.read_body.new.source) in
    let locates = rw c.in-Some.is at c.in_ok-place.ensures.found in
    let placed = rw c.in-Some.is at c.in_ok-place.ensures.placed in
    let spells = rw c.unread.ensures.value at c.in_ok-head.ensures in
    let body = rw c.skip.ensures at c.in_ok-body.ensures.body in
    takes_request old held before middle last place said c.in_ok-body.body c.in_ok-place.ensures.gathered locates placed spells body
