use Rattle.std.proofs.Common.{◌≡◌, ◌≤◌, List, ℕ, length, ap, ◌∙◌, arith, slice_range}
use Rattle.std.proofs.lemmas.Result.{err_from_is_err_and}
use Rattle.std.specs.Prelude.{count_by}
use Rattle.vr_http.specs.Heads.{is_line_feed}
use Rattle.vr_http.specs.Inboxes.{unread}
use Rattle.vr_http.specs.Reading.{most_head}
use Rattle.vr_http.proofs.GatherLemmas.{Gathers-then}
use Rattle.vr_http.proofs.ReadLemmas.{head_blank_failed, head_ended, head_text_failed, head_long, head_found, blank_later}
use Rattle.vr_http.proofs.reading.read_head.Goals as goal

pub returns-in_err-start-clause-found : goal.returns-in_err-start-clause-found
returns-in_err-start-clause-found g c =
    let old = unread c.args.inbox.now in
    let new = unread c.read_blank.new.inbox in
    let before = g.S.Source.left c.args.source.now in
    let after = g.S.Source.left c.read_blank.new.source in
    let p = err_from_is_err_and c.from_residual.result c.from_residual.ensures.1 in
    rw (p.1, p.2) (head_blank_failed old new new before after _ c.in_err-start.ensures.gathered c.in_err-start.ensures.blank)

pub returns-in_default-clause-found : goal.returns-in_default-clause-found
returns-in_default-clause-found g c =
    let new = unread c.read_blank.new.inbox in
    let after = g.S.Source.left c.read_blank.new.source in
    let found = rw c.in_default.is at c.in_ok-start.ensures.blank in
    head_ended (unread c.args.inbox.now) new new (g.S.Source.left c.args.source.now) after
    c.in_ok-start.ensures.gathered found.0 found.1

pub returns-in_err-end-clause-found : goal.returns-in_err-end-clause-found
returns-in_err-end-clause-found g c =
    let old = unread c.args.inbox.now in
    let middle = unread c.read_blank.new.inbox in
    let new = unread c.read_text.new.inbox in
    let before = g.S.Source.left c.args.source.now in
    let between = g.S.Source.left c.read_blank.new.source in
    let after = g.S.Source.left c.read_text.new.source in
    let gathers = Gathers-then old middle new before between after c.in_ok-start.ensures.gathered c.in_err-end.ensures.gathered in
    let blank = blank_later middle new between after c.in-Some.start c.in_err-end.ensures.gathered (rw c.in-Some.is at c.in_ok-start.ensures.blank) in
    let p = err_from_is_err_and c.from_residual-in_err-end.result c.from_residual-in_err-end.ensures.1 in
    rw (p.1, p.2) (head_text_failed old new new before after c.in-Some.start _ gathers blank c.in_err-end.ensures.text)

pub returns-then-count_lines-clause-found : goal.returns-then-count_lines-clause-found
returns-then-count_lines-clause-found g c =
    let old = unread c.args.inbox.now in
    let middle = unread c.read_blank.new.inbox in
    let new = unread c.read_text.new.inbox in
    let before = g.S.Source.left c.args.source.now in
    let between = g.S.Source.left c.read_blank.new.source in
    let after = g.S.Source.left c.read_text.new.source in
    let start = c.in-Some.start in
    let end = c.in_ok-end.end in
    let gathers = Gathers-then old middle new before between after c.in_ok-start.ensures.gathered c.in_ok-end.ensures.gathered in
    let blank = blank_later middle new between after start c.in_ok-end.ensures.gathered (rw c.in-Some.is at c.in_ok-start.ensures.blank) in
    let fits : length new ≤ most_head = omega (arith, ap length c.unread.ensures.value, c.unread.ensures.fits) in
    let lines : c.count_lines.result ≡ count_by is_line_feed (slice_range new start end) =
    c.count_lines.ensures ∙ ap (λ (t : List ℕ). count_by is_line_feed (slice_range t start end)) c.unread.ensures.value in
    head_long old new new before after start end gathers fits blank c.in_ok-end.ensures.text (omega arith)

pub returns-clause-found : goal.returns-clause-found
returns-clause-found g c =
    let old = unread c.args.inbox.now in
    let middle = unread c.read_blank.new.inbox in
    let new = unread c.read_text.new.inbox in
    let before = g.S.Source.left c.args.source.now in
    let between = g.S.Source.left c.read_blank.new.source in
    let after = g.S.Source.left c.read_text.new.source in
    let start = c.in-Some.start in
    let end = c.in_ok-end.end in
    let gathers = Gathers-then old middle new before between after c.in_ok-start.ensures.gathered c.in_ok-end.ensures.gathered in
    let blank = blank_later middle new between after start c.in_ok-end.ensures.gathered (rw c.in-Some.is at c.in_ok-start.ensures.blank) in
    let fits : length new ≤ most_head = omega (arith, ap length c.unread.ensures.value, c.unread.ensures.fits) in
    let lines : c.count_lines.result ≡ count_by is_line_feed (slice_range new start end) =
    c.count_lines.ensures ∙ ap (λ (t : List ℕ). count_by is_line_feed (slice_range t start end)) c.unread.ensures.value in
    head_found old new before after start end gathers fits blank c.in_ok-end.ensures.text (omega arith)
