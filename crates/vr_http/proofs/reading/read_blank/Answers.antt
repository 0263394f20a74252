use Rattle.std.proofs.Common.{◌≡◌, ◌+◌, ◌≤◌, length, sym, ap, ◌∙◌, arith}
use Rattle.std.proofs.lemmas.Result.{err_from_is_err_and}
use Rattle.vr_http.specs.Inboxes.{unread}
use Rattle.vr_http.specs.Reading.{IsBlank}
use Rattle.vr_http.proofs.GatherLemmas.{Gathers-then}
use Rattle.vr_http.proofs.ReadLemmas.{blank_step, blank_fits, blank_whole, blank_failed, blank_ended, blank_more}
use Rattle.vr_http.proofs.reading.read_blank.Goals as goal

pub overflow_add-blank : goal.overflow_add-blank
overflow_add-blank g c =
    let held = unread c.loop-blank.inbox in
    let counted = blank_step held c.unread.result.now c.loop-blank.blank c.blank_length.result c.loop-blank.invariant.blank c.unread.ensures.value c.blank_length.ensures in
    omega (arith, blank_fits held, counted, ap length c.unread.ensures.value, c.unread.ensures.fits)

pub returns-in_err-read_more-clause-gathered : goal.returns-in_err-read_more-clause-gathered
returns-in_err-read_more-clause-gathered g c =
    Gathers-then _ _ _ _ _ _ c.loop-blank.invariant.gathered c.in_err-read_more.ensures.gathered

pub returns-in_err-read_more-clause-blank : goal.returns-in_err-read_more-clause-blank
returns-in_err-read_more-clause-blank g c =
    let held = unread c.loop-blank.inbox in
    let counted = blank_step held c.unread.result.now c.loop-blank.blank c.blank_length.result c.loop-blank.invariant.blank c.unread.ensures.value c.blank_length.ensures in
    let blank : IsBlank held = blank_whole held _ counted (omega (arith, ap length c.unread-in-loop-blank.ensures.value)) in
    let p = err_from_is_err_and c.from_residual.result c.from_residual.ensures.1 in
    rw (p.1, p.2) (blank_failed held (unread c.read_more.new.inbox) (g.S.Source.left c.read_more.new.source) _ blank c.in_err-read_more.ensures.more)

pub returns-then-branch-eq0-clause-blank : goal.returns-then-branch-eq0-clause-blank
returns-then-branch-eq0-clause-blank g c =
    let held = unread c.loop-blank.inbox in
    let counted = blank_step held c.unread.result.now c.loop-blank.blank c.blank_length.result c.loop-blank.invariant.blank c.unread.ensures.value c.blank_length.ensures in
    let blank : IsBlank held = blank_whole held _ counted (omega (arith, ap length c.unread-in-loop-blank.ensures.value)) in
    let more = c.in_ok-read_more.ensures.more in
    blank_ended held (unread c.read_more.new.inbox) (g.S.Source.left c.loop-blank.source) (g.S.Source.left c.read_more.new.source) c.in_ok-read_more.field-0 blank c.in_ok-read_more.ensures.gathered more.0 more.1 c.if-branch-eq0.true

pub loop-blank-preserved : goal.loop-blank-preserved
loop-blank-preserved g c =
    let held = unread c.loop-blank.inbox in
    let counted = blank_step held c.unread.result.now c.loop-blank.blank c.blank_length.result c.loop-blank.invariant.blank c.unread.ensures.value c.blank_length.ensures in
    let past : length held ≤ c.loop-blank.blank + c.blank_length.result = omega (arith, ap length c.unread-in-loop-blank.ensures.value) in
    let blank : IsBlank held = blank_whole held _ counted past in
    let whole : c.loop-blank.blank + c.blank_length.result ≡ length held = sym counted ∙ blank in
    let size = c.in_ok-read_more.ensures.more.0.size in
    record {
      gathered = Gathers-then _ _ _ _ _ _ c.loop-blank.invariant.gathered c.in_ok-read_more.ensures.gathered;
      within = omega arith;
      blank = blank_more held _ _ _ _ blank c.in_ok-read_more.ensures.gathered whole;
      beside = c.in_ok-read_more.ensures.beside ∙ c.loop-blank.invariant.beside;
      later = omega (arith, c.in_ok-read_more.ensures.cause.later);
    }
