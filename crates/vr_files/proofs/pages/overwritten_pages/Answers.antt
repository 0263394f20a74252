use Rattle.std.proofs.Common.{◌≡◌, suc, ◌+◌, ◌-◌, ◌*◌, ◌++◌, [], ◌∷◌, length, take, drop, ap, sym, subst, ◌∙◌, arith}
use Rattle.vr_files.specs.Bodies.{overwritten}
use Rattle.vr_files.specs.PageLists.{bytes_of, AreFull}
use Rattle.vr_files.specs.declared.pages.TheConstants.{PAGE}
use Rattle.vr_files.proofs.Chunks.{times_next}
use Rattle.vr_files.proofs.PageLemmas.{overwritten-page, full_pushed, first_full}
use Rattle.vr_files.proofs.pages.overwritten_pages.Goals as goal

pub loop-page-preserved : goal.loop-page-preserved
loop-page-preserved c =
    let page = c.page-item.result in
    let new = c.in_ok-overwritten.field-0 in
    let before = c.loop-page.fresh.items in
    let place = c.loop-page.place in
    let rest = c.loop-page.rest.now in
    let kept = c.loop-page.invariant in
    let all = c.args.pages.now in
    let after = drop (c.loop-page.page-index + 1) all in
    let first = first_full all c.loop-page.page-index page c.loop-page-test.true c.page-item.is kept.left in
    let left = length all - (c.loop-page.page-index + 1) in
    let one_more : PAGE * (length all - c.loop-page.page-index) ≡ PAGE + PAGE * left =
    let e : length all - c.loop-page.page-index ≡ suc left = omega arith in ap (λ n. PAGE * n) e ∙ times_next PAGE left in
    let copied : new.value.bytes ≡ overwritten page.value.bytes place (take c.min.result rest) =
    c.in_ok-overwritten.ensures.bytes ∙ ap (λ p. overwritten p.bytes place c.split_at.result.0.now) c.deref.ensures
    ∙ ap (λ x. overwritten page.value.bytes place x) c.split_at.ensures.front in
    record {
      told =
          ap (λ x. bytes_of x ++ overwritten (bytes_of after) 0 c.split_at.result.1.now) c.in_ok-push.ensures.items
          ∙ ap (λ x. bytes_of (before ++ new ∷ []) ++ overwritten (bytes_of after) 0 x) c.split_at.ensures.back
          ∙ overwritten-page before page new after place c.min.result rest first.0 kept.first c.min.ensures copied
          ∙ ap (λ x. bytes_of before ++ overwritten x place rest) (sym first.2) ∙ kept.told;
      full = subst AreFull (sym c.in_ok-push.ensures.items) (full_pushed before new kept.full c.in_ok-overwritten.ensures.len);
      left = first.1;
      count = omega (arith, c.in_ok-push.ensures.len);
      first = omega arith;
      fits = omega (arith, one_more, c.split_at.ensures.back_len);
    }
