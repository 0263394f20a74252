use Rattle.std.proofs.Common.{◌≡◌, ◌-◌, ◌*◌, ◌<◌, ◌≤◌, ◌++◌, min, take, length, get_or, subst, ap, ◌∙◌, arith}
use Rattle.std.proofs.lemmas.List.{length-take-le}
use Rattle.vr_files.specs.PageLists.{bytes_of}
use Rattle.vr_files.specs.declared.pages.TheConstants.{PAGE}
use Rattle.vr_files.proofs.PageLemmas.{length-bytes_of}
use Rattle.vr_files.proofs.PagedLemmas.{kept-more}
use Rattle.vr_files.proofs.paged.Paged.to_vec.Goals as goal

pub loop-page-preserved : goal.loop-page-preserved
loop-page-preserved c =
    let len = c.self.inside.len in
    let pages = c.self.inside.pages.items in
    let i = c.loop-page.page-index in
    let page = c.page-item.result in
    let h : i < length pages = subst (λ x. i < length x) c.deref-page-items.ensures.value c.loop-page-test.true in
    let here : page ≡ get_or pages i page = c.page-item.is ∙ ap (λ x. get_or x i page) c.deref-page-items.ensures.value in
    let reach : min len (PAGE * i) ≤ length (bytes_of pages) = omega (arith, length-bytes_of pages c.self.invariant.full) in
    let so_far : length c.loop-page.bytes.items ≡ min len (PAGE * i) = ap length c.loop-page.invariant ∙ length-take-le (min len (PAGE * i)) (bytes_of pages) reach in
    let count : c.min-count.result ≡ min PAGE (len - min len (PAGE * i)) = omega (arith, c.min-count.ensures) in
    c.in_ok-extend_from_slice.ensures.items
    ∙ ap (λ p. c.loop-page.bytes.items ++ take c.min-count.result p.bytes) c.deref.ensures
    ∙ ap (λ n. c.loop-page.bytes.items ++ take n page.value.bytes) count
    ∙ ap (λ x. x ++ take (min PAGE (len - min len (PAGE * i))) page.value.bytes) c.loop-page.invariant
    ∙ kept-more len i pages page c.self.invariant h here
