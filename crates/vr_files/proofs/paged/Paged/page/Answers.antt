use Rattle.std.proofs.Common.{get_or, ◌≡◌, ◌-◌, ◌*◌, ◌<◌, min, subst, length, take, refl, ap, sym, ◌∙◌}
use Rattle.vr_files.specs.declared.pages.TheConstants.{PAGE}
use Rattle.vr_files.specs.Bodies.{page_at}
use Rattle.vr_files.proofs.PagedLemmas.{length-kept, page_there, part_kept}
use Rattle.vr_files.proofs.paged.Paged.page.Goals as goal

pub returns-clause-some : goal.returns-clause-some
returns-clause-some c =
    let pages = c.self.inside.pages.items in
    let k = c.args.k in
    let len_is : c.self.inside.len ≡ length c.args.self.now = sym (length-kept c.self.inside.len pages c.self.invariant) ∙ ap length c.self.view_is in
    let h : k < length pages = subst (λ x. k < length x) c.deref.ensures.value c.in_ok-page.ensures.lookup.3.0 in
    (λ _. subst (λ n. PAGE * k < n) len_is ((page_there c.self.inside.len k pages c.self.invariant).0 h), λ _. refl)

pub returns-clause-bytes : goal.returns-clause-bytes
returns-clause-bytes c =
    let pages = c.self.inside.pages.items in
    let k = c.args.k in
    let h : k < length pages = subst (λ x. k < length x) c.deref.ensures.value c.in_ok-page.ensures.lookup.3.0 in
    let here : c.in_ok-page.page.now ≡ get_or pages k c.in_ok-page.page.now = c.in_ok-page.ensures.lookup.1 ∙ ap (λ x. get_or x k c.in_ok-page.page.now) c.deref.ensures.value in
    ap (λ n. take n c.deref-2.result.now.bytes) c.min.ensures ∙ ap (λ p. take (min PAGE (c.self.inside.len - PAGE * k)) p.bytes) c.deref-2.ensures
    ∙ part_kept c.self.inside.len k pages c.in_ok-page.page.now c.self.invariant h here ∙ ap (λ b. page_at k b) c.self.view_is
