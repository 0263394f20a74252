use Rattle.std.proofs.Common.{◌≡◌, ◌*◌, ◌<◌, subst, length, ap, sym, ◌∙◌}
use Rattle.std.specs.Prelude.{IsSome, IfSome}
use Rattle.std.specs.Slice.{IsItemAt}
use Rattle.vr_files.specs.declared.pages.TheConstants.{PAGE}
use Rattle.vr_files.specs.Bodies.{page_at, padded}
use Rattle.vr_files.proofs.PagedLemmas.{length-kept, shared_some, shared_bytes}
use Rattle.vr_files.proofs.paged.Paged.shared_page.Goals as goal

pub returns-clause-some : goal.returns-clause-some
returns-clause-some c =
    let pages = c.self.inside.pages.items in
    let r = c.get.result in
    let k = c.args.k in
    let item : IsItemAt pages k r = subst (λ x. IsItemAt x k r) c.deref.ensures.value c.get.ensures.lookup in
    subst (λ n. (IsSome r → PAGE * k < n) × (PAGE * k < n → IsSome r)) (sym (length-kept c.self.inside.len pages c.self.invariant) ∙ ap length c.self.view_is)
    (shared_some c.self.inside.len k pages r c.self.invariant item)

pub returns-clause-bytes : goal.returns-clause-bytes
returns-clause-bytes c =
    let pages = c.self.inside.pages.items in
    let r = c.get.result in
    let k = c.args.k in
    let item : IsItemAt pages k r = subst (λ x. IsItemAt x k r) c.deref.ensures.value c.get.ensures.lookup in
    subst (λ b. IfSome r (λ page. page.now.value.bytes ≡ padded (page_at k b))) c.self.view_is (shared_bytes c.self.inside.len k pages r c.self.invariant item)
