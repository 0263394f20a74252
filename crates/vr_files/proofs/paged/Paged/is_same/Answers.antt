use Rattle.std.proofs.Common.{◌≡◌, eqb→eq, T, length, take, subst, ap, sym, ◌∙◌}
use Rattle.vr_files.specs.PageLists.{bytes_of, IsPaged}
use Rattle.vr_files.proofs.PagedLemmas.{kept, same_kept, length-kept}
use Rattle.vr_files.proofs.paged.Paged.is_same.Goals as goal

pub returns-else-self-other : goal.returns-else-self-other
returns-else-self-other c =
    let own : c.self.inside.len ≡ length c.args.self.now = sym (length-kept c.self.inside.len c.self.inside.pages.items c.self.invariant) ∙ ap length c.self.view_is in
    let others : c.other.inside.len ≡ length c.args.other.now = sym (length-kept c.other.inside.len c.other.inside.pages.items c.other.invariant) ∙ ap length c.other.view_is in
    (λ t. absurd (c.if-self-other.false (eqb→eq c.self.inside.len c.other.inside.len (subst T (sym t) tt))), λ e. absurd (c.if-self-other.false (own ∙ ap length e ∙ sym others)))

pub returns-then-self-other : goal.returns-then-self-other
returns-then-self-other c =
    let a = c.self.inside.pages.items in
    let b = c.other.inside.pages.items in
    let len = c.self.inside.len in
    let first : bytes_of c.deref.result.now ≡ bytes_of a = ap bytes_of c.deref.ensures.value in
    let second : bytes_of c.deref-then-self-other.result.now ≡ bytes_of b = ap bytes_of c.deref-then-self-other.ensures.value in
    let is_b : IsPaged len b = subst (λ n. IsPaged n b) (sym c.if-self-other.true) c.other.invariant in
    let view_b : kept len b ≡ c.args.other.now = ap (λ n. kept n b) c.if-self-other.true ∙ c.other.view_is in (
      λ t. sym c.self.view_is ∙ ap (λ x. take len x) (sym first ∙ c.same_pages.ensures.0 t ∙ second) ∙ view_b,
      λ e. c.same_pages.ensures.1 (first ∙ same_kept len a b c.self.invariant is_b (c.self.view_is ∙ e ∙ sym view_b) ∙ sym second),
    )
