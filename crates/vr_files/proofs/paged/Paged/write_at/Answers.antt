use Rattle.std.proofs.Common.{rules, ◌<◌, subst, length, ap, sym, ◌∙◌}
use Rattle.vr_files.specs.Bodies.{written}
use Rattle.vr_files.specs.PageLists.{IsPaged}
use Rattle.vr_files.proofs.PagedLemmas.{kept, paged_write}
use Rattle.vr_files.proofs.paged.Paged.write_at.Goals as goal

pub invariant_of-self-2 : goal.invariant_of-self-2
invariant_of-self-2 c =
    let some : 0 < length c.args.piece.now = search rules in
    let new = c.write_pages.new.pages.items in
    subst (λ n. IsPaged n new) (sym c.max-self-inside.ensures)
    (paged_write c.self.inside.len c.args.at c.self.inside.pages.items new c.args.piece.now c.self.invariant c.in_ok-write_pages.ensures.ok some c.requires).0

pub returns-clause-ok : goal.returns-clause-ok
returns-clause-ok c =
    let some : 0 < length c.args.piece.now = search rules in
    let new = c.write_pages.new.pages.items in
    ap (λ n. kept n new) c.max-self-inside.ensures
    ∙ (paged_write c.self.inside.len c.args.at c.self.inside.pages.items new c.args.piece.now c.self.invariant c.in_ok-write_pages.ensures.ok some c.requires).1
    ∙ ap (λ b. written b c.args.at c.args.piece.now) c.self.view_is
