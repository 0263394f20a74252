use Rattle.std.proofs.Common.{subst, ap, sym, ◌∙◌, arith}
use Rattle.vr_files.specs.Bodies.{resized}
use Rattle.vr_files.specs.PageLists.{IsPaged, AddsZeros}
use Rattle.vr_files.specs.declared.paged.Paged.TheInside.{Inside}
use Rattle.vr_files.proofs.PagedLemmas.{kept, paged_cut, paged_grow}
use Rattle.vr_files.proofs.paged.Paged.set_size.Goals as goal
use Rattle.vr_files.proofs.paged.Paged.set_size.Goals.{then-size-self+in_ok-cut_pages, else-size-self+in_ok-extend_pages}

pub invariant_of-self-2 : goal.invariant_of-self-2
invariant_of-self-2 c =
    let old = c.self.inside.pages.items in
    let size = c.args.size in
    elim c.if-size-self.branch [
      | then-size-self+in_ok-cut_pages w ↦
          subst (λ (i : Inside). IsPaged size i.pages.items) (sym w.self-inside-is)
          (paged_cut c.self.inside.len size old w.cut_pages.new.pages.items c.self.invariant w.in_ok-cut_pages.ensures.ok (omega arith)).0
      | else-size-self+in_ok-extend_pages w ↦
          subst (λ (i : Inside). IsPaged size i.pages.items) (sym w.self-inside-is)
          (paged_grow c.self.inside.len size old w.extend_pages.new.pages.items c.self.invariant
          (subst (λ n. AddsZeros old w.extend_pages.new.pages.items n) w.page_count.ensures w.in_ok-extend_pages.ensures.ok) (omega arith) c.requires).0
    ]

pub returns-clause-ok : goal.returns-clause-ok
returns-clause-ok c =
    let old = c.self.inside.pages.items in
    let size = c.args.size in
    elim c.if-size-self.branch [
      | then-size-self+in_ok-cut_pages w ↦
          ap (λ (i : Inside). kept size i.pages.items) w.self-inside-is
          ∙ (paged_cut c.self.inside.len size old w.cut_pages.new.pages.items c.self.invariant w.in_ok-cut_pages.ensures.ok (omega arith)).1
          ∙ ap (λ b. resized b size) c.self.view_is
      | else-size-self+in_ok-extend_pages w ↦
          ap (λ (i : Inside). kept size i.pages.items) w.self-inside-is
          ∙ (paged_grow c.self.inside.len size old w.extend_pages.new.pages.items c.self.invariant
          (subst (λ n. AddsZeros old w.extend_pages.new.pages.items n) w.page_count.ensures w.in_ok-extend_pages.ensures.ok) (omega arith) c.requires).1
          ∙ ap (λ b. resized b size) c.self.view_is
    ]
