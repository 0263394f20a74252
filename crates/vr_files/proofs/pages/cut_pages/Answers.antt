use Rattle.std.proofs.Common.{◌≡◌, ◌+◌, ◌-◌, ◌%◌, ◌++◌, replicate, take, set, ap, sym, subst, ◌∙◌, arith}
use Rattle.vr_files.specs.PageLists.{Cuts}
use Rattle.vr_files.specs.declared.pages.TheConstants.{PAGE}
use Rattle.vr_files.proofs.PageLemmas.{cuts_whole, cuts_within}
use Rattle.vr_files.proofs.pages.cut_pages.Goals as goal
use Rattle.vr_files.proofs.pages.cut_pages.Goals.{then-rest-ne0+in_ok-last, else-rest-ne0}

pub returns-clause-ok : goal.returns-clause-ok
returns-clause-ok c =
    let old = c.args.pages.now.items in
    let size = c.args.size in
    let count = c.page_count-count.result in
    elim c.if-rest-ne0.branch [
      | then-rest-ne0+in_ok-last w ↦
          let k = count - 1 in
          let last = w.in_ok-last.last in
          let page = w.index.result.now in
          let next : k + 1 ≡ count = omega arith in
          let bytes : last.value.bytes ≡ take (size % 4096) page.value.bytes ++ replicate (PAGE - size % 4096) 0 =
          w.in_ok-last.ensures.bytes ∙ ap (λ p. take (size % 4096) p.bytes ++ replicate (PAGE - size % 4096) 0) w.deref.ensures in
          subst (λ x. Cuts old x size) (ap (λ n. take n (set old k last)) next ∙ sym (c.truncate.ensures.items ∙ ap (λ v. take count v.items) w.pages-is))
          (cuts_within old k (size % 4096) size page last c.requires.full (omega arith) w.index.ensures (omega arith) (omega arith) (next ∙ c.page_count-count.ensures)
          w.in_ok-last.ensures.len bytes)
      | else-rest-ne0 w ↦
          subst (λ x. Cuts old x size) (sym (c.truncate.ensures.items ∙ ap (λ v. take count v.items) w.pages-is))
          (cuts_whole old count size c.requires.full (omega arith) (omega arith) c.page_count-count.ensures)
    ]
