use Rattle.std.proofs.Common.{◌≡◌, ◌+◌, ◌-◌, ◌/◌, ◌%◌, ◌++◌, length, take, drop, ap, sym, subst, ◌∙◌, arith}
use Rattle.std.proofs.lemmas.List.{take_at}
use Rattle.vr_files.specs.PageLists.{bytes_of, AreFull, Overwrites}
use Rattle.vr_files.proofs.PageLemmas.{overwrites}
use Rattle.vr_files.proofs.pages.write_over_copies.Goals as goal

pub returns-in-Ok-clause-ok : goal.returns-in-Ok-clause-ok
returns-in-Ok-clause-ok c =
    let at = c.args.at in
    let piece = c.args.piece.now in
    let first = at / 4096 in
    let last = c.page_count-last.result in
    let long = c.extend_pages.new.pages.items in
    let others = c.deref_mut-in-Ok.result.now in
    let same : others ≡ c.in-Ok.fresh.items = c.deref_mut-in-Ok.ensures.value in
    let made : c.replace.new.pages ≡ take first long ++ others ++ drop (first + length others) long =
    c.replace.ensures ∙ ap (λ x. take first x ++ others ++ drop (first + length others) x) c.deref_mut.ensures.value in
    let whole = overwrites c.args.pages.now.items long (take (last - first) (drop first c.deref.result.now)) others c.replace.new.pages at first last (at % 4096) piece
    c.requires.full c.in_ok-extend_pages.ensures.ok c.page_count-last.ensures (omega arith) (omega arith) (omega arith)
    (ap (λ x. take (last - first) (drop first x)) c.deref.ensures.value)
    (subst AreFull (sym same) c.in-Ok.ensures.full) (ap length same ∙ c.in-Ok.ensures.count) (ap bytes_of same ∙ c.in-Ok.ensures.bytes) made in
    subst (λ x. Overwrites c.args.pages.now.items x at piece) (sym (take_at c.replace.new.pages _ c.extend_pages.new.pages.len (omega (arith, c.replace.auto.pages, c.deref_mut.ensures.len)))) whole
