use Rattle.std.proofs.Common.{rules, ◌≡◌, ◌+◌, ◌-◌, ◌/◌, ◌%◌, ◌≤◌, ◌++◌, length, take, drop, ap, sym, ◌∙◌, arith}
use Rattle.std.proofs.lemmas.List.{drop-drop, length-take, length-drop}
use Rattle.std.proofs.Math.Seq.{take-add}
use Rattle.std.proofs.lemmas.Slice.{take-put_mid, overwrites}
use Rattle.vr_files.specs.PageLists.{bytes_of}
use Rattle.vr_files.proofs.PageLemmas.{part_of_page}
use Rattle.vr_files.proofs.pages.read_pages.Goals as goal

pub loop-done-preserved : goal.loop-done-preserved
loop-done-preserved c =
    let at = c.args.at in
    let done = c.loop-done.done in
    let count = c.min-count.result in
    let k = (at + done) / 4096 in
    let from = (at + done) % 4096 in
    let pages = c.args.pages.now in
    let page = c.index-pages-at.result in
    let all = drop at (bytes_of pages) in
    let copied = c.copy_from_slice.ensures.after in
    let seen = c.deref.ensures in
    let part : take count (drop done all) ≡ take count (drop from page.value.bytes) =
    ap (λ x. take count x) (drop-drop done at (bytes_of pages) ∙ ap (λ n. drop n (bytes_of pages)) (omega arith))
    ∙ part_of_page pages k from count page c.requires.full (omega arith) c.index-pages-at.is (omega (arith, c.min-count.ensures)) in
    let size : done + count - done ≡ count = omega arith in
    let new : c.copy_from_slice.new.self ≡ take count (drop from page.value.bytes) =
    copied ∙ ap (λ p. take (from + count - from) (drop from p.bytes)) seen ∙ ap (λ n. take n (drop from page.value.bytes)) (omega arith) in
    let within : done + count ≤ length c.loop-done.into = omega (arith, c.min-count.ensures) in
    let long : length c.copy_from_slice.new.self ≡ count = omega (arith, c.copy_from_slice.ensures.len, length-take (done + count - done) (drop done c.loop-done.into), length-drop done c.loop-done.into) in
    record {
      within = search (rules, overwrites);
      read =
          take-put_mid done (done + count - done) c.loop-done.into c.copy_from_slice.new.self (done + count) (ap (λ n. done + n) (sym long)) (omega arith)
          ∙ ap (λ x. x ++ c.copy_from_slice.new.self) c.loop-done.invariant.read ∙ ap (λ x. take done all ++ x) (new ∙ sym part) ∙ sym (take-add done count all);
    }
