use Rattle.std.proofs.Common.{◌<◌, ◌/◌, ◌%◌, length, arith}
use Rattle.vr_files.proofs.PageLemmas.{overwrites_in_page}
use Rattle.vr_files.proofs.pages.write_in_page.Goals as goal

pub returns-then-piece-from-clause-written : goal.returns-then-piece-from-clause-written
returns-then-piece-from-clause-written c = λ is_written.
    let old = c.args.pages.now.items in
    let at = c.args.at in
    let page = c.index_mut.result.now in
    let there : at / 4096 < length old = omega arith in
    overwrites_in_page old (at / 4096) (at % 4096) at page c.write_in_place.new.page c.args.piece.now c.requires there c.index_mut.ensures.value (omega arith) (omega arith)
    (c.write_in_place.ensures.full is_written) (c.write_in_place.ensures.written is_written)
