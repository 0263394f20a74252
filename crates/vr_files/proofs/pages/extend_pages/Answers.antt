use Rattle.std.proofs.Common.{arith}
use Rattle.vr_files.proofs.PageLemmas.{adds_clones}
use Rattle.vr_files.proofs.pages.extend_pages.Goals as goal

pub returns-in_ok-resize-clause-ok : goal.returns-in_ok-resize-clause-ok
returns-in_ok-resize-clause-ok c =
    adds_clones c.args.pages.now.items c.resize.new.self.items c.args.count c.in_ok-zeros.zeros c.in_ok-zeros.ensures (omega arith) (omega (arith, c.in_ok-resize.ensures.len)) c.in_ok-resize.ensures.items
