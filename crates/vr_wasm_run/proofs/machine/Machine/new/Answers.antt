use Rattle.vr_wasm_link.specs.Opened.{program_in, store_in}
use Rattle.vr_wasm_run.proofs.LinkedLemmas.{linked_callable}
use Rattle.vr_wasm_run.proofs.machine.Machine.new.Goals as goal

pub opened-requires-clause-callable : goal.opened-requires-clause-callable
opened-requires-clause-callable g c =
    linked_callable g.H.Host.finds c.args.linked.tree (program_in c.in-Ok.opened g.H.Host.reply) (store_in c.in-Ok.opened) c.in-Ok.ensures.linked

pub opened-requires-clause-live : goal.opened-requires-clause-live
opened-requires-clause-live g c =
    c.programs_never_lost.ensures c.args.linked.tree (program_in c.in-Ok.opened g.H.Host.reply) (store_in c.in-Ok.opened)
    (g.H.Host.world c.args.host) c.in-Ok.opened.start c.in-Ok.opened.main
    c.in-Ok.ensures.linked c.in-Ok.ensures.begins.start c.in-Ok.ensures.begins.main
