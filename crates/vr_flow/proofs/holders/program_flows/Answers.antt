-- One program more.
use Rattle.std.proofs.Common.{length}
use Rattle.vr_flow.specs.Holders.{observed_by_words, modified_by_words}
use Rattle.vr_rights.specs.declared.regions.Holder.TheVariants.{Program}
use Rattle.vr_flow.proofs.TableLemmas.{flows_push}
use Rattle.vr_flow.proofs.holders.program_flows.Goals as goal

pub loop-place-preserved : goal.loop-place-preserved
loop-place-preserved c =
    let regions = c.args.regions.now in
    rw c.in_ok-push.ensures.items (flows_push c.loop-place.place (length regions.names) (λ place. observed_by_words regions (Program place)) (λ place. modified_by_words regions (Program place))
    c.loop-place.flows.items c.in_ok-word_flow.field-0 c.loop-place.invariant c.in_ok-word_flow.ensures)
