use Rattle.std.proofs.Common.{ap, sym, ◌∙◌, subst}
use Rattle.vr_wasm_steps.specs.Runs.{NeverLost, start}
use Rattle.vr_wasm_stacks.specs.Positions.{term_of}
use Rattle.vr_wasm_link.specs.Opened.{program_in, store_in}
use Rattle.vr_wasm_run.proofs.OutsideLemmas.{outside_term}
use Rattle.vr_wasm_run.proofs.machine.Machine.opened.Goals as goal

pub invariant_of-result : goal.invariant_of-result
invariant_of-result g c = record {
  callable = c.requires.callable;
  live = subst (NeverLost (program_in c.args.opened g.H.Host.reply)) (sym (ap (λ x. record (start (store_in c.args.opened) (g.H.Host.world c.args.host) c.args.opened.start c.args.opened.main) { term = x }) (ap term_of c.in-Ok.ensures ∙ outside_term))) c.requires.live;
}

pub returns-in-Ok-clause-begins : goal.returns-in-Ok-clause-begins
returns-in-Ok-clause-begins g c = ap (λ x. record (start (store_in c.args.opened) (g.H.Host.world c.args.host) c.args.opened.start c.args.opened.main) { term = x }) (ap term_of c.in-Ok.ensures ∙ outside_term)
