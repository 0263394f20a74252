use Rattle.std.proofs.Common.{◌≤◌, arith, sym, ◌∙◌, subst}
use Rattle.std.proofs.lemmas.Bool.{false≢true}
use Rattle.vr_wasm_run.specs.Machines.{program_of, config, Steps}
use Rattle.vr_wasm_run.specs.declared.progress.Progress.TheVariants.{Went, Over, Exited, Trapped}
use Rattle.vr_wasm_run.proofs.CostLemmas.{next_costs}
use Rattle.vr_wasm_run.proofs.ReachLemmas.{Reached, few_waiting, reached_first, reached_live, reached_never, reached_more, reached_entered, reached_straight, tells_short, tells_over, tells_exit, tells_trap, tells_end, tells_still, tells_trap_within, tells_short_within}
use Rattle.vr_wasm_run.proofs.machine.go_on.Goals as goal

pub going-init : goal.going-init
going-init g c = reached_first g.H.Host.world g.H.Host.stops g.H.Host.reply c.args.running c.args.fuel

pub straight-requires : goal.straight-requires
straight-requires g c = record {
  live = reached_never g.H.Host.world g.H.Host.stops g.H.Host.reply c.args.running c.args.fuel c.going.running c.going.left c.going.invariant c.requires.live;
}

pub returns-in-Trapped-clause-tells : goal.returns-in-Trapped-clause-tells
returns-in-Trapped-clause-tells g c =
    let within : c.in-Trapped.left ≤ c.going.left = c.in-Trapped.ensures.tells.1 in
    (omega (arith, c.in-Trapped.ensures.tells.0, within, c.going.invariant.count), tells_trap_within g.H.Host.world g.H.Host.stops g.H.Host.reply c.args.running c.args.fuel c.going.running c.going.left c.going.invariant c.in-Trapped.kind c.in-Trapped.left within c.in-Trapped.ensures.tells.2)

pub returns-in-Short-clause-tells : goal.returns-in-Short-clause-tells
returns-in-Short-clause-tells g c = tells_short_within g.H.Host.world g.H.Host.stops g.H.Host.reply c.args.running c.args.fuel c.going.running c.going.left c.going.invariant c.in-Short.ensures.tells

pub step-requires-clause-live : goal.step-requires-clause-live
step-requires-clause-live g c =
    let there : Reached g.H.Host.world g.H.Host.stops g.H.Host.reply c.args.running c.straight.new.self c.args.fuel c.in-Through.after = reached_straight g.H.Host.world g.H.Host.stops g.H.Host.reply c.args.running c.args.fuel c.going.running c.going.left c.going.invariant c.straight.new.self c.in-Through.after c.in-Through.ensures.tells.0 c.in-Through.ensures.others in
    reached_live g.H.Host.world g.H.Host.stops g.H.Host.reply c.args.running c.args.fuel c.straight.new.self c.in-Through.after there g.H.Host.finds c.requires.callable c.requires.live

pub going-preserved-in-None : goal.going-preserved-in-None
going-preserved-in-None g c =
    let there : Reached g.H.Host.world g.H.Host.stops g.H.Host.reply c.args.running c.straight.new.self c.args.fuel c.in-Through.after = reached_straight g.H.Host.world g.H.Host.stops g.H.Host.reply c.args.running c.args.fuel c.going.running c.going.left c.going.invariant c.straight.new.self c.in-Through.after c.in-Through.ensures.tells.0 c.in-Through.ensures.others in
    reached_entered g.H.Host.world g.H.Host.stops g.H.Host.reply c.args.running c.args.fuel c.straight.new.self c.in-Through.after there c.step.new.self c.in-None.ensures.entered

pub returns-then-cost-left-clause-tells : goal.returns-then-cost-left-clause-tells
returns-then-cost-left-clause-tells g c =
    let there : Reached g.H.Host.world g.H.Host.stops g.H.Host.reply c.args.running c.straight.new.self c.args.fuel c.in-Through.after = reached_straight g.H.Host.world g.H.Host.stops g.H.Host.reply c.args.running c.args.fuel c.going.running c.going.left c.going.invariant c.straight.new.self c.in-Through.after c.in-Through.ensures.tells.0 c.in-Through.ensures.others in
    let row : Steps g.H.Host.world g.H.Host.stops g.H.Host.reply c.straight.new.self (Went c.in-Went.cost) c.step.new.self = subst (λ x. Steps g.H.Host.world g.H.Host.stops g.H.Host.reply c.straight.new.self x c.step.new.self) c.in-Went.is c.in-Some.ensures.stepped in
    tells_short g.H.Host.world g.H.Host.stops g.H.Host.reply c.args.running c.args.fuel c.straight.new.self c.in-Through.after there c.step.new.self c.in-Went.cost row c.if-cost-left.true

pub going-smaller : goal.going-smaller
going-smaller g c =
    let row : Steps g.H.Host.world g.H.Host.stops g.H.Host.reply c.straight.new.self (Went c.in-Went.cost) c.step.new.self = subst (λ x. Steps g.H.Host.world g.H.Host.stops g.H.Host.reply c.straight.new.self x c.step.new.self) c.in-Went.is c.in-Some.ensures.stepped in
    let one : 1 ≤ c.in-Went.cost = next_costs (program_of g.H.Host.reply c.straight.new.self) (config g.H.Host.world c.straight.new.self) c.in-Went.cost (config g.H.Host.world c.step.new.self) row.row in
    omega (arith, one, c.if-cost-left.false, c.in-Through.ensures.tells.0.count, few_waiting c.step.new.self.first c.step.new.self.main)

pub going-preserved : goal.going-preserved
going-preserved g c =
    let there : Reached g.H.Host.world g.H.Host.stops g.H.Host.reply c.args.running c.straight.new.self c.args.fuel c.in-Through.after = reached_straight g.H.Host.world g.H.Host.stops g.H.Host.reply c.args.running c.args.fuel c.going.running c.going.left c.going.invariant c.straight.new.self c.in-Through.after c.in-Through.ensures.tells.0 c.in-Through.ensures.others in
    let row : Steps g.H.Host.world g.H.Host.stops g.H.Host.reply c.straight.new.self (Went c.in-Went.cost) c.step.new.self = subst (λ x. Steps g.H.Host.world g.H.Host.stops g.H.Host.reply c.straight.new.self x c.step.new.self) c.in-Went.is c.in-Some.ensures.stepped in
    reached_more g.H.Host.world g.H.Host.stops g.H.Host.reply c.args.running c.args.fuel c.straight.new.self c.in-Through.after there c.step.new.self c.in-Went.cost row c.if-cost-left.false

pub returns-in-Over-clause-tells : goal.returns-in-Over-clause-tells
returns-in-Over-clause-tells g c =
    let there : Reached g.H.Host.world g.H.Host.stops g.H.Host.reply c.args.running c.straight.new.self c.args.fuel c.in-Through.after = reached_straight g.H.Host.world g.H.Host.stops g.H.Host.reply c.args.running c.args.fuel c.going.running c.going.left c.going.invariant c.straight.new.self c.in-Through.after c.in-Through.ensures.tells.0 c.in-Through.ensures.others in
    let row : Steps g.H.Host.world g.H.Host.stops g.H.Host.reply c.straight.new.self (Over) c.step.new.self = subst (λ x. Steps g.H.Host.world g.H.Host.stops g.H.Host.reply c.straight.new.self x c.step.new.self) c.in-Over.is c.in-Some.ensures.stepped in
    (omega arith, tells_over g.H.Host.world g.H.Host.stops g.H.Host.reply c.args.running c.args.fuel c.straight.new.self c.in-Through.after there c.step.new.self c.into_host-in-Over.result row c.into_host-in-Over.ensures)

pub returns-in-Exited-clause-tells : goal.returns-in-Exited-clause-tells
returns-in-Exited-clause-tells g c =
    let there : Reached g.H.Host.world g.H.Host.stops g.H.Host.reply c.args.running c.straight.new.self c.args.fuel c.in-Through.after = reached_straight g.H.Host.world g.H.Host.stops g.H.Host.reply c.args.running c.args.fuel c.going.running c.going.left c.going.invariant c.straight.new.self c.in-Through.after c.in-Through.ensures.tells.0 c.in-Through.ensures.others in
    let row : Steps g.H.Host.world g.H.Host.stops g.H.Host.reply c.straight.new.self (Exited c.in-Exited.code) c.step.new.self = subst (λ x. Steps g.H.Host.world g.H.Host.stops g.H.Host.reply c.straight.new.self x c.step.new.self) c.in-Exited.is c.in-Some.ensures.stepped in
    (omega (arith, there.count, c.if-left-eq0.false), tells_exit g.H.Host.world g.H.Host.stops g.H.Host.reply c.args.running c.args.fuel c.straight.new.self c.in-Through.after there c.step.new.self c.in-Exited.code c.into_host-in-Exited.result row c.into_host-in-Exited.ensures)

pub returns-in-Trapped-progress-clause-tells : goal.returns-in-Trapped-progress-clause-tells
returns-in-Trapped-progress-clause-tells g c =
    let there : Reached g.H.Host.world g.H.Host.stops g.H.Host.reply c.args.running c.straight.new.self c.args.fuel c.in-Through.after = reached_straight g.H.Host.world g.H.Host.stops g.H.Host.reply c.args.running c.args.fuel c.going.running c.going.left c.going.invariant c.straight.new.self c.in-Through.after c.in-Through.ensures.tells.0 c.in-Through.ensures.others in
    let row : Steps g.H.Host.world g.H.Host.stops g.H.Host.reply c.straight.new.self (Trapped c.in-Trapped-progress.kind) c.step.new.self = subst (λ x. Steps g.H.Host.world g.H.Host.stops g.H.Host.reply c.straight.new.self x c.step.new.self) c.in-Trapped-progress.is c.in-Some.ensures.stepped in
    (omega (arith, there.count, c.if-left-eq0.false), tells_trap g.H.Host.world g.H.Host.stops g.H.Host.reply c.args.running c.args.fuel c.straight.new.self c.in-Through.after there c.step.new.self c.in-Trapped-progress.kind row)

pub returns-then-is_over-clause-tells : goal.returns-then-is_over-clause-tells
returns-then-is_over-clause-tells g c =
    let there : Reached g.H.Host.world g.H.Host.stops g.H.Host.reply c.args.running c.straight.new.self c.args.fuel c.in-Through.after = reached_straight g.H.Host.world g.H.Host.stops g.H.Host.reply c.args.running c.args.fuel c.going.running c.going.left c.going.invariant c.straight.new.self c.in-Through.after c.in-Through.ensures.tells.0 c.in-Through.ensures.others in
    let none : c.in-Through.after ≤ 0 = omega (arith, c.if-left-eq0.true) in
    (omega arith, tells_end g.H.Host.world g.H.Host.stops g.H.Host.reply c.args.running c.args.fuel c.straight.new.self c.in-Through.after there c.into_host-then-is_over.result none c.into_host-then-is_over.ensures (c.is_over.ensures.0 c.if-is_over.true))

pub returns-else-is_over-clause-tells : goal.returns-else-is_over-clause-tells
returns-else-is_over-clause-tells g c =
    let there : Reached g.H.Host.world g.H.Host.stops g.H.Host.reply c.args.running c.straight.new.self c.args.fuel c.in-Through.after = reached_straight g.H.Host.world g.H.Host.stops g.H.Host.reply c.args.running c.args.fuel c.going.running c.going.left c.going.invariant c.straight.new.self c.in-Through.after c.in-Through.ensures.tells.0 c.in-Through.ensures.others in
    let none : c.in-Through.after ≤ 0 = omega (arith, c.if-left-eq0.true) in
    tells_still g.H.Host.world g.H.Host.stops g.H.Host.reply c.args.running c.args.fuel c.straight.new.self c.in-Through.after there none (λ e. false≢true (sym c.if-is_over.false ∙ c.is_over.ensures.1 e))
