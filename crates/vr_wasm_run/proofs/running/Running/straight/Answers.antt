use Rattle.std.proofs.Common.{◌≡◌, ◌∷◌, ◌-◌, take, drop, length, Ok, Err, arith, sym, subst}
use Rattle.vr_wasm_ast.specs.Instructions.{instruction_of}
use Rattle.vr_wasm_run.specs.States.{Makes, effect_of}
use Rattle.vr_wasm_run.proofs.StraightLemmas.{Strides, headed, strides_first, stride_ready, stride_more, stride_short, stride_trapped, stride_none}
use Rattle.vr_wasm_run.proofs.running.Running.straight.Goals as goal

pub loop-code-init : goal.loop-code-init
loop-code-init g c =
    subst (λ x. Strides g.H.Host.world g.H.Host.reply c.args.self.now c.args.self.now x c.args.fuel c.args.fuel) (sym c.code-code.ensures.code)
    (strides_first g.H.Host.world g.H.Host.reply c.args.self.now c.args.fuel)

pub apply-requires : goal.apply-requires
apply-requires g c =
    let head : c.loop-code.code.now ≡ c.instr-item.result ∷ take (length c.loop-code.code.now - 1) (drop 1 c.loop-code.code.now) = headed c.loop-code.code.now c.instr-item.result (omega (arith, c.in-len1-up.len_at_least)) c.instr-item.is in
    record {
      ready = λ ordinary. stride_ready g.H.Host.world g.H.Host.reply c.args.self.now c.args.fuel c.requires.live c.loop-code.self c.loop-code.code.now c.loop-code.left c.loop-code.invariant c.instr-item.result (take (length c.loop-code.code.now - 1) (drop 1 c.loop-code.code.now)) head ordinary c.code.ensures.rooted c.code.ensures.slots;
    }

pub loop-code-preserved : goal.loop-code-preserved
loop-code-preserved g c =
    let head : c.loop-code.code.now ≡ c.instr-item.result ∷ take (length c.loop-code.code.now - 1) (drop 1 c.loop-code.code.now) = headed c.loop-code.code.now c.instr-item.result (omega (arith, c.in-len1-up.len_at_least)) c.instr-item.is in
    let made : Makes c.loop-code.self.state (effect_of c.loop-code.self.state (instruction_of c.instr-item.result)) (Ok c.in-Ok.cost) c.apply.new.self = subst (λ r. Makes c.loop-code.self.state (effect_of c.loop-code.self.state (instruction_of c.instr-item.result)) r c.apply.new.self) c.in-Ok.is c.in-Some.ensures.1 in
    stride_more g.H.Host.world g.H.Host.reply c.args.self.now c.args.fuel c.requires.live c.loop-code.self c.loop-code.code.now c.loop-code.left c.loop-code.invariant c.instr-item.result (take (length c.loop-code.code.now - 1) (drop 1 c.loop-code.code.now)) head c.in-Some.ensures.0 c.code.ensures.rooted c.code.ensures.slots c.in-Ok.cost c.apply.new.self made c.if-cost-left.false

pub returns-then-cost-left-clause-tells : goal.returns-then-cost-left-clause-tells
returns-then-cost-left-clause-tells g c =
    let head : c.loop-code.code.now ≡ c.instr-item.result ∷ take (length c.loop-code.code.now - 1) (drop 1 c.loop-code.code.now) = headed c.loop-code.code.now c.instr-item.result (omega (arith, c.in-len1-up.len_at_least)) c.instr-item.is in
    let made : Makes c.loop-code.self.state (effect_of c.loop-code.self.state (instruction_of c.instr-item.result)) (Ok c.in-Ok.cost) c.apply.new.self = subst (λ r. Makes c.loop-code.self.state (effect_of c.loop-code.self.state (instruction_of c.instr-item.result)) r c.apply.new.self) c.in-Ok.is c.in-Some.ensures.1 in
    stride_short g.H.Host.world g.H.Host.reply c.args.self.now c.args.fuel c.requires.live c.loop-code.self c.loop-code.code.now c.loop-code.left c.loop-code.invariant c.instr-item.result (take (length c.loop-code.code.now - 1) (drop 1 c.loop-code.code.now)) head c.in-Some.ensures.0 c.code.ensures.rooted c.code.ensures.slots c.in-Ok.cost c.apply.new.self made c.if-cost-left.true

pub returns-then-left-eq0-clause-tells : goal.returns-then-left-eq0-clause-tells
returns-then-left-eq0-clause-tells g c =
    let head : c.loop-code.code.now ≡ c.instr-item.result ∷ take (length c.loop-code.code.now - 1) (drop 1 c.loop-code.code.now) = headed c.loop-code.code.now c.instr-item.result (omega (arith, c.in-len1-up.len_at_least)) c.instr-item.is in
    let made : Makes c.loop-code.self.state (effect_of c.loop-code.self.state (instruction_of c.instr-item.result)) (Err c.in-Err.trap) c.apply.new.self = subst (λ r. Makes c.loop-code.self.state (effect_of c.loop-code.self.state (instruction_of c.instr-item.result)) r c.apply.new.self) c.in-Err.is c.in-Some.ensures.1 in
    stride_none g.H.Host.world g.H.Host.reply c.args.self.now c.args.fuel c.requires.live c.loop-code.self c.loop-code.code.now c.loop-code.left c.loop-code.invariant c.instr-item.result (take (length c.loop-code.code.now - 1) (drop 1 c.loop-code.code.now)) head c.in-Some.ensures.0 c.code.ensures.rooted c.code.ensures.slots c.in-Err.trap c.apply.new.self made c.if-left-eq0.true

pub returns-in-Err-clause-tells : goal.returns-in-Err-clause-tells
returns-in-Err-clause-tells g c =
    let head : c.loop-code.code.now ≡ c.instr-item.result ∷ take (length c.loop-code.code.now - 1) (drop 1 c.loop-code.code.now) = headed c.loop-code.code.now c.instr-item.result (omega (arith, c.in-len1-up.len_at_least)) c.instr-item.is in
    let made : Makes c.loop-code.self.state (effect_of c.loop-code.self.state (instruction_of c.instr-item.result)) (Err c.in-Err.trap) c.apply.new.self = subst (λ r. Makes c.loop-code.self.state (effect_of c.loop-code.self.state (instruction_of c.instr-item.result)) r c.apply.new.self) c.in-Err.is c.in-Some.ensures.1 in
    (omega arith, omega (arith, c.loop-code.invariant.leads.count), stride_trapped g.H.Host.world g.H.Host.reply c.args.self.now c.args.fuel c.requires.live c.loop-code.self c.loop-code.code.now c.loop-code.left c.loop-code.invariant c.instr-item.result (take (length c.loop-code.code.now - 1) (drop 1 c.loop-code.code.now)) head c.in-Some.ensures.0 c.code.ensures.rooted c.code.ensures.slots c.in-Err.trap c.apply.new.self made)
