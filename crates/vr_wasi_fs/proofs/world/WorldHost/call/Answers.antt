use Rattle.std.proofs.Common.{subst}
use Rattle.vr_wasi_calls.specs.Replies.{replied, reply}
use Rattle.vr_wasi_calls.specs.declared.functions.Function.{Function}
use Rattle.vr_wasi_fs.specs.Isolation.{answer_changes, answer_isolated}
use Rattle.vr_wasm_steps.specs.Hosts.{IsReply}
use Rattle.vr_wasi_fs.proofs.world.WorldHost.call.Goals as goal
use Rattle.vr_wasi_fs.proofs.world.WorldHost.call.Goals.{In-Ok}

-- what was answered is the reply of the function of the number
given : (c : In-Ok) → IsReply (reply c.args.self.now.state c.args.which c.args.args.now
    c.args.memory.now) c.in-Ok.answer c.reply.new.memory c.reply.new.self
given c =
    let Given : Function → Type 0 = λ f. IsReply
    (replied c.args.self.now.state c.args.memory.now f c.args.args.now) c.in-Ok.answer
    c.reply.new.memory c.reply.new.self in
    subst Given c.function_of.ensures c.in-Ok.ensures.ok

pub returns-in-Ok-clause-isolated : goal.returns-in-Ok-clause-isolated
returns-in-Ok-clause-isolated c =
    answer_isolated c.args.self.now.state c.args.which c.args.args.now c.args.memory.now
    c.in-Ok.answer c.reply.new.memory c.reply.new.self
    c.known.ensures (given (goal.at.returns-in-Ok-clause-isolated c).In-Ok)

pub returns-in-Ok-clause-changes : goal.returns-in-Ok-clause-changes
returns-in-Ok-clause-changes c =
    answer_changes c.args.self.now.state c.args.which c.args.args.now c.args.memory.now
    c.in-Ok.answer c.reply.new.memory c.reply.new.self
    c.known.ensures (given (goal.at.returns-in-Ok-clause-changes c).In-Ok) (λ stopped. absurd
    (c.in-Ok.ensures.given stopped))
