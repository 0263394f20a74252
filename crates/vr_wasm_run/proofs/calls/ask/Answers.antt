use Rattle.std.proofs.Common.{◌≡◌, ◌∷◌, reverse, take, drop, ap, sym, ◌∙◌, arith}
use Rattle.vr_wasm_stacks.specs.Positions.{with_operands, with_code}
use Rattle.vr_wasm_run.specs.Calls.{arguments, answered_at}
use Rattle.vr_wasm_run.proofs.ReplyLemmas.{one_result, value_replied, nothing_replied}
use Rattle.vr_wasm_run.proofs.calls.ask.Goals as goal

pub push-requires : goal.push-requires
push-requires g c =
    let asked : c.last.result.now ≡ arguments c.args.sort.now c.args.stacks.now = c.last.ensures ∙ ap (λ n. reverse (take n c.args.stacks.now.operands)) c.len-params.ensures in
    let fits = g.met.H.Host.replies_fit c.requires.found.0 c.requires.found.1 c.args.sort.now c.args.which (g.H.Host.world c.args.host.now) (arguments c.args.sort.now c.args.stacks.now) c.args.memory.now c.requires.found.2 c.requires.typed in
    let told = ap (λ x. g.H.Host.reply (g.H.Host.world c.args.host.now) c.args.which x c.args.memory.now) (sym asked) ∙ c.in-Value.ensures.answer in
    omega (arith, one_result c.args.memory.now c.call.new.memory (g.H.Host.world c.call.new.self) c.args.sort.now.results c.in-Value.value (g.H.Host.reply (g.H.Host.world c.args.host.now) c.args.which (arguments c.args.sort.now c.args.stacks.now) c.args.memory.now) told fits, c.drop_last.ensures.slots, c.len-params.ensures, c.requires.room)

pub returns-in-Value-clause-replied : goal.returns-in-Value-clause-replied
returns-in-Value-clause-replied g c =
    let asked : c.last.result.now ≡ arguments c.args.sort.now c.args.stacks.now = c.last.ensures ∙ ap (λ n. reverse (take n c.args.stacks.now.operands)) c.len-params.ensures in
    let fits = g.met.H.Host.replies_fit c.requires.found.0 c.requires.found.1 c.args.sort.now c.args.which (g.H.Host.world c.args.host.now) (arguments c.args.sort.now c.args.stacks.now) c.args.memory.now c.requires.found.2 c.requires.typed in
    let told = ap (λ x. g.H.Host.reply (g.H.Host.world c.args.host.now) c.args.which x c.args.memory.now) (sym asked) ∙ c.in-Value.ensures.answer in
    let there =
    c.advance.ensures
    ∙ ap (λ x. with_code x c.args.rest.now) (c.push.ensures ∙ ap (λ x. with_operands x (c.in-Value.value ∷ x.operands)) (c.drop_last.ensures.values ∙ ap (λ n. with_operands c.args.stacks.now (drop n c.args.stacks.now.operands)) c.len-params.ensures))
    in
    value_replied c.args.memory.now c.call.new.memory (g.H.Host.world c.call.new.self) (answered_at c.args.sort.now c.args.stacks.now c.args.rest.now) c.advance.new.self c.args.sort.now.results c.in-Value.value (g.H.Host.reply (g.H.Host.world c.args.host.now) c.args.which (arguments c.args.sort.now c.args.stacks.now) c.args.memory.now) told fits there

pub returns-in-Nothing-clause-replied : goal.returns-in-Nothing-clause-replied
returns-in-Nothing-clause-replied g c =
    let asked : c.last.result.now ≡ arguments c.args.sort.now c.args.stacks.now = c.last.ensures ∙ ap (λ n. reverse (take n c.args.stacks.now.operands)) c.len-params.ensures in
    let fits = g.met.H.Host.replies_fit c.requires.found.0 c.requires.found.1 c.args.sort.now c.args.which (g.H.Host.world c.args.host.now) (arguments c.args.sort.now c.args.stacks.now) c.args.memory.now c.requires.found.2 c.requires.typed in
    let told = ap (λ x. g.H.Host.reply (g.H.Host.world c.args.host.now) c.args.which x c.args.memory.now) (sym asked) ∙ c.in-Nothing.ensures.answer in
    let there = c.advance-in-Nothing.ensures ∙ ap (λ x. with_code x c.args.rest.now) (c.drop_last-in-Nothing.ensures.values ∙ ap (λ n. with_operands c.args.stacks.now (drop n c.args.stacks.now.operands)) c.len-params.ensures) in
    nothing_replied c.args.memory.now c.call.new.memory (g.H.Host.world c.call.new.self) (answered_at c.args.sort.now c.args.stacks.now c.args.rest.now) c.advance-in-Nothing.new.self c.args.sort.now.results (g.H.Host.reply (g.H.Host.world c.args.host.now) c.args.which (arguments c.args.sort.now c.args.stacks.now) c.args.memory.now) told fits there
