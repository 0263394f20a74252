use Rattle.std.proofs.Common.{◌≡◌, ◌≢◌, ◌<◌, [], length, slice_get, Some, refl, ap, sym, ◌∙◌, subst, arith}
use Rattle.vr_wasm_ast.specs.Instructions.{instructions_of}
use Rattle.vr_wasm_link.specs.Functions.{function_of}
use Rattle.vr_wasm_steps.specs.Rows.{own, outside as of_host, called_from_outside, entry, lost, next}
use Rattle.vr_wasm_stacks.specs.Positions.{term_of, outside}
use Rattle.vr_wasm_run.specs.Calls.{HasArguments, IsCallable, IsCalled}
use Rattle.vr_wasm_run.specs.Configs.{config_of}
use Rattle.vr_wasm_run.specs.Machines.{IsRow, program_of, config, waiting}
use Rattle.vr_wasm_run.proofs.FunctionLemmas.{function_at, function_within}
use Rattle.vr_wasm_run.proofs.OutsideLemmas.{entered_term, outside_over, outside_next, outside_found, host_arguments, host_row, arguments_here, called_there}
use Rattle.vr_wasm_run.proofs.ProgressLemmas.{as_many, over_itself}
use Rattle.vr_wasm_run.proofs.running.Running.outside.Goals as goal

pub returns-in-None-clause-stepped : goal.returns-in-None-clause-stepped
returns-in-None-clause-stepped g c =
    record {
      row = (outside_over (program_of g.H.Host.reply c.args.self.now) (config g.H.Host.world c.args.self.now) c.args.self.now.state.stacks refl c.requires.rooted c.requires.ended c.requires.outside (c.in-None.ensures.none refl), refl);
      program = refl;
      counted = as_many (g.H.Host.stops c.args.self.now.host);
      stopped = λ e. absurd (over_itself e);
    }

pub index-callee-requires : goal.index-callee-requires
index-callee-requires g c =
    let into : next (program_of g.H.Host.reply c.args.self.now) (config g.H.Host.world c.args.self.now) ≡ next (program_of g.H.Host.reply c.args.self.now) (entry (program_of g.H.Host.reply c.args.self.now) (config g.H.Host.world c.args.self.now) c.in-Some.at (waiting c.take_waiting.new.first c.take_waiting.new.main)) = outside_next (program_of g.H.Host.reply c.args.self.now) (config g.H.Host.world c.args.self.now) c.args.self.now.state.stacks refl c.requires.rooted c.requires.ended c.requires.outside c.in-Some.at (waiting c.take_waiting.new.first c.take_waiting.new.main) c.in-Some.ensures.waiting in
    let live : next (program_of g.H.Host.reply c.args.self.now) (entry (program_of g.H.Host.reply c.args.self.now) (config g.H.Host.world c.args.self.now) c.in-Some.at (waiting c.take_waiting.new.first c.take_waiting.new.main)) ≢ lost = λ e. c.requires.live.live (into ∙ e) in
    let place : c.in-Some.at < length c.args.self.now.functions.items = function_within c.args.self.now.functions.items c.in-Some.at (outside_found (program_of g.H.Host.reply c.args.self.now) (config g.H.Host.world c.args.self.now) c.in-Some.at (waiting c.take_waiting.new.first c.take_waiting.new.main) live) in
    omega (arith, place)

pub enter_outside-requires-clause-results : goal.enter_outside-requires-clause-results
enter_outside-requires-clause-results g c =
    let into : next (program_of g.H.Host.reply c.args.self.now) (config g.H.Host.world c.args.self.now) ≡ next (program_of g.H.Host.reply c.args.self.now) (entry (program_of g.H.Host.reply c.args.self.now) (config g.H.Host.world c.args.self.now) c.in-Some.at (waiting c.take_waiting.new.first c.take_waiting.new.main)) = outside_next (program_of g.H.Host.reply c.args.self.now) (config g.H.Host.world c.args.self.now) c.args.self.now.state.stacks refl c.requires.rooted c.requires.ended c.requires.outside c.in-Some.at (waiting c.take_waiting.new.first c.take_waiting.new.main) c.in-Some.ensures.waiting in
    let live : next (program_of g.H.Host.reply c.args.self.now) (entry (program_of g.H.Host.reply c.args.self.now) (config g.H.Host.world c.args.self.now) c.in-Some.at (waiting c.take_waiting.new.first c.take_waiting.new.main)) ≢ lost = λ e. c.requires.live.live (into ∙ e) in
    let place : c.in-Some.at < length c.args.self.now.functions.items = function_within c.args.self.now.functions.items c.in-Some.at (outside_found (program_of g.H.Host.reply c.args.self.now) (config g.H.Host.world c.args.self.now) c.in-Some.at (waiting c.take_waiting.new.first c.take_waiting.new.main) live) in
    let found : slice_get (program_of g.H.Host.reply c.args.self.now).functions c.in-Some.at ≡ Some (function_of c.index-callee.result.now) = function_at c.args.self.now.functions.items c.in-Some.at c.index-callee.result.now place c.index-callee.ensures in
    let is : function_of c.index-callee.result.now ≡ (own c.in-Own.sort.now c.in-Own.locals (instructions_of c.in-Own.body.now)) = ap function_of c.in-Own.is in
    let can : IsCallable g.H.Host.finds (function_of c.index-callee.result.now) = c.requires.live.callable c.in-Some.at (function_of c.index-callee.result.now) found in
    let fits : IsCallable g.H.Host.finds (own c.in-Own.sort.now c.in-Own.locals (instructions_of c.in-Own.body.now)) = subst (IsCallable g.H.Host.finds) is can in
    fits.0

pub enter_outside-requires-clause-locals : goal.enter_outside-requires-clause-locals
enter_outside-requires-clause-locals g c =
    let into : next (program_of g.H.Host.reply c.args.self.now) (config g.H.Host.world c.args.self.now) ≡ next (program_of g.H.Host.reply c.args.self.now) (entry (program_of g.H.Host.reply c.args.self.now) (config g.H.Host.world c.args.self.now) c.in-Some.at (waiting c.take_waiting.new.first c.take_waiting.new.main)) = outside_next (program_of g.H.Host.reply c.args.self.now) (config g.H.Host.world c.args.self.now) c.args.self.now.state.stacks refl c.requires.rooted c.requires.ended c.requires.outside c.in-Some.at (waiting c.take_waiting.new.first c.take_waiting.new.main) c.in-Some.ensures.waiting in
    let live : next (program_of g.H.Host.reply c.args.self.now) (entry (program_of g.H.Host.reply c.args.self.now) (config g.H.Host.world c.args.self.now) c.in-Some.at (waiting c.take_waiting.new.first c.take_waiting.new.main)) ≢ lost = λ e. c.requires.live.live (into ∙ e) in
    let place : c.in-Some.at < length c.args.self.now.functions.items = function_within c.args.self.now.functions.items c.in-Some.at (outside_found (program_of g.H.Host.reply c.args.self.now) (config g.H.Host.world c.args.self.now) c.in-Some.at (waiting c.take_waiting.new.first c.take_waiting.new.main) live) in
    let found : slice_get (program_of g.H.Host.reply c.args.self.now).functions c.in-Some.at ≡ Some (function_of c.index-callee.result.now) = function_at c.args.self.now.functions.items c.in-Some.at c.index-callee.result.now place c.index-callee.ensures in
    let is : function_of c.index-callee.result.now ≡ (own c.in-Own.sort.now c.in-Own.locals (instructions_of c.in-Own.body.now)) = ap function_of c.in-Own.is in
    let can : IsCallable g.H.Host.finds (function_of c.index-callee.result.now) = c.requires.live.callable c.in-Some.at (function_of c.index-callee.result.now) found in
    let fits : IsCallable g.H.Host.finds (own c.in-Own.sort.now c.in-Own.locals (instructions_of c.in-Own.body.now)) = subst (IsCallable g.H.Host.finds) is can in
    fits.1

pub returns-in-Own-clause-entered : goal.returns-in-Own-clause-entered
returns-in-Own-clause-entered g c =
    let into : next (program_of g.H.Host.reply c.args.self.now) (config g.H.Host.world c.args.self.now) ≡ next (program_of g.H.Host.reply c.args.self.now) (entry (program_of g.H.Host.reply c.args.self.now) (config g.H.Host.world c.args.self.now) c.in-Some.at (waiting c.take_waiting.new.first c.take_waiting.new.main)) = outside_next (program_of g.H.Host.reply c.args.self.now) (config g.H.Host.world c.args.self.now) c.args.self.now.state.stacks refl c.requires.rooted c.requires.ended c.requires.outside c.in-Some.at (waiting c.take_waiting.new.first c.take_waiting.new.main) c.in-Some.ensures.waiting in
    let live : next (program_of g.H.Host.reply c.args.self.now) (entry (program_of g.H.Host.reply c.args.self.now) (config g.H.Host.world c.args.self.now) c.in-Some.at (waiting c.take_waiting.new.first c.take_waiting.new.main)) ≢ lost = λ e. c.requires.live.live (into ∙ e) in
    let place : c.in-Some.at < length c.args.self.now.functions.items = function_within c.args.self.now.functions.items c.in-Some.at (outside_found (program_of g.H.Host.reply c.args.self.now) (config g.H.Host.world c.args.self.now) c.in-Some.at (waiting c.take_waiting.new.first c.take_waiting.new.main) live) in
    let found : slice_get (program_of g.H.Host.reply c.args.self.now).functions c.in-Some.at ≡ Some (function_of c.index-callee.result.now) = function_at c.args.self.now.functions.items c.in-Some.at c.index-callee.result.now place c.index-callee.ensures in
    let is : function_of c.index-callee.result.now ≡ (own c.in-Own.sort.now c.in-Own.locals (instructions_of c.in-Own.body.now)) = ap function_of c.in-Own.is in
    let entered : called_from_outside (slice_get (program_of g.H.Host.reply c.args.self.now).functions c.in-Some.at) c.in-Some.at ≡ term_of c.enter_outside.new.stacks =
    ap (λ x. called_from_outside x c.in-Some.at) (found ∙ ap Some is)
    ∙ sym (ap term_of c.enter_outside.ensures ∙ entered_term c.in-Own.sort.now c.in-Own.locals c.in-Own.body.now c.in-Some.at)
    in
    let same : next (program_of g.H.Host.reply c.args.self.now) (config g.H.Host.world c.args.self.now) ≡ next (program_of g.H.Host.reply c.args.self.now) (record (config g.H.Host.world c.args.self.now) { term = term_of c.enter_outside.new.stacks; calls = (waiting c.take_waiting.new.first c.take_waiting.new.main) }) =
    into ∙ ap (λ x. next (program_of g.H.Host.reply c.args.self.now) (record (config g.H.Host.world c.args.self.now) { term = x; calls = (waiting c.take_waiting.new.first c.take_waiting.new.main) })) entered
    in
    record {
      same = sym same;
      program = refl;
      host = refl;
      fewer = omega (arith, ap length c.in-Some.ensures.waiting);
    }

pub invoke-requires-clause-callable : goal.invoke-requires-clause-callable
invoke-requires-clause-callable g c =
    let into : next (program_of g.H.Host.reply c.args.self.now) (config g.H.Host.world c.args.self.now) ≡ next (program_of g.H.Host.reply c.args.self.now) (entry (program_of g.H.Host.reply c.args.self.now) (config g.H.Host.world c.args.self.now) c.in-Some.at (waiting c.take_waiting.new.first c.take_waiting.new.main)) = outside_next (program_of g.H.Host.reply c.args.self.now) (config g.H.Host.world c.args.self.now) c.args.self.now.state.stacks refl c.requires.rooted c.requires.ended c.requires.outside c.in-Some.at (waiting c.take_waiting.new.first c.take_waiting.new.main) c.in-Some.ensures.waiting in
    let live : next (program_of g.H.Host.reply c.args.self.now) (entry (program_of g.H.Host.reply c.args.self.now) (config g.H.Host.world c.args.self.now) c.in-Some.at (waiting c.take_waiting.new.first c.take_waiting.new.main)) ≢ lost = λ e. c.requires.live.live (into ∙ e) in
    let place : c.in-Some.at < length c.args.self.now.functions.items = function_within c.args.self.now.functions.items c.in-Some.at (outside_found (program_of g.H.Host.reply c.args.self.now) (config g.H.Host.world c.args.self.now) c.in-Some.at (waiting c.take_waiting.new.first c.take_waiting.new.main) live) in
    let found : slice_get (program_of g.H.Host.reply c.args.self.now).functions c.in-Some.at ≡ Some (function_of c.index-callee.result.now) = function_at c.args.self.now.functions.items c.in-Some.at c.index-callee.result.now place c.index-callee.ensures in
    let can : IsCallable g.H.Host.finds (function_of c.index-callee.result.now) = c.requires.live.callable c.in-Some.at (function_of c.index-callee.result.now) found in
    can

pub invoke-requires-clause-arguments : goal.invoke-requires-clause-arguments
invoke-requires-clause-arguments g c =
    let into : next (program_of g.H.Host.reply c.args.self.now) (config g.H.Host.world c.args.self.now) ≡ next (program_of g.H.Host.reply c.args.self.now) (entry (program_of g.H.Host.reply c.args.self.now) (config g.H.Host.world c.args.self.now) c.in-Some.at (waiting c.take_waiting.new.first c.take_waiting.new.main)) = outside_next (program_of g.H.Host.reply c.args.self.now) (config g.H.Host.world c.args.self.now) c.args.self.now.state.stacks refl c.requires.rooted c.requires.ended c.requires.outside c.in-Some.at (waiting c.take_waiting.new.first c.take_waiting.new.main) c.in-Some.ensures.waiting in
    let live : next (program_of g.H.Host.reply c.args.self.now) (entry (program_of g.H.Host.reply c.args.self.now) (config g.H.Host.world c.args.self.now) c.in-Some.at (waiting c.take_waiting.new.first c.take_waiting.new.main)) ≢ lost = λ e. c.requires.live.live (into ∙ e) in
    let place : c.in-Some.at < length c.args.self.now.functions.items = function_within c.args.self.now.functions.items c.in-Some.at (outside_found (program_of g.H.Host.reply c.args.self.now) (config g.H.Host.world c.args.self.now) c.in-Some.at (waiting c.take_waiting.new.first c.take_waiting.new.main) live) in
    let found : slice_get (program_of g.H.Host.reply c.args.self.now).functions c.in-Some.at ≡ Some (function_of c.index-callee.result.now) = function_at c.args.self.now.functions.items c.in-Some.at c.index-callee.result.now place c.index-callee.ensures in
    let is : function_of c.index-callee.result.now ≡ of_host c.in-Outside.sort.now c.in-Outside.which = ap function_of c.in-Outside.is in
    subst (HasArguments c.index-callee.result.now) (sym c.clear.ensures) (arguments_here (program_of g.H.Host.reply c.args.self.now) (config g.H.Host.world c.args.self.now) c.in-Some.at (waiting c.take_waiting.new.first c.take_waiting.new.main) c.index-callee.result.now (host_arguments (program_of g.H.Host.reply c.args.self.now) (config g.H.Host.world c.args.self.now) c.in-Some.at (waiting c.take_waiting.new.first c.take_waiting.new.main) c.index-callee.result.now c.in-Outside.sort.now c.in-Outside.which is found live))

pub returns-in-Outside-clause-stepped : goal.returns-in-Outside-clause-stepped
returns-in-Outside-clause-stepped g c =
    let into : next (program_of g.H.Host.reply c.args.self.now) (config g.H.Host.world c.args.self.now) ≡ next (program_of g.H.Host.reply c.args.self.now) (entry (program_of g.H.Host.reply c.args.self.now) (config g.H.Host.world c.args.self.now) c.in-Some.at (waiting c.take_waiting.new.first c.take_waiting.new.main)) = outside_next (program_of g.H.Host.reply c.args.self.now) (config g.H.Host.world c.args.self.now) c.args.self.now.state.stacks refl c.requires.rooted c.requires.ended c.requires.outside c.in-Some.at (waiting c.take_waiting.new.first c.take_waiting.new.main) c.in-Some.ensures.waiting in
    let live : next (program_of g.H.Host.reply c.args.self.now) (entry (program_of g.H.Host.reply c.args.self.now) (config g.H.Host.world c.args.self.now) c.in-Some.at (waiting c.take_waiting.new.first c.take_waiting.new.main)) ≢ lost = λ e. c.requires.live.live (into ∙ e) in
    let place : c.in-Some.at < length c.args.self.now.functions.items = function_within c.args.self.now.functions.items c.in-Some.at (outside_found (program_of g.H.Host.reply c.args.self.now) (config g.H.Host.world c.args.self.now) c.in-Some.at (waiting c.take_waiting.new.first c.take_waiting.new.main) live) in
    let found : slice_get (program_of g.H.Host.reply c.args.self.now).functions c.in-Some.at ≡ Some (function_of c.index-callee.result.now) = function_at c.args.self.now.functions.items c.in-Some.at c.index-callee.result.now place c.index-callee.ensures in
    let is : function_of c.index-callee.result.now ≡ of_host c.in-Outside.sort.now c.in-Outside.which = ap function_of c.in-Outside.is in
    let called : IsCalled g.H.Host.reply c.index-callee.result.now [] outside c.args.self.now.state.memory (g.H.Host.world c.args.self.now.host) c.invoke.result c.invoke.new.state.stacks c.invoke.new.state.memory (g.H.Host.world c.invoke.new.host) =
    subst (λ z. IsCalled g.H.Host.reply c.index-callee.result.now [] z c.args.self.now.state.memory (g.H.Host.world c.args.self.now.host) c.invoke.result c.invoke.new.state.stacks c.invoke.new.state.memory (g.H.Host.world c.invoke.new.host)) c.clear.ensures c.invoke.ensures.called
    in
    record {
      row =
          subst (λ n. IsRow n (g.H.Host.world c.args.self.now.host) c.invoke.result (config_of c.invoke.new.state (g.H.Host.world c.invoke.new.host) (waiting c.take_waiting.new.first c.take_waiting.new.main))) (sym into)
          (subst (λ s. IsRow (next (program_of g.H.Host.reply c.args.self.now) (entry (program_of g.H.Host.reply c.args.self.now) (config g.H.Host.world c.args.self.now) c.in-Some.at (waiting c.take_waiting.new.first c.take_waiting.new.main))) (g.H.Host.world c.args.self.now.host) c.invoke.result (config_of s (g.H.Host.world c.invoke.new.host) (waiting c.take_waiting.new.first c.take_waiting.new.main))) (sym c.invoke.ensures.others)
          (host_row (program_of g.H.Host.reply c.args.self.now) (config g.H.Host.world c.args.self.now) c.in-Some.at (waiting c.take_waiting.new.first c.take_waiting.new.main) c.index-callee.result.now c.in-Outside.sort.now c.in-Outside.which is found (host_arguments (program_of g.H.Host.reply c.args.self.now) (config g.H.Host.world c.args.self.now) c.in-Some.at (waiting c.take_waiting.new.first c.take_waiting.new.main) c.index-callee.result.now c.in-Outside.sort.now c.in-Outside.which is found live) c.invoke.result c.invoke.new.state.stacks c.invoke.new.state.memory (g.H.Host.world c.invoke.new.host)
          (called_there (program_of g.H.Host.reply c.args.self.now) (config g.H.Host.world c.args.self.now) c.in-Some.at (waiting c.take_waiting.new.first c.take_waiting.new.main) c.index-callee.result.now c.invoke.result c.invoke.new.state.stacks c.invoke.new.state.memory (g.H.Host.world c.invoke.new.host) called)));
      program = refl;
      counted = c.invoke.ensures.counted;
      stopped = c.invoke.ensures.stopped;
    }
