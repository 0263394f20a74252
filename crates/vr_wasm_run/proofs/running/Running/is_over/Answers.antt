use Rattle.std.proofs.Common.{◌≡◌, ◌==◌, [], refl, sym, ◌∙◌, length, ap, arith}
use Rattle.std.proofs.lemmas.Bool.{false≢true}
use Rattle.std.proofs.lemmas.Bool.Decides.{nat_tests}
use Rattle.std.proofs.lemmas.List.{nil_from_length}
use Rattle.vr_wasm_run.specs.Machines.{program_of, config}
use Rattle.vr_wasm_run.proofs.CostLemmas.{over_only}
use Rattle.vr_wasm_run.proofs.OutsideLemmas.{outside_over}
use Rattle.vr_wasm_run.proofs.running.Running.is_over.Goals as goal

pub returns-then-not-is_empty : goal.returns-then-not-is_empty
returns-then-not-is_empty g c = (λ e. absurd (false≢true e), λ e. sym c.if-not-is_empty.true ∙ c.is_empty.ensures ∙ ap (λ x. length x == 0) (c.code-code.ensures.code ∙ (over_only (program_of g.H.Host.reply c.args.self.now) (config g.H.Host.world c.args.self.now) c.args.self.now.state.stacks refl c.code-code.ensures.rooted e).1))

pub returns-then-not-is_outside : goal.returns-then-not-is_outside
returns-then-not-is_outside g c = (λ e. absurd (false≢true e), λ e. sym c.if-not-is_outside.true ∙ c.is_outside.ensures.1 (over_only (program_of g.H.Host.reply c.args.self.now) (config g.H.Host.world c.args.self.now) c.args.self.now.state.stacks refl c.code-code.ensures.rooted e).0)

pub returns : goal.returns
returns g c =
    let bare : c.args.self.now.state.stacks.layers ≡ [] = c.is_outside.ensures.0 c.if-not-is_outside.false in
    let none : length c.code-code.result.now ≡ 0 = grind (arith, nat_tests) in
    let ended : c.args.self.now.state.stacks.code ≡ [] = sym c.code-code.ensures.code ∙ nil_from_length c.code-code.result.now none in (
      λ e. outside_over (program_of g.H.Host.reply c.args.self.now) (config g.H.Host.world c.args.self.now) c.args.self.now.state.stacks refl c.code-code.ensures.rooted ended bare (c.is_none_waiting.ensures.0 e),
      λ e. c.is_none_waiting.ensures.1 (over_only (program_of g.H.Host.reply c.args.self.now) (config g.H.Host.world c.args.self.now) c.args.self.now.state.stacks refl c.code-code.ensures.rooted e).2,
    )
