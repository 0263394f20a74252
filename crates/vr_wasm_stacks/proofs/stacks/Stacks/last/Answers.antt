use Rattle.std.proofs.Common.{ap, ◌∙◌, ◌≡◌, ◌-◌, drop, length, arith}
use Rattle.std.proofs.lemmas.List.{take_rest}
use Rattle.vr_wasm_stacks.proofs.FlatLemmas.{taken_last}
use Rattle.vr_wasm_stacks.proofs.stacks.Stacks.last.Goals as goal

pub returns : goal.returns
returns c =
    let count : c.len.result ≡ length c.self.inside.values.items = omega arith in
    take_rest c.deref.result.now (c.len.result - c.args.count)
    ∙ ap (drop (c.len.result - c.args.count)) c.deref.ensures.value
    ∙ ap (λ n. drop (n - c.args.count) c.self.inside.values.items) count
    ∙ taken_last c.args.self.now _ _ _ c.args.count c.self.view_is c.self.invariant.rises c.requires
