use Rattle.std.proofs.Common.{ap, ◌∙◌, arith, sym, slice_get}
use Rattle.vr_wasm_stacks.proofs.CountLemmas.{height_within}
use Rattle.vr_wasm_stacks.proofs.FlatLemmas.{local_of}
use Rattle.vr_wasm_stacks.proofs.stacks.Stacks.local.Goals as goal

pub overflow_add-self-inside : goal.overflow_add-self-inside
overflow_add-self-inside c =
    let there = local_of c.args.self.now _ _ _ _ _ c.args.at c.self.view_is c.self.invariant.keeps c.self.invariant.rises c.requires in
    let within = height_within _ _ c.self.invariant.rises in
    omega (arith, there.below)

pub index-requires : goal.index-requires
index-requires c =
    let there = local_of c.args.self.now _ _ _ _ _ c.args.at c.self.view_is c.self.invariant.keeps c.self.invariant.rises c.requires in
    let within = height_within _ _ c.self.invariant.rises in
    omega (arith, there.below)

pub returns : goal.returns
returns c =
    let there = local_of c.args.self.now _ _ _ _ _ c.args.at c.self.view_is c.self.invariant.keeps c.self.invariant.rises c.requires in
    ap (λ z. slice_get z.locals c.args.at) (sym c.self.view_is) ∙ there.value c.index.result.now c.index.ensures
