use Rattle.std.proofs.Common.{ap, ◌∙◌, ◌+◌, arith, set, reverse}
use Rattle.std.proofs.lemmas.List.{length-set}
use Rattle.vr_wasm_stacks.specs.Positions.{with_locals}
use Rattle.vr_wasm_stacks.proofs.CountLemmas.{height_within}
use Rattle.vr_wasm_stacks.proofs.FlatLemmas.{local_of, position-set}
use Rattle.vr_wasm_stacks.proofs.stacks.Stacks.set_local.Goals as goal

pub overflow_add-place : goal.overflow_add-place
overflow_add-place c =
    let there = local_of c.args.self.now _ _ _ _ _ c.args.at c.self.view_is c.self.invariant.keeps c.self.invariant.rises c.requires in
    let within = height_within _ _ c.self.invariant.rises in
    omega (arith, there.below)

pub index_mut-requires : goal.index_mut-requires
index_mut-requires c =
    let there = local_of c.args.self.now _ _ _ _ _ c.args.at c.self.view_is c.self.invariant.keeps c.self.invariant.rises c.requires in
    let within = height_within _ _ c.self.invariant.rises in
    omega (arith, there.below)

pub invariant_of-self : goal.invariant_of-self
invariant_of-self c =
    let there = local_of c.args.self.now _ _ _ _ _ c.args.at c.self.view_is c.self.invariant.keeps c.self.invariant.rises c.requires in
    record {
      rises = there.rises c.args.value;
      keeps = c.self.invariant.keeps;
      counted = c.self.invariant.counted;
      few_frames = c.self.invariant.few_frames;
      few_slots = omega (arith, length-set c.self.inside.values.items (c.self.inside.base + c.args.at) c.args.value, c.self.invariant.few_slots);
      few_labels = c.self.invariant.few_labels;
      slots = c.self.invariant.slots;
      labels = c.self.invariant.labels;
    }

pub returns : goal.returns
returns c =
    let there = local_of c.args.self.now _ _ _ _ _ c.args.at c.self.view_is c.self.invariant.keeps c.self.invariant.rises c.requires in
    position-set (reverse c.self.inside.controls.items) c.self.inside.values.items c.self.inside.code.now c.self.inside.base c.args.at c.args.value there
    ∙ ap (λ z. with_locals z (set z.locals c.args.at c.args.value)) c.self.view_is
