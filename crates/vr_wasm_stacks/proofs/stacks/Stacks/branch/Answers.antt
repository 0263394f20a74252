use Rattle.std.proofs.Common.{◌≡◌, ◌-◌, length, take, ap, ◌∙◌, arith}
use Rattle.std.proofs.lemmas.List.{length-reverse}
use Rattle.vr_wasm_stacks.specs.declared.control.Control.{Control}
use Rattle.vr_wasm_stacks.specs.declared.control.Control.TheVariants.{Block, Call}
use Rattle.vr_wasm_stacks.proofs.JumpLemmas.{branched, entry_read, label_within, enough_values, frame_there}
use Rattle.vr_wasm_stacks.proofs.stacks.Stacks.branch.Goals as goal

pub overflow_sub-at-2 : goal.overflow_sub-at-2
overflow_sub-at-2 c =
    let there = label_within c.args.self.now c.self.inside.controls.items c.self.inside.values.items c.self.inside.code.now _ _ c.args.label c.self.view_is c.self.invariant.rises c.self.invariant.keeps c.requires in
    omega (arith, there)

pub index-requires : goal.index-requires
index-requires c =
    let there = label_within c.args.self.now c.self.inside.controls.items c.self.inside.values.items c.self.inside.code.now _ _ c.args.label c.self.view_is c.self.invariant.rises c.self.invariant.keeps c.requires in
    omega (arith, there)

pub keep-requires : goal.keep-requires
keep-requires c =
    let count : c.len.result ≡ length c.self.inside.controls.items = omega arith in
    let x : Control = Block c.in-Block.results c.in-Block.target c.in-Block.rest c.in-Block.height in
    let entry = entry_read c.self.inside.controls.items _ (length c.self.inside.controls.items - 1 - c.args.label) c.index.result.now x c.index.ensures (ap (λ k. k - 1 - c.args.label) count) c.in-Block.is in
    enough_values c.args.self.now c.self.inside.controls.items c.self.inside.values.items c.self.inside.code.now _ _ c.args.label c.self.view_is c.self.invariant.rises c.self.invariant.keeps c.requires x entry

pub keep-requires-in-Call : goal.keep-requires-in-Call
keep-requires-in-Call c =
    let count : c.len.result ≡ length c.self.inside.controls.items = omega arith in
    let x : Control = Call c.in-Call.results c.in-Call.rest c.in-Call.base c.in-Call.height c.in-Call.caller c.in-Call.caller_base in
    let entry = entry_read c.self.inside.controls.items _ (length c.self.inside.controls.items - 1 - c.args.label) c.index.result.now x c.index.ensures (ap (λ k. k - 1 - c.args.label) count) c.in-Call.is in
    enough_values c.args.self.now c.self.inside.controls.items c.self.inside.values.items c.self.inside.code.now _ _ c.args.label c.self.view_is c.self.invariant.rises c.self.invariant.keeps c.requires x entry

pub overflow_sub-self : goal.overflow_sub-self
overflow_sub-self c =
    let count : c.len.result ≡ length c.self.inside.controls.items = omega arith in
    let x : Control = Call c.in-Call.results c.in-Call.rest c.in-Call.base c.in-Call.height c.in-Call.caller c.in-Call.caller_base in
    let entry = entry_read c.self.inside.controls.items _ (length c.self.inside.controls.items - 1 - c.args.label) c.index.result.now x c.index.ensures (ap (λ k. k - 1 - c.args.label) count) c.in-Call.is in
    omega (arith, c.self.invariant.counted, frame_there c.args.self.now c.self.inside.controls.items c.self.inside.values.items c.self.inside.code.now _ _ c.args.label c.self.view_is c.self.invariant.rises c.self.invariant.keeps c.requires x entry)

pub invariant_of-self : goal.invariant_of-self
invariant_of-self c =
    let count : c.len.result ≡ length c.self.inside.controls.items = omega arith in
    let x : Control = Block c.in-Block.results c.in-Block.target c.in-Block.rest c.in-Block.height in
    let entry = entry_read c.self.inside.controls.items _ (length c.self.inside.controls.items - 1 - c.args.label) c.index.result.now x c.index.ensures (ap (λ k. k - 1 - c.args.label) count) c.in-Block.is in
    let it = branched c.args.self.now c.self.inside.controls.items c.self.inside.values.items c.self.inside.code.now _ _ c.args.label c.self.view_is c.self.invariant.rises c.self.invariant.keeps c.requires x c.truncate.new.self.items c.keep.new.values.items entry (c.truncate.ensures.items ∙ ap (λ k. take (k - 1 - c.args.label) c.self.inside.controls.items) count) c.keep.ensures.items in
    record {
      rises = it.rises;
      keeps = it.keeps;
      counted = omega (arith, it.counted, c.self.invariant.counted);
      few_frames = omega (arith, c.self.invariant.few_frames);
      few_slots = omega (arith, it.few, c.self.invariant.few_slots);
      few_labels = omega (arith, it.fewer, length-reverse c.self.inside.controls.items, length-reverse c.truncate.new.self.items, c.self.invariant.few_labels);
      slots = omega (arith, c.keep.ensures.capacity, c.self.invariant.slots);
      labels = omega (arith, c.truncate.ensures.capacity, c.self.invariant.labels);
    }

pub returns-in-Block : goal.returns-in-Block
returns-in-Block c =
    let count : c.len.result ≡ length c.self.inside.controls.items = omega arith in
    let x : Control = Block c.in-Block.results c.in-Block.target c.in-Block.rest c.in-Block.height in
    let entry = entry_read c.self.inside.controls.items _ (length c.self.inside.controls.items - 1 - c.args.label) c.index.result.now x c.index.ensures (ap (λ k. k - 1 - c.args.label) count) c.in-Block.is in
    let it = branched c.args.self.now c.self.inside.controls.items c.self.inside.values.items c.self.inside.code.now _ _ c.args.label c.self.view_is c.self.invariant.rises c.self.invariant.keeps c.requires x c.truncate.new.self.items c.keep.new.values.items entry (c.truncate.ensures.items ∙ ap (λ k. take (k - 1 - c.args.label) c.self.inside.controls.items) count) c.keep.ensures.items in
    it.lands

pub invariant_of-self-in-Call : goal.invariant_of-self-in-Call
invariant_of-self-in-Call c =
    let count : c.len.result ≡ length c.self.inside.controls.items = omega arith in
    let x : Control = Call c.in-Call.results c.in-Call.rest c.in-Call.base c.in-Call.height c.in-Call.caller c.in-Call.caller_base in
    let entry = entry_read c.self.inside.controls.items _ (length c.self.inside.controls.items - 1 - c.args.label) c.index.result.now x c.index.ensures (ap (λ k. k - 1 - c.args.label) count) c.in-Call.is in
    let it = branched c.args.self.now c.self.inside.controls.items c.self.inside.values.items c.self.inside.code.now _ _ c.args.label c.self.view_is c.self.invariant.rises c.self.invariant.keeps c.requires x c.truncate-in-Call.new.self.items c.keep-in-Call.new.values.items entry (c.truncate-in-Call.ensures.items ∙ ap (λ k. take (k - 1 - c.args.label) c.self.inside.controls.items) count) c.keep-in-Call.ensures.items in
    record {
      rises = it.rises;
      keeps = it.keeps;
      counted = omega (arith, it.counted, c.self.invariant.counted);
      few_frames = omega (arith, c.self.invariant.few_frames);
      few_slots = omega (arith, it.few, c.self.invariant.few_slots);
      few_labels = omega (arith, it.fewer, length-reverse c.self.inside.controls.items, length-reverse c.truncate-in-Call.new.self.items, c.self.invariant.few_labels);
      slots = omega (arith, c.keep-in-Call.ensures.capacity, c.self.invariant.slots);
      labels = omega (arith, c.truncate-in-Call.ensures.capacity, c.self.invariant.labels);
    }

pub returns-in-Call : goal.returns-in-Call
returns-in-Call c =
    let count : c.len.result ≡ length c.self.inside.controls.items = omega arith in
    let x : Control = Call c.in-Call.results c.in-Call.rest c.in-Call.base c.in-Call.height c.in-Call.caller c.in-Call.caller_base in
    let entry = entry_read c.self.inside.controls.items _ (length c.self.inside.controls.items - 1 - c.args.label) c.index.result.now x c.index.ensures (ap (λ k. k - 1 - c.args.label) count) c.in-Call.is in
    let it = branched c.args.self.now c.self.inside.controls.items c.self.inside.values.items c.self.inside.code.now _ _ c.args.label c.self.view_is c.self.invariant.rises c.self.invariant.keeps c.requires x c.truncate-in-Call.new.self.items c.keep-in-Call.new.values.items entry (c.truncate-in-Call.ensures.items ∙ ap (λ k. take (k - 1 - c.args.label) c.self.inside.controls.items) count) c.keep-in-Call.ensures.items in
    it.lands
