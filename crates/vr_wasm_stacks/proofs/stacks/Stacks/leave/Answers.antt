use Rattle.std.proofs.Common.{◌≡◌, ◌-◌, IsSome, length, take, arith, ap, sym, subst, ◌∙◌}
use Rattle.std.proofs.lemmas.List.{length-reverse}
use Rattle.vr_wasm_stacks.specs.declared.control.Control.{Control}
use Rattle.vr_wasm_stacks.specs.declared.control.Control.TheVariants.{Block, Call}
use Rattle.vr_wasm_stacks.proofs.JumpLemmas.{entry_read}
use Rattle.vr_wasm_stacks.proofs.LayerLemmas.{leave_within, left_of_block, leave_call}
use Rattle.vr_wasm_stacks.proofs.stacks.Stacks.leave.Goals as goal

pub overflow_sub-at : goal.overflow_sub-at
overflow_sub-at c =
    let some = leave_within c.args.self.now c.self.inside.controls.items c.self.inside.values.items c.self.inside.code.now c.self.view_is c.requires in
    omega (arith, some)

pub index-requires : goal.index-requires
index-requires c =
    let some = leave_within c.args.self.now c.self.inside.controls.items c.self.inside.values.items c.self.inside.code.now c.self.view_is c.requires in
    omega (arith, some)

pub invariant_of-self : goal.invariant_of-self
invariant_of-self c =
    let some = leave_within c.args.self.now c.self.inside.controls.items c.self.inside.values.items c.self.inside.code.now c.self.view_is c.requires in
    let count : c.len-at.result ≡ length c.self.inside.controls.items = omega arith in
    let x : Control = Block c.in-Block.results c.in-Block.target c.in-Block.rest c.in-Block.height in
    let entry = entry_read c.self.inside.controls.items _ (length c.self.inside.controls.items - 1) c.index.result.now x c.index.ensures (ap (λ k. k - 1) count) c.in-Block.is in
    let it = left_of_block c.args.self.now c.self.inside.controls.items c.self.inside.values.items c.self.inside.code.now c.self.inside.frame c.self.inside.base c.in-Block.results c.in-Block.height c.in-Block.target c.in-Block.rest c.truncate.new.self.items c.self.view_is c.self.invariant.rises c.self.invariant.keeps some entry (c.truncate.ensures.items ∙ ap (λ k. take (k - 1) c.self.inside.controls.items) count) in
    record {
      rises = it.rises;
      keeps = it.keeps;
      counted = c.self.invariant.counted ∙ sym it.counted;
      few_frames = c.self.invariant.few_frames;
      few_slots = c.self.invariant.few_slots;
      few_labels = omega (arith, it.fewer, length-reverse c.self.inside.controls.items, length-reverse c.truncate.new.self.items, c.self.invariant.few_labels);
      slots = c.self.invariant.slots;
      labels = omega (arith, c.truncate.ensures.capacity, c.self.invariant.labels);
    }

pub returns-in-Block : goal.returns-in-Block
returns-in-Block c =
    let some = leave_within c.args.self.now c.self.inside.controls.items c.self.inside.values.items c.self.inside.code.now c.self.view_is c.requires in
    let count : c.len-at.result ≡ length c.self.inside.controls.items = omega arith in
    let x : Control = Block c.in-Block.results c.in-Block.target c.in-Block.rest c.in-Block.height in
    let entry = entry_read c.self.inside.controls.items _ (length c.self.inside.controls.items - 1) c.index.result.now x c.index.ensures (ap (λ k. k - 1) count) c.in-Block.is in
    let it = left_of_block c.args.self.now c.self.inside.controls.items c.self.inside.values.items c.self.inside.code.now c.self.inside.frame c.self.inside.base c.in-Block.results c.in-Block.height c.in-Block.target c.in-Block.rest c.truncate.new.self.items c.self.view_is c.self.invariant.rises c.self.invariant.keeps some entry (c.truncate.ensures.items ∙ ap (λ k. take (k - 1) c.self.inside.controls.items) count) in
    it.lands

pub branch-self-requires : goal.branch-self-requires
branch-self-requires c =
    let some = leave_within c.args.self.now c.self.inside.controls.items c.self.inside.values.items c.self.inside.code.now c.self.view_is c.requires in
    let count : c.len-at.result ≡ length c.self.inside.controls.items = omega arith in
    let x : Control = Call c.in-Call.results c.in-Call.rest c.in-Call.base c.in-Call.height c.in-Call.caller c.in-Call.caller_base in
    let entry = entry_read c.self.inside.controls.items _ (length c.self.inside.controls.items - 1) c.index.result.now x c.index.ensures (ap (λ k. k - 1) count) c.in-Call.is in
    subst IsSome (sym (leave_call c.args.self.now c.self.inside.controls.items c.self.inside.values.items c.self.inside.code.now c.in-Call.results c.in-Call.base c.in-Call.height c.in-Call.caller c.in-Call.caller_base c.in-Call.rest c.self.view_is some entry c.requires)) c.requires

pub returns-in-Call : goal.returns-in-Call
returns-in-Call c =
    let some = leave_within c.args.self.now c.self.inside.controls.items c.self.inside.values.items c.self.inside.code.now c.self.view_is c.requires in
    let count : c.len-at.result ≡ length c.self.inside.controls.items = omega arith in
    let x : Control = Call c.in-Call.results c.in-Call.rest c.in-Call.base c.in-Call.height c.in-Call.caller c.in-Call.caller_base in
    let entry = entry_read c.self.inside.controls.items _ (length c.self.inside.controls.items - 1) c.index.result.now x c.index.ensures (ap (λ k. k - 1) count) c.in-Call.is in
    sym (leave_call c.args.self.now c.self.inside.controls.items c.self.inside.values.items c.self.inside.code.now c.in-Call.results c.in-Call.base c.in-Call.height c.in-Call.caller c.in-Call.caller_base c.in-Call.rest c.self.view_is some entry c.requires) ∙ c.branch-self.ensures
