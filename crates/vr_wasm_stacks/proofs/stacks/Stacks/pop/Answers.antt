use Rattle.std.proofs.Common.{◌≡◌, ◌<◌, ◌-◌, ◌∷◌, ◌++◌, [], length, reverse, ap, sym, ◌∙◌, arith}
use Rattle.std.proofs.lemmas.Grind.{common_steps}
use Rattle.vr_wasm_stacks.specs.Flat.{position}
use Rattle.vr_wasm_stacks.specs.Positions.{Position, with_operands}
use Rattle.vr_wasm_stacks.proofs.CountLemmas.{slots_pushed}
use Rattle.vr_wasm_stacks.proofs.FlatLemmas.{last_removed}
use Rattle.vr_wasm_stacks.proofs.stacks.Stacks.pop.Goals as goal

pub overflow_sub-last : goal.overflow_sub-last
overflow_sub-last c = grind (arith, common_steps)

pub returns-clause-value : goal.returns-clause-value
returns-clause-value c =
    let some : 0 < length c.self.inside.values.items = grind (arith, common_steps) in
    let split : c.self.inside.values.items ≡ c.swap_remove.new.self.items ++ c.swap_remove.result ∷ [] = last_removed c.self.inside.values.items (c.len-last.result - 1) c.swap_remove.result (omega arith) some c.swap_remove.ensures.value ∙ ap (λ x. x ++ c.swap_remove.result ∷ []) (sym c.swap_remove.ensures.items) in
    grind (arith, common_steps)

pub returns-clause-slots : goal.returns-clause-slots
returns-clause-slots c =
    let some : 0 < length c.self.inside.values.items = grind (arith, common_steps) in
    let removed : c.self.inside.values.items ≡ c.swap_remove.new.self.items ++ c.swap_remove.result ∷ [] = last_removed c.self.inside.values.items (c.len-last.result - 1) c.swap_remove.result (omega arith) some c.swap_remove.ensures.value ∙ ap (λ x. x ++ c.swap_remove.result ∷ []) (sym c.swap_remove.ensures.items) in
    let after : Position = position (reverse c.self.inside.controls.items) c.swap_remove.new.self.items c.self.inside.code.now in
    let split : c.args.self.now ≡ with_operands after (c.swap_remove.result ∷ after.operands) = grind (arith, common_steps) in
    slots_pushed c.args.self.now after c.swap_remove.result split
