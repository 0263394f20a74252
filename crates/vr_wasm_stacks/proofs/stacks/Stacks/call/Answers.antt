use Rattle.std.proofs.Common.{ℕ, ◌≡◌, ◌-◌, ◌+◌, ◌∷◌, ◌++◌, [], length, reverse, replicate, arith, ap, sym, subst, ◌∙◌}
use Rattle.std.proofs.lemmas.Grind.{common_steps}
use Rattle.std.proofs.lemmas.List.{length-reverse, length-append, length-replicate}
use Rattle.vr_wasm_stacks.specs.declared.control.Control.{Control}
use Rattle.vr_wasm_stacks.specs.declared.control.Control.TheVariants.{Call}
use Rattle.vr_wasm_stacks.specs.Flat.{Rises, Keeps, position, calls}
use Rattle.vr_wasm_stacks.proofs.CountLemmas.{slots_at, labels_at, frames_at}
use Rattle.vr_wasm_stacks.proofs.LayerLemmas.{called_at, called_entries}
use Rattle.vr_wasm_stacks.proofs.stacks.Stacks.call.Goals as goal

pub push_zeros-requires : goal.push_zeros-requires
push_zeros-requires c =
    let slots = slots_at c.args.self.now _ _ _ c.self.view_is c.self.invariant.rises in
    omega (arith, slots, c.requires.slots, c.self.invariant.slots)

pub push_reserved-requires : goal.push_reserved-requires
push_reserved-requires c =
    let labels = labels_at c.args.self.now _ _ _ c.self.view_is in
    let size = length-reverse c.self.inside.controls.items in
    grind (arith, common_steps)

pub invariant_of-self : goal.invariant_of-self
invariant_of-self c =
    let slots = slots_at c.args.self.now _ _ _ c.self.view_is c.self.invariant.rises in
    let labels = labels_at c.args.self.now _ _ _ c.self.view_is in
    let frames = frames_at c.args.self.now _ _ _ c.self.view_is in
    let count : c.len.result ≡ length c.self.inside.values.items = omega arith in
    let it = called_at c.args.self.now _ _ _ c.args.params c.args.locals c.args.results c.self.inside.frame c.self.inside.base c.args.rest c.args.body.now c.self.view_is c.self.invariant.rises c.self.invariant.keeps c.requires.params in
    let long : c.len-height.result ≡ length c.self.inside.values.items + c.args.locals = omega (arith, ap length c.push_zeros.ensures.items, length-append c.self.inside.values.items (replicate c.args.locals 0), length-replicate {A = ℕ} c.args.locals 0) in
    let tall : c.len-frame.result ≡ length (reverse c.self.inside.controls.items) = omega (arith, length-reverse c.self.inside.controls.items) in
    let x : Control = Call c.args.results c.args.rest (length c.self.inside.values.items - c.args.params) (length c.self.inside.values.items + c.args.locals) c.self.inside.frame c.self.inside.base in
    let pushed : c.push_reserved.new.self.items ≡ c.self.inside.controls.items ++ Call c.args.results c.args.rest (c.len.result - c.args.params) c.len-height.result c.self.inside.frame c.self.inside.base ∷ [] = grind (arith, common_steps) in
    let es = called_entries c.self.inside.controls.items c.push_reserved.new.self.items c.args.results c.args.rest c.args.params c.args.locals c.self.inside.frame c.self.inside.base _ _ (length c.self.inside.values.items) count long pushed in
    record {
      rises = subst (λ y. Rises y c.push_zeros.new.values.items) (sym es) (subst (Rises (x ∷ reverse c.self.inside.controls.items)) (sym c.push_zeros.ensures.items) it.rises);
      keeps = subst (λ y. Keeps y c.len-frame.result (c.len.result - c.args.params)) (sym es) (tall, ap (λ n. n - c.args.params) count, c.self.invariant.keeps);
      counted = omega (arith, ap calls es, c.self.invariant.counted);
      few_frames = omega (arith, frames, c.requires.frames, c.self.invariant.counted);
      few_slots = omega (arith, slots, c.requires.slots, ap length c.push_zeros.ensures.items, length-append c.self.inside.values.items (replicate c.args.locals 0), length-replicate {A = ℕ} c.args.locals 0);
      few_labels = omega (arith, labels, c.requires.labels, ap length es);
      slots = omega (arith, c.push_zeros.ensures.capacity, c.self.invariant.slots);
      labels = omega (arith, c.push_reserved.ensures.capacity, c.self.invariant.labels);
    }

pub returns : goal.returns
returns c =
    let count : c.len.result ≡ length c.self.inside.values.items = omega arith in
    let it = called_at c.args.self.now _ _ _ c.args.params c.args.locals c.args.results c.self.inside.frame c.self.inside.base c.args.rest c.args.body.now c.self.view_is c.self.invariant.rises c.self.invariant.keeps c.requires.params in
    let long : c.len-height.result ≡ length c.self.inside.values.items + c.args.locals = omega (arith, ap length c.push_zeros.ensures.items, length-append c.self.inside.values.items (replicate c.args.locals 0), length-replicate {A = ℕ} c.args.locals 0) in
    let tall : c.len-frame.result ≡ length (reverse c.self.inside.controls.items) = omega (arith, length-reverse c.self.inside.controls.items) in
    let x : Control = Call c.args.results c.args.rest (length c.self.inside.values.items - c.args.params) (length c.self.inside.values.items + c.args.locals) c.self.inside.frame c.self.inside.base in
    let pushed : c.push_reserved.new.self.items ≡ c.self.inside.controls.items ++ Call c.args.results c.args.rest (c.len.result - c.args.params) c.len-height.result c.self.inside.frame c.self.inside.base ∷ [] = grind (arith, common_steps) in
    let es = called_entries c.self.inside.controls.items c.push_reserved.new.self.items c.args.results c.args.rest c.args.params c.args.locals c.self.inside.frame c.self.inside.base _ _ (length c.self.inside.values.items) count long pushed in
    ap (λ y. position y c.push_zeros.new.values.items c.args.body.now) es
    ∙ ap (λ y. position (x ∷ reverse c.self.inside.controls.items) y c.args.body.now) c.push_zeros.ensures.items
    ∙ it.lands
