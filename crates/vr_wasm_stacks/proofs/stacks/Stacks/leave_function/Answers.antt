use Rattle.std.proofs.Common.{◌≡◌, ◌-◌, IsSome, arith, ap, subst, ◌∙◌}
use Rattle.vr_wasm_stacks.specs.Positions.{depth, jump}
use Rattle.vr_wasm_stacks.proofs.LayerLemmas.{depth_of}
use Rattle.vr_wasm_stacks.proofs.stacks.Stacks.leave_function.Goals as goal

pub overflow_sub-label-2 : goal.overflow_sub-label-2
overflow_sub-label-2 c =
    let counted = depth_of c.args.self.now c.self.inside.controls.items c.self.inside.values.items c.self.inside.code.now c.self.inside.frame c.self.inside.base c.self.view_is c.self.invariant.keeps c.requires in
    omega (arith, counted)

pub branch-self-requires : goal.branch-self-requires
branch-self-requires c =
    let counted = depth_of c.args.self.now c.self.inside.controls.items c.self.inside.values.items c.self.inside.code.now c.self.inside.frame c.self.inside.base c.self.view_is c.self.invariant.keeps c.requires in
    let label : depth c.args.self.now.layers ≡ c.len.result - 1 - c.self.inside.frame = omega (arith, counted) in
    subst (λ l. IsSome (jump c.args.self.now l)) label c.requires

pub returns : goal.returns
returns c =
    let counted = depth_of c.args.self.now c.self.inside.controls.items c.self.inside.values.items c.self.inside.code.now c.self.inside.frame c.self.inside.base c.self.view_is c.self.invariant.keeps c.requires in
    let label : depth c.args.self.now.layers ≡ c.len.result - 1 - c.self.inside.frame = omega (arith, counted) in
    ap (jump c.args.self.now) label ∙ c.branch-self.ensures
