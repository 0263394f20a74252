use Rattle.std.proofs.Common.{◌∙◌}
use Rattle.vr_pipe.specs.Trees.{pipe_tree}
use Rattle.vr_exec.proofs.ComeLemmas.{came_ended, came_exhausted, came_trapped, never_missing, over_layers}
use Rattle.vr_exec.proofs.running.run_loaded.Goals as goal

pub unreachable-requires : goal.unreachable-requires
unreachable-requires c =
    never_missing c.args.policy.now c.new-2.result c.args.files.map (pipe_tree c.args.tree.now) c.args.programs.now c.of-input.result c.args.fuel c.new-2.ensures.base c.new-2.ensures.files (c.of-input.ensures ∙ c.new.ensures.items) c.requires c.in-Err-NotLoaded.field-0 c.in-Err-NotLoaded.field-0-is
    (c.in-Err-NotLoaded.ensures (over_layers c.args.policy.now c.new-2.result c.args.files.map (pipe_tree c.args.tree.now) c.args.programs.now c.of-input.result c.args.fuel c.new-2.ensures.base c.new-2.ensures.files (c.of-input.ensures ∙ c.new.ensures.items) c.requires))

pub returns-in_ok-changes-in-Ok : goal.returns-in_ok-changes-in-Ok
returns-in_ok-changes-in-Ok c =
    came_ended c.args.policy.now c.new-2.result c.args.files.map (pipe_tree c.args.tree.now) c.args.programs.now c.of-input.result c.args.fuel c.new-2.ensures.base c.new-2.ensures.files (c.of-input.ensures ∙ c.new.ensures.items) c.requires c.in-Ok.left c.in_ok-changes-in-Ok.field-0
    (c.in-Ok.ensures (over_layers c.args.policy.now c.new-2.result c.args.files.map (pipe_tree c.args.tree.now) c.args.programs.now c.of-input.result c.args.fuel c.new-2.ensures.base c.new-2.ensures.files (c.of-input.ensures ∙ c.new.ensures.items) c.requires)) c.in_ok-changes-in-Ok.ensures

pub returns-in-Err-Trapped : goal.returns-in-Err-Trapped
returns-in-Err-Trapped c =
    came_trapped c.args.policy.now c.new-2.result c.args.files.map (pipe_tree c.args.tree.now) c.args.programs.now c.of-input.result c.args.fuel c.new-2.ensures.base c.new-2.ensures.files (c.of-input.ensures ∙ c.new.ensures.items) c.requires c.in-Err-Trapped.field-0 c.in-Err-Trapped.path c.in-Err-Trapped.kind c.in-Err-Trapped.field-0-is
    (c.in-Err-Trapped.ensures (over_layers c.args.policy.now c.new-2.result c.args.files.map (pipe_tree c.args.tree.now) c.args.programs.now c.of-input.result c.args.fuel c.new-2.ensures.base c.new-2.ensures.files (c.of-input.ensures ∙ c.new.ensures.items) c.requires))

pub returns-in-Err-OutOfFuel : goal.returns-in-Err-OutOfFuel
returns-in-Err-OutOfFuel c =
    came_exhausted c.args.policy.now c.new-2.result c.args.files.map (pipe_tree c.args.tree.now) c.args.programs.now c.of-input.result c.args.fuel c.new-2.ensures.base c.new-2.ensures.files (c.of-input.ensures ∙ c.new.ensures.items) c.requires c.in-Err-OutOfFuel.field-0 c.in-Err-OutOfFuel.path c.in-Err-OutOfFuel.field-0-is
    (c.in-Err-OutOfFuel.ensures (over_layers c.args.policy.now c.new-2.result c.args.files.map (pipe_tree c.args.tree.now) c.args.programs.now c.of-input.result c.args.fuel c.new-2.ensures.base c.new-2.ensures.files (c.of-input.ensures ∙ c.new.ensures.items) c.requires))
