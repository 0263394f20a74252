use Rattle.std.proofs.Common.{◌∙◌, ap}
use Rattle.vr_pipe.specs.Trees.{pipe_tree, programs_of}
use Rattle.vr_policy_read.specs.PolicyData.{PolicyData}
use Rattle.vr_exec.proofs.ComeLemmas.{came_at, have_files, loaded_so, refused_at}
use Rattle.vr_exec.proofs.IsolationLemmas.{isolated_too}
use Rattle.vr_exec.proofs.running.run_pipeline.Goals as goal

pub load_programs-requires-clause-there : goal.load_programs-requires-clause-there
load_programs-requires-clause-there c =
    have_files c.args.files.map (programs_of (pipe_tree c.pipe-pipe.result.now)) c.programs.result.now c.programs.ensures (c.requires.there c.pipe-pipe.result.now c.pipe-pipe.ensures.tree)

pub run_loaded-requires : goal.run_loaded-requires
run_loaded-requires c =
    loaded_so c.listed.inside.pages c.policy-listed.result.now.pages c.args.files.map c.programs.result.now c.pipe-pipe.result.now c.tree.result.now c.in-Ok.programs.items c.deref.result.now
    (ap (λ (p : PolicyData). p.pages) c.listed.view_is) c.programs.ensures c.tree.ensures.tree c.deref.ensures.value c.in-Ok.ensures.loaded

pub returns-in-Ok : goal.returns-in-Ok
returns-in-Ok c =
    let run = (came_at c.args.policy.now c.args.pipeline c.pipe-pipe.result.now c.pipe-pipe.ensures.tree c.args.files.map c.args.fuel c.run_loaded.result c.policy-listed.result.now c.tree.result.now
    c.policy-listed.ensures.policy c.tree.ensures.tree c.run_loaded.ensures) in
    record { run = run; isolated = isolated_too c.args.policy.now c.args.pipeline c.args.files.map c.args.fuel c.run_loaded.result c.policy-listed.ensures.checked run }

pub returns-in-Err : goal.returns-in-Err
returns-in-Err c =
    let run = (refused_at c.args.policy.now c.args.pipeline c.pipe-pipe.result.now c.pipe-pipe.ensures.tree c.args.files.map c.args.fuel c.refuse.result c.in-Err.refused c.listed.inside.pages c.programs.result.now
    (ap (λ (p : PolicyData). p.pages) (c.listed.view_is ∙ c.policy-listed.ensures.policy)) c.programs.ensures c.in-Err.ensures.bad c.refuse.ensures) in
    record { run = run; isolated = isolated_too c.args.policy.now c.args.pipeline c.args.files.map c.args.fuel c.refuse.result c.policy-listed.ensures.checked run }
