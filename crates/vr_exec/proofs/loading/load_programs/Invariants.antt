-- The programs of the paths so far are loaded.
use Rattle.std.proofs.Common.{take}
use Rattle.vr_exec.specs.Loaded.{AreLoaded}
use Rattle.vr_exec.proofs.loading.load_programs.Given as goal

abbrev pub invariant-loop-path : goal.invariant-loop-path
invariant-loop-path l = AreLoaded l.pages l.files.map (take l.path-index l.paths) l.programs.items
