-- The files that were passed do not have the name.
use Rattle.std.proofs.Common.{◌≡◌, map, drop}
use Rattle.vr_base.specs.Outside.{file_of}
use Rattle.vr_memory_links.specs.Folders.{named}
use Rattle.vr_memory_links.proofs.folder.find.Given as goal

abbrev pub invariant-loop-held : goal.invariant-loop-held
invariant-loop-held l = file_of l.name (map named (drop l.held-index l.files.items)) ≡ file_of l.name (map named l.files.items)
