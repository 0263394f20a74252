-- The entries so far are those of the files.
use Rattle.std.proofs.Common.{◌≡◌, take}
use Rattle.vr_files.proofs.files.Files.share.Given as goal

abbrev pub invariant-loop-entry : goal.invariant-loop-entry
invariant-loop-entry l = l.entries.items ≡ take l.entry-index l.entry-items
