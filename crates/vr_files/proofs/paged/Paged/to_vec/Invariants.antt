-- The bytes so far are those of the pages so far.
use Rattle.std.proofs.Common.{◌≡◌, ◌*◌, min, take}
use Rattle.vr_files.specs.PageLists.{bytes_of}
use Rattle.vr_files.specs.declared.pages.TheConstants.{PAGE}
use Rattle.vr_files.proofs.paged.Paged.to_vec.Given as goal

abbrev pub invariant-loop-page : goal.invariant-loop-page
invariant-loop-page l = l.bytes.items ≡ take (min l.self-inside.len (PAGE * l.page-index)) (bytes_of l.self-inside.pages.items)
