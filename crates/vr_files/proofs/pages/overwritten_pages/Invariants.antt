-- What is copied and what is left to copy make the pages with the piece written over them.
use Rattle.std.proofs.Common.{◌≡◌, ◌+◌, ◌-◌, ◌*◌, ◌≤◌, ◌++◌, length, drop}
use Rattle.vr_files.specs.Bodies.{overwritten}
use Rattle.vr_files.specs.PageLists.{bytes_of, AreFull}
use Rattle.vr_files.specs.declared.pages.TheConstants.{PAGE}
use Rattle.vr_files.proofs.pages.overwritten_pages.Given as goal

abbrev pub invariant-loop-page : goal.invariant-loop-page
invariant-loop-page l = record {
  told : bytes_of l.fresh.items ++ overwritten (bytes_of (drop l.page-index l.pages)) l.place l.rest ≡ overwritten (bytes_of l.fn.pages) l.fn.at l.fn.piece;
  full : AreFull l.fresh.items;
  left : AreFull (drop l.page-index l.pages);
  count : length l.fresh.items ≡ l.page-index;
  first : l.place ≤ PAGE;
  fits : l.place + length l.rest ≤ PAGE * (length l.pages - l.page-index);
}
