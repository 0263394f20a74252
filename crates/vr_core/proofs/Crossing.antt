-- A book may go to another thread where its keeper may. That a checked policy may is taken as given: its pipelines are
-- trees, of which the check of a function that says so finds it.
use denote.Param.Send.{IsSend, recorded_send, struct_send, view_send, sendable}
use denote.RattleType.{RattleType}
use denote.Struct.Declared.{shape}
use Rattle.std.proofs.Crossing.{crosses}
use Rattle.std.specs.contracts.alloc.Global as Heap
use Rattle.std.specs.contracts.impls.GlobalAllocator.TheImpl.{ghosts}
use Rattle.std.specs.contracts.vec.Vec as Vec
use Rattle.vr_base.proofs.calls.Entry.TheSendSync as entry
use Rattle.vr_base.specs.contracts.calls.Entry as Entry
use Rattle.vr_core.specs.contracts.book.Book as Book
use Rattle.vr_core.specs.contracts.book.Book.TheInside as book_inside
use Rattle.vr_core.specs.contracts.policy_files.PolicyFiles as PolicyFiles
use Rattle.vr_core.specs.contracts.policy_files.PolicyFiles.TheInside as inside
use Rattle.vr_files.proofs.files.Files.TheSendSync as files
use Rattle.vr_keeper.specs.declared.keepers.Keeper as keeper
use Rattle.vr_policy_check.specs.contracts.checked.CheckedPolicy as CheckedPolicy
use Rattle.vr_rights.proofs.regions.Regions.TheSendSync as regions

policy_files_send : IsSend CheckedPolicy.the_row → IsSend PolicyFiles.the_row
policy_files_send p =
    view_send inside.the_row _ _ _ _
    (recorded_send inside.the_field.row _ _ inside.the_type.to_one
    (struct_send (shape inside.the_type) (p, (regions.the_send, (files.the_send, (search (sendable, crosses) depth 20, tt))))))

journal_send : IsSend (Vec.the_field Entry.the_row Heap.the_row ghosts).row
journal_send = search (entry.the_send, sendable, crosses) depth 20

module _ (K : RattleType) (k : keeper.Ghosts K.Denot) where
  pub book_send : IsSend CheckedPolicy.the_row → IsSend K → IsSend (Book.the_row K k)
  book_send p s =
      view_send (book_inside.the_row K k) _ _ _ _
      (recorded_send (book_inside.the_field K k).row _ _ (book_inside.the_type K k).to_one
      (struct_send (shape (book_inside.the_type K k))
      (policy_files_send p, (search sendable, (search sendable, (files.the_send, (journal_send, (s, tt))))))))
