-- A book that threads use in turn may go to another thread where its keeper may, and workers may share what they need.
use denote.Param.Send.{IsSend, IsSync, recorded_send, recorded_sync, sendable, shr_sync, struct_send, struct_sync}
use denote.Ref.{NamedLft}
use denote.RattleType.{RattleType}
use denote.Struct.Declared.{shape}
use Rattle.std.proofs.Crossing.{crosses}
use Rattle.std.proofs.sync.Mutex.TheSendSync as mutex
use Rattle.vr_core.proofs.Crossing.{book_send}
use Rattle.vr_base.specs.declared.outside.Link as Link
use Rattle.vr_base.specs.declared.outside.Listener as Listener
use Rattle.vr_base.specs.declared.outside.Sink as Sink
use Rattle.vr_base.specs.declared.outside.Source as Source
use Rattle.vr_face.proofs.keys.Keys.TheSendSync as keys
use Rattle.vr_face.proofs.porch.Porch.TheSendSync as porch
use Rattle.vr_face.specs.declared.porch.Opening as Opening
use Rattle.vr_keeper.specs.declared.keepers.Keeper as keeper
use Rattle.vr_policy_check.specs.contracts.checked.CheckedPolicy as CheckedPolicy
use Rattle.vr_turn.proofs.seat.TurnSeat.TheSendSync as seat
use Rattle.vr_turn.proofs.turns.Turn.TheSendSync as turn
use Rattle.vr_turn.specs.contracts.seat.TurnSeat as TurnSeat
use Rattle.vr_session.specs.contracts.shared.Shared as Shared
use Rattle.vr_session.specs.contracts.shared_book.SharedBook as SharedBook
use Rattle.vr_session.specs.contracts.workers.Worker as Worker

module _ (K : RattleType) (k : keeper.Ghosts K.Denot) where
  pub shared_book_send : IsSend CheckedPolicy.the_row → IsSend K → IsSend (SharedBook.the_row K k)
  shared_book_send p s =
      recorded_send (SharedBook.the_field K k).row _ _ (SharedBook.the_type K k).to_one
      (struct_send (shape (SharedBook.the_type K k)) (book_send K k p s, tt))

  pub seat_send : IsSend CheckedPolicy.the_row → IsSend K → IsSend (TurnSeat.the_row (SharedBook.the_row K k))
  seat_send p s = seat.the_send (SharedBook.the_row K k) (shared_book_send p s)

  pub shared_sync : (G : RattleType) → IsSend CheckedPolicy.the_row → IsSend K → IsSync G → IsSync (Shared.the_row K G k)
  shared_sync G p s g =
      recorded_sync (Shared.the_field K G k).row _ _ (Shared.the_type K G k).to_one
      (struct_sync (shape (Shared.the_type K G k)) (turn.the_sync _ _ (shared_book_send p s), (g, tt)))

module _ (ℓ : NamedLft) (R L O K G C : RattleType) (listens : Listener.Ghosts L.Denot C.Denot) (link : Link.Ghosts C.Denot) (source : Source.Ghosts C.Denot) (sink : Sink.Ghosts C.Denot)
    (opening : Opening.Ghosts O.Denot) (k : keeper.Ghosts K.Denot) where
  pub worker_sync : IsSend CheckedPolicy.the_row → IsSync R → IsSend L → IsSend K → IsSync G → IsSync (Worker.the_row ℓ R L O K G C listens link source sink opening k)
  worker_sync p r l s g =
      recorded_sync (Worker.the_field ℓ R L O K G C listens link source sink opening k).row _ _ (Worker.the_type ℓ R L O K G C listens link source sink opening k).to_one
      (struct_sync (shape (Worker.the_type ℓ R L O K G C listens link source sink opening k)) (
        shr_sync _ _ R r,
        (
          search (sendable, crosses) depth 20,
          (
            shr_sync _ _ _ (shared_sync K k G p s g),
            (
              shr_sync _ _ _ keys.the_sync,
              (shr_sync _ _ _ (mutex.the_sync _ (porch.the_send _ O C _ _ _ _ _ l)), (search sendable, tt)),
            ),
          ),
        ),
      ))
