use Rattle.vr_face.proofs.PorchLemmas.{keeps_more}
use Rattle.vr_face.proofs.porch.PorchDoor.back.Goals as goal

pub invariant_of-self-clause-served : goal.invariant_of-self-clause-served
invariant_of-self-clause-served g c =
    rw c.is_want.ensures (keeps_more _ _ _ _ _ _ _ _ c.args.self.now.served c.requires c.back.ensures.ended)
