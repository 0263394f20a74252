use Rattle.vr_wasm_in_step.proofs.InStepLemmas.{stays_in_step}
use Rattle.vr_wasm_in_step.proofs.alike.stay_in_step.Goals as goal

pub returns : goal.returns
returns g c = stays_in_step g.A.Alike.alike g.A.Alike.reply g.A.Alike.reply g.A.Alike.replies_agree
