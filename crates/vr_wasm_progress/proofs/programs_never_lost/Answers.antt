use Rattle.vr_wasm_progress.proofs.NeverLostLemmas.{never_lost}
use Rattle.vr_wasm_progress.proofs.programs_never_lost.Goals as goal

pub returns : goal.returns
returns g c = never_lost g.H.Host.finds
