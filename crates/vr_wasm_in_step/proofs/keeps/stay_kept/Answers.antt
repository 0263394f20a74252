use Rattle.vr_wasm_in_step.proofs.KeptLemmas.{stays_kept}
use Rattle.vr_wasm_in_step.proofs.keeps.stay_kept.Goals as goal

pub returns : goal.returns
returns g c other = stays_kept (g.K.Keeps.kept other) g.K.Keeps.reply (g.K.Keeps.replies_keep other)
