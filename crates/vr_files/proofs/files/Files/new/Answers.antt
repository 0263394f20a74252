use Rattle.std.proofs.Common.{ap, ◌∙◌}
use Rattle.std.specs.FinMap.{from_sorted}
use Rattle.vr_files.proofs.MapLemmas.{made-nil}
use Rattle.vr_files.proofs.files.Files.new.Goals as goal

pub returns : goal.returns
returns c = ap (λ es. from_sorted es) c.new.ensures.items ∙ made-nil
