use Rattle.std.proofs.Common.{◌≡◌, vec_len, length, arith, ap, sym, ◌∙◌}
use Rattle.std.specs.FinMap.{len}
use Rattle.vr_files.specs.FileMaps.{FileTable}
use Rattle.vr_files.proofs.MapLemmas.{len-made}
use Rattle.vr_files.proofs.files.Files.len.Goals as goal

pub returns : goal.returns
returns c =
    let same : vec_len c.self.inside.entries ≡ length c.self.inside.entries.items = omega arith in
    c.len.ensures ∙ same ∙ sym (len-made c.self.inside.entries.items c.self.invariant) ∙ ap (λ (t : FileTable). len t.map) c.self.view_is
