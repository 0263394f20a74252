use Rattle.std.proofs.Common.{length, ap, sym, ◌∙◌}
use Rattle.vr_files.proofs.PagedLemmas.{length-kept}
use Rattle.vr_files.proofs.paged.Paged.len.Goals as goal

pub returns-clause-len : goal.returns-clause-len
returns-clause-len c = sym (length-kept c.self.inside.len c.self.inside.pages.items c.self.invariant) ∙ ap length c.self.view_is
