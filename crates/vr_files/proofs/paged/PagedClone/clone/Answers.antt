use Rattle.std.proofs.Common.{take, ap, ◌∙◌}
use Rattle.vr_files.proofs.PagedLemmas.{paged_clones, bytes_of-clones}
use Rattle.vr_files.proofs.paged.PagedClone.clone.Goals as goal

pub invariant_of-result : goal.invariant_of-result
invariant_of-result c = paged_clones c.self.inside.len c.self.inside.pages.items c.in_ok-clone.field-0.items c.self.invariant c.in_ok-clone.ensures.cases.0

pub returns : goal.returns
returns c = record {
  cases = ap (λ b. take c.self.inside.len b) (bytes_of-clones c.self.inside.pages.items c.in_ok-clone.field-0.items c.in_ok-clone.ensures.cases.0).0 ∙ c.self.view_is;
}
