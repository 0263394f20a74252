use Rattle.std.proofs.Common.{◌∙◌, sym}
use Rattle.vr_files.proofs.PageLemmas.{same_from_pointwise, pointwise_from_same}
use Rattle.vr_files.proofs.pages.same_pages.Goals as goal

pub returns : goal.returns
returns c = (
  λ t. same_from_pointwise c.args.a.now c.args.b.now (sym c.eq.ensures ∙ t),
  λ same. c.eq.ensures ∙ pointwise_from_same c.args.a.now c.args.b.now c.requires.first c.requires.second same,
)
