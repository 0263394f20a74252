use Rattle.std.proofs.Common.{subst, ap, sym, ◌∙◌}
use Rattle.vr_files.specs.Changes.{EditTable, applied, changed}
use Rattle.vr_files.specs.Entries.{AreSorted}
use Rattle.vr_files.proofs.MapLemmas.{put_sorted}
use Rattle.vr_files.proofs.OverlayLemmas.{applied-put}
use Rattle.vr_files.proofs.edits.Edits.put.Goals as goal

pub invariant_of-self : goal.invariant_of-self
invariant_of-self c = subst AreSorted (sym c.in-Ok.ensures.ok) (put_sorted c.args.path c.args.body c.self.inside.entries.items c.self.invariant)

pub returns-clause-applied : goal.returns-clause-applied
returns-clause-applied c = λ files.
    ap (λ es. applied files es) c.in-Ok.ensures.ok ∙ applied-put files c.self.inside.entries.items c.args.path c.args.body c.self.invariant
    ∙ ap (λ (e : EditTable). changed (applied files e.changes) c.args.path c.args.body) c.self.view_is
