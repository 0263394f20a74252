use Rattle.std.proofs.Common.{subst, ap, sym, ◌∙◌}
use Rattle.std.specs.Prelude.{is_some}
use Rattle.std.specs.FinMap as map
use Rattle.vr_files.specs.FileMaps.{FileTable}
use Rattle.vr_files.specs.Entries.{AreSorted}
use Rattle.vr_files.proofs.MapLemmas.{get-made, made-without, without_sorted}
use Rattle.vr_files.proofs.files.Files.remove.Goals as goal

pub invariant_of-self : goal.invariant_of-self
invariant_of-self c = subst AreSorted (sym c.remove.ensures.entries) (without_sorted c.args.path.now c.self.inside.entries.items c.self.invariant)

pub returns-clause-there : goal.returns-clause-there
returns-clause-there c =
    c.remove.ensures.there ∙ ap is_some (sym (get-made c.self.inside.entries.items c.args.path.now c.self.invariant)) ∙ ap (λ (t : FileTable). is_some (map.get t.map c.args.path.now)) c.self.view_is

pub returns-clause-removed : goal.returns-clause-removed
returns-clause-removed c =
    ap (λ es. map.from_sorted es) c.remove.ensures.entries ∙ made-without c.args.path.now c.self.inside.entries.items c.self.invariant
    ∙ ap (λ (t : FileTable). map.remove t.map c.args.path.now) c.self.view_is
