use Rattle.std.proofs.Common.{Some, ap, sym, subst, ◌∙◌}
use Rattle.std.specs.FinMap.{find}
use Rattle.vr_files.specs.FileMaps.{path_cmp}
use Rattle.vr_files.specs.Changes.{Change, EditTable}
use Rattle.vr_files.specs.Entries.{IsAt, IsGap}
use Rattle.vr_files.proofs.EntryLemmas.{find_at, find_gap}
use Rattle.vr_files.proofs.edits.Edits.get.Goals as goal

pub returns-in-Ok : goal.returns-in-Ok
returns-in-Ok c =
    let es = c.self.inside.entries.items in
    let at : IsAt c.args.name.now es c.in-Ok.place = subst (λ x. IsAt c.args.name.now x c.in-Ok.place) c.deref.ensures.value c.in-Ok.ensures.found in
    ap (λ (x : Change). Some x.1) c.index.ensures ∙ sym (find_at c.args.name.now es c.in-Ok.place c.index.result.now at) ∙ ap (λ (e : EditTable). find path_cmp c.args.name.now e.changes) c.self.view_is

pub returns-in-Err : goal.returns-in-Err
returns-in-Err c =
    let es = c.self.inside.entries.items in
    let gap : IsGap c.args.name.now es c.in-Err.field-0 = subst (λ x. IsGap c.args.name.now x c.in-Err.field-0) c.deref.ensures.value c.in-Err.ensures.absent in
    sym (find_gap c.args.name.now es c.in-Err.field-0 gap) ∙ ap (λ (e : EditTable). find path_cmp c.args.name.now e.changes) c.self.view_is
