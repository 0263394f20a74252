use Rattle.std.proofs.Common.{subst, ap, sym, ◌∙◌}
use Rattle.std.specs.Prelude.{is_some}
use Rattle.vr_files.specs.Entries.{IsAt, IsGap}
use Rattle.vr_files.proofs.EntryLemmas.{find_at, find_gap, without_at, without_gap}
use Rattle.vr_files.proofs.kept.remove.Goals as goal

pub returns-in-Ok-clause-there : goal.returns-in-Ok-clause-there
returns-in-Ok-clause-there c =
    let es = c.args.entries.now.items in
    let at : IsAt c.args.path.now es c.in-Ok.place = subst (λ x. IsAt c.args.path.now x c.in-Ok.place) c.deref.ensures.value c.in-Ok.ensures.found in
    sym (ap is_some (find_at c.args.path.now es c.in-Ok.place c.remove.result at))

pub returns-in-Ok-clause-entries : goal.returns-in-Ok-clause-entries
returns-in-Ok-clause-entries c =
    let es = c.args.entries.now.items in
    let at : IsAt c.args.path.now es c.in-Ok.place = subst (λ x. IsAt c.args.path.now x c.in-Ok.place) c.deref.ensures.value c.in-Ok.ensures.found in
    c.remove.ensures.items ∙ sym (without_at c.args.path.now es c.in-Ok.place c.remove.result at)

pub returns-in-Err-clause-there : goal.returns-in-Err-clause-there
returns-in-Err-clause-there c =
    let es = c.args.entries.now.items in
    let gap : IsGap c.args.path.now es c.in-Err.field-0 = subst (λ x. IsGap c.args.path.now x c.in-Err.field-0) c.deref.ensures.value c.in-Err.ensures.absent in
    sym (ap is_some (find_gap c.args.path.now es c.in-Err.field-0 gap))

pub returns-in-Err-clause-entries : goal.returns-in-Err-clause-entries
returns-in-Err-clause-entries c =
    let es = c.args.entries.now.items in
    let gap : IsGap c.args.path.now es c.in-Err.field-0 = subst (λ x. IsGap c.args.path.now x c.in-Err.field-0) c.deref.ensures.value c.in-Err.ensures.absent in
    sym (without_gap c.args.path.now es c.in-Err.field-0 gap)
