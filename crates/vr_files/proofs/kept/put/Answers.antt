use Rattle.std.proofs.Common.{ℕ, List, subst, set, ap, sym, ◌∙◌}
use Rattle.vr_files.specs.Entries.{IsAt, IsGap}
use Rattle.vr_files.proofs.EntryLemmas.{put_at, put_gap}
use Rattle.vr_files.proofs.kept.put.Goals as goal

pub returns-in-Ok-clause-ok : goal.returns-in-Ok-clause-ok
returns-in-Ok-clause-ok c =
    let es = c.args.entries.now.items in
    let entry = c.args.entry in
    let place = c.in-Ok.place in
    let at : IsAt entry.0 es place = subst (λ x. IsAt entry.0 x place) c.deref.ensures.value (subst (λ p. IsAt p c.deref.result.now place) c.path.ensures c.in-Ok.ensures.found) in
    ap (λ (p : List ℕ). set es place (p, entry.1)) (sym (at.here entry)) ∙ sym (put_at entry.0 entry.1 es place entry at)

pub returns-in_ok-insert-in-Err-clause-ok : goal.returns-in_ok-insert-in-Err-clause-ok
returns-in_ok-insert-in-Err-clause-ok c =
    let es = c.args.entries.now.items in
    let entry = c.args.entry in
    let place = c.in-Err.place in
    let gap : IsGap entry.0 es place = subst (λ x. IsGap entry.0 x place) c.deref.ensures.value (subst (λ p. IsGap p c.deref.result.now place) c.path.ensures c.in-Err.ensures.absent) in
    c.in_ok-insert-in-Err.ensures.items ∙ sym (put_gap entry.0 entry.1 es place gap)
