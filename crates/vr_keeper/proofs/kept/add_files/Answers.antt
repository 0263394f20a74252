use Rattle.std.proofs.Common.{◌≡◌, ◌+◌, [], ◌∷◌, ◌++◌, take, sym, ap, ◌∙◌, append_assoc}
use Rattle.std.proofs.lemmas.List.{append-nil}
use Rattle.vr_keeper.specs.Keepers.{edited_rows}
use Rattle.vr_keeper.proofs.RowLemmas.{edited_rows-more}
use Rattle.vr_keeper.proofs.kept.add_files.Goals as goal
use Rattle.vr_keeper.proofs.kept.add_files.Goals.{in-Some+in_ok-from_slice+in_ok-to_bytes+in_ok-push, in_default}

pub loop-path-preserved : goal.loop-path-preserved
loop-path-preserved c =
    let first = c.args.rows.now.items in
    let edits = c.args.edits.now in
    let i = c.loop-path.path-index in
    let e = c.loop-path-item.result in
    let more = edited_rows-more edits i e c.loop-path-test.true c.loop-path-item.is in
    let so_far = edited_rows (take i edits) in
    let before : c.loop-path.rows.items ≡ first ++ so_far = c.loop-path.invariant in
    elim c.match-body.branch [
      | in-Some+in_ok-from_slice+in_ok-to_bytes+in_ok-push w ↦
          let row : (w.in_ok-from_slice.field-0, w.in_ok-to_bytes.field-0) ∷ [] ≡ edited_rows (e ∷ []) =
          ap (λ n. (n, w.in_ok-to_bytes.field-0) ∷ []) (w.in_ok-from_slice.ensures ∙ w.as_slice.ensures.bytes) ∙ ap (λ x. (e.0, x) ∷ []) w.in_ok-to_bytes.ensures
          ∙ sym (ap (λ o. edited_rows ((e.0, o) ∷ [])) w.in-Some.is) in
          ap (λ v. v.items) w.rows-is ∙ w.in_ok-push.ensures.items ∙ ap (λ x. x ++ (w.in_ok-from_slice.field-0, w.in_ok-to_bytes.field-0) ∷ []) before
          ∙ ap (λ x. first ++ so_far ++ x) row ∙ append_assoc first so_far (edited_rows (e ∷ [])) ∙ ap (λ x. first ++ x) (sym more)
      | in_default w ↦
          let none : edited_rows (e ∷ []) ≡ [] = ap (λ o. edited_rows ((e.0, o) ∷ [])) w.in_default.is in
          ap (λ v. v.items) w.rows-is ∙ before ∙ ap (λ x. first ++ x) (sym (append-nil so_far) ∙ ap (λ x. so_far ++ x) (sym none) ∙ sym more)
    ]
