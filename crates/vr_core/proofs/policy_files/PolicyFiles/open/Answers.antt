use Rattle.std.proofs.Common.{◌≡◌, List, [], ◌∷◌, ◌++◌, Bool, true, false, Ok, Err, refl, sym, ap, ◌∙◌, append_assoc, length-append, arith}
use Rattle.std.specs.Prelude.{not}
use Rattle.vr_keeper.specs.Keepers.{Row, rows_map}
use Rattle.vr_core.specs.Opening.{is_refused, opening_of}
use Rattle.vr_core.specs.declared.opening.StartFault.TheVariants.{BadRow}
use Rattle.vr_core.proofs.OpeningLemmas.{bad_here, good_here, with_rows-push}
use Rattle.vr_files.specs.FileMaps.{no_files}
use Rattle.vr_core.proofs.policy_files.PolicyFiles.open.Goals as goal

turned : (made refused wanted : Bool) → made ≡ not refused → made ≡ not wanted → refused ≡ wanted
turned made true true e h = refl
turned made true false e h = absurd (let no : false ≡ true = sym e ∙ h in let f : ⊥ = cc in f)
turned made false true e h = absurd (let no : true ≡ false = sym e ∙ h in let f : ⊥ = cc in f)
turned made false false e h = refl

pub returns-then-not-branch-clause-files : goal.returns-then-not-branch-clause-files
returns-then-not-branch-clause-files c =
    let so_far = c.loop-name.invariant in
    let rows : List Row = c.loop-name.yielded in
    let row : Row = (c.in-Some.name, c.in-Some.body) in
    let first = c.in-Some.ensures.steps in
    let told = rw (c.as_slice.ensures, c.as_slice-in-loop-name.ensures, so_far.files) at c.in_ok-add.ensures.refused in
    let refused : is_refused (rows_map rows) row ≡ true = turned _ _ true told c.if-not-branch.true in
    ap opening_of (sym so_far.rows ∙ ap (λ left. rows ++ left) first.0) ∙ bad_here rows row _ so_far.good refused ∙ ap (λ n. Err (BadRow n)) (sym so_far.place)

pub loop-name-preserved : goal.loop-name-preserved
loop-name-preserved c =
    let so_far = c.loop-name.invariant in
    let rows : List Row = c.loop-name.yielded in
    let row : Row = (c.in-Some.name, c.in-Some.body) in
    let first = c.in-Some.ensures.steps in
    let told = rw (c.as_slice.ensures, c.as_slice-in-loop-name.ensures, so_far.files) at c.in_ok-add.ensures.refused in
    let made : is_refused (rows_map rows) row ≡ false = turned _ _ false told c.if-not-branch.false in
    let added = rw (c.as_slice.ensures, c.as_slice-in-loop-name.ensures, so_far.files) at (c.in_ok-add.ensures.made (ap Ok c.if-not-branch.false)) in
    record {
      policy = c.in_ok-add.ensures.policy ∙ so_far.policy;
      files = added ∙ sym (with_rows-push no_files rows row);
      good = good_here rows row so_far.good made;
      place = omega (arith, c.saturating_add-place.ensures, so_far.place, length-append {A = Row} rows (row ∷ []));
      rows = append_assoc rows (row ∷ []) _ ∙ ap (λ left. rows ++ left) (sym first.0) ∙ so_far.rows;
    }
