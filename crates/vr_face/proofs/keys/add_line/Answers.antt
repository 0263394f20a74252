use Rattle.std.proofs.Common.{◌≡◌, true, false, ◌∷◌, Some, refl, sym, ◌∙◌}
use Rattle.std.specs.Option.{option_copied}
use Rattle.vr_base.specs.Cuts.{parts_left}
use Rattle.vr_base.specs.Signs.{space}
use Rattle.vr_face.specs.Keys.{keyed_by, listed_id}
use Rattle.vr_text.specs.Lines.{is_skipped}
use Rattle.vr_face.proofs.KeyLemmas.{added_line, holds_more}
use Rattle.vr_face.proofs.keys.add_line.Goals as goal

pub returns-then-is_skipped : goal.returns-then-is_skipped
returns-then-is_skipped c = λ before holds.
    let skipped : is_skipped c.args.line.now ≡ true = sym c.is_skipped.ensures ∙ c.if-is_skipped.true in
    (before, rw skipped refl, holds)

pub returns-in-None : goal.returns-in-None
returns-in-None c = λ before holds.
    let key = c.in-Some-read_last.key in
    let who = c.in-Some.who in
    let skipped : is_skipped c.args.line.now ≡ false = sym c.is_skipped.ensures ∙ c.if-is_skipped.false in
    let listed : listed_id c.args.policy.now c.cut_at.result.0.now ≡ Some who = sym c.in-Some.ensures in
    let keyed : keyed_by (parts_left space (option_copied c.cut_at.result.1)) ≡ Some key = sym c.in-Some-read_last.ensures in
    let free = sym (holds key) ∙ sym c.in_ok-insert.ensures.old ∙ c.in-None.is in (
      (key, who) ∷ before,
      added_line c.args.policy.now before c.args.line.now c.cut_at.result.0.now _ key who skipped c.cut_at.ensures.parts listed keyed free,
      holds_more c.args.holders.now c.insert.new.self before key who holds c.in_ok-insert.ensures.updates,
    )
