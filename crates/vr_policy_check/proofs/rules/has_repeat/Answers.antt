use Rattle.std.proofs.Common.{ap, sym, ◌∙◌, map, is_some, bytes_eq}
use Rattle.vr_policy_check.specs.Repeats.{first_repeat}
use Rattle.vr_policy_check.proofs.RepeatLemmas.{bytes_of, names_new, names_repeat}
use Rattle.vr_policy_check.proofs.rules.has_repeat.Goals as goal

pub returns-in-Places : goal.returns-in-Places
returns-in-Places c =
    let none = names_new c.deref.result.now c.in_ok-index_of.field-0 c.in-Places.field-0 c.in-Places.is c.in_ok-index_of.ensures in
    let names = ap (map bytes_of) c.deref.ensures.value ∙ c.in_ok-names.ensures in
    sym (ap is_some (ap (first_repeat bytes_eq) (sym names) ∙ none))

pub returns : goal.returns
returns c =
    let some_at = names_repeat c.deref.result.now c.in_ok-index_of.field-0 c.in-Repeat.field-0 c.in-Repeat.is c.in_ok-index_of.ensures in
    let names = ap (map bytes_of) c.deref.ensures.value ∙ c.in_ok-names.ensures in
    sym (ap is_some (ap (first_repeat bytes_eq) (sym names) ∙ some_at))
