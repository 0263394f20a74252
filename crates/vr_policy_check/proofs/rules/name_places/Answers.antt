use Rattle.std.proofs.Common.{ap}
use Rattle.vr_policy_check.specs.Rules.{rule}
use Rattle.vr_policy_check.proofs.RepeatLemmas.{names_new, names_indexed, names_repeat}
use Rattle.vr_policy_check.proofs.TellLemmas.{tells_rule}
use Rattle.vr_policy_check.proofs.rules.name_places.Goals as goal

pub returns-in-Places-clause-rule : goal.returns-in-Places-clause-rule
returns-in-Places-clause-rule c = ap (rule c.args.kind) (names_new c.args.names.now c.in_ok-places.field-0 c.in-Places.places c.in-Places.is c.in_ok-places.ensures)

pub returns-in-Places-clause-names : goal.returns-in-Places-clause-names
returns-in-Places-clause-names c = names_indexed c.args.names.now c.in_ok-places.field-0 c.in-Places.places c.in-Places.is c.in_ok-places.ensures

pub returns-in-Repeat-clause-rule : goal.returns-in-Repeat-clause-rule
returns-in-Repeat-clause-rule c =
    tells_rule c.args.kind c.in-Repeat.at _ (names_repeat c.args.names.now c.in_ok-places.field-0 c.in-Repeat.at c.in-Repeat.is c.in_ok-places.ensures)
