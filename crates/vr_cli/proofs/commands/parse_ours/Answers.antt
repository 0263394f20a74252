use Rattle.std.proofs.Common.{map}
use Rattle.std.specs.Prelude.{string_bytes}
use Rattle.vr_cli.proofs.CommandLemmas.{answers_ours}
use Rattle.vr_cli.proofs.commands.parse_ours.Goals as goal

pub returns-clause-ours : goal.returns-clause-ours
returns-clause-ours c = answers_ours _ (map string_bytes c.args.words.now) c.parse.ensures.accepted
