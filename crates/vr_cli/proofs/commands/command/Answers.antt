use Rattle.std.proofs.Common.{map, refl}
use Rattle.std.specs.Prelude.{string_bytes}
use Rattle.vr_cli.specs.Commands.{commands}
use Rattle.vr_cli.proofs.CommandLemmas.{ends_asked, no_task, usage_at, usage_never}
use Rattle.vr_cli.proofs.EndingLemmas.{never_usage}
use Rattle.vr_cli.proofs.FileWordLemmas.{named_asked}
use Rattle.vr_cli.proofs.commands.command.Goals as goal

pub returns-in-Err-clause-usage : goal.returns-in-Err-clause-usage
returns-in-Err-clause-usage g c = usage_at (map string_bytes c.args.words.now) _ _ refl c.in-Err.ensures.refused

pub returns-in-Err-clause-ends : goal.returns-in-Err-clause-ends
returns-in-Err-clause-ends g c task asks = absurd (no_task (map string_bytes c.args.words.now) _ task c.in-Err.ensures.accepted asks)

pub returns-in-Ok-run-clause-usage : goal.returns-in-Ok-run-clause-usage
returns-in-Ok-run-clause-usage g c = usage_never (map string_bytes c.args.words.now) _ _ c.in-Ok.ensures.refused (λ place same. cc (same))

pub returns-in-Ok-run-clause-ends : goal.returns-in-Ok-run-clause-ends
returns-in-Ok-run-clause-ends g c task asks =
    ends_asked (map string_bytes c.args.words.now) _ _ _ task _ _ _ refl c.in-Ok.ensures.accepted asks c.in-Ok-run.ensures.says

pub returns-in-Err-run-clause-usage : goal.returns-in-Err-run-clause-usage
returns-in-Err-run-clause-usage g c = usage_never (map string_bytes c.args.words.now) _ _ c.in-Ok.ensures.refused (never_usage _ _ _ _ _ c.in-Err-run.ensures.caused)

pub returns-in-Err-run-clause-ends : goal.returns-in-Err-run-clause-ends
returns-in-Err-run-clause-ends g c task asks =
    ends_asked (map string_bytes c.args.words.now) _ _ _ task _ _ _ refl c.in-Ok.ensures.accepted asks c.in-Err-run.ensures.says

pub returns-in-Err-run-clause-word : goal.returns-in-Err-run-clause-word
returns-in-Err-run-clause-word g c =
    named_asked (map string_bytes c.args.words.now) commands _ _ _ refl c.in-Ok.ensures.accepted c.in-Err-run.ensures.blamed
