use Rattle.vr_words.proofs.NameLemmas.{verb_unknown}
use Rattle.vr_words.proofs.commands.Verb.named.Goals as goal

pub returns-in_default : goal.returns-in_default
returns-in_default c =
    let names = c.in_default in
    verb_unknown c.args.name.now names.not-hash names.not-check names.not-flows names.not-replay names.not-make names.not-serve
