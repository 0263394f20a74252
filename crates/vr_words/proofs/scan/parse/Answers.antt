use Rattle.std.proofs.Common.{◌∙◌, sym, map}
use Rattle.std.specs.Prelude.{string_bytes}
use Rattle.vr_words.proofs.AnswerLemmas.{asked_accepts, accepts_asked}
use Rattle.vr_words.proofs.PlaceLemmas.{refused_by}
use Rattle.vr_words.proofs.scan.parse.Goals as goal

pub returns-clause-accepted : goal.returns-clause-accepted
returns-clause-accepted c task = (
  λ h. asked_accepts c.args.verbs (map string_bytes c.args.words.now) task (sym c.scan.ensures ∙ h),
  λ h. c.scan.ensures ∙ accepts_asked c.args.verbs (map string_bytes c.args.words.now) task h,
)

pub returns-clause-refused : goal.returns-clause-refused
returns-clause-refused c place = refused_by c.args.verbs (map string_bytes c.args.words.now) c.scan.result c.scan.ensures place
