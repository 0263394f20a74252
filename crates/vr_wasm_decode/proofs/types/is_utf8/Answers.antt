use Rattle.std.proofs.Common.{◌≡◌, ◌∙◌}
use Rattle.std.specs.Str.{IsValidUpTo}
use Rattle.vr_wasm_decode.proofs.TextLemmas.{tests_text}
use Rattle.vr_wasm_decode.proofs.types.is_utf8.Goals as goal

pub returns : goal.returns
returns c = c.is_ok.ensures.value ∙ tests_text c.args.bytes.now (λ x. x.now ≡ c.args.bytes.now) (λ e. IsValidUpTo c.args.bytes.now _) c.from_utf8.result c.from_utf8.ensures.cases
