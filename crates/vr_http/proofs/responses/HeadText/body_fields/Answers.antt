use Rattle.vr_http.specs.Responses.{body_fields}
use Rattle.vr_http.proofs.responses.HeadText.body_fields.Goals as goal

pub returns-in-Octets : goal.returns-in-Octets
unfolding body_fields
returns-in-Octets c = rw c.in-Octets.is c.typed.ensures

pub returns-in-Text : goal.returns-in-Text
unfolding body_fields
returns-in-Text c = rw c.in-Text.is c.typed-in-Text.ensures
