use Rattle.std.proofs.Common.{refl, inl}
use Rattle.vr_http.proofs.RequestLemmas.{few_lines}
use Rattle.vr_http.proofs.heads.parse_head.Goals as goal

pub returns-in-Err : goal.returns-in-Err
returns-in-Err c = inl (few_lines c.args.text.now c.requires c.in-Err.ensures.no_room, refl)
