use Rattle.std.proofs.Common.{ap, sym, refl, ◌∙◌, arith, Some}
use Rattle.vr_face.specs.Resources.{FileNamed, PipelineNamed}
use Rattle.vr_face.proofs.RouterLemmas.{number, no-number}
use Rattle.vr_face.proofs.PathLemmas.{rule, file-found, pipeline-found, hash-found, none-found}
use Rattle.vr_face.proofs.targets.target_of.Goals as goal

pub rest_of-requires : goal.rest_of-requires
rest_of-requires c =
    let n = number _ _ c.requires _ c.in-Ok.ensures.found 0 c.in-0.is in
    (file-found c.args.path.now n).0

pub rest_of-requires-in-1 : goal.rest_of-requires-in-1
rest_of-requires-in-1 c =
    let n = number _ _ c.requires _ c.in-Ok.ensures.found 1 c.in-1.is in
    (pipeline-found c.args.path.now n).0

pub returns-in-0 : goal.returns-in-0
returns-in-0 c = record {
  kind = let n = number _ _ c.requires _ c.in-Ok.ensures.found 0 c.in-0.is in
      ap (λ name. Some (FileNamed name)) c.rest_of.ensures ∙ sym (file-found c.args.path.now n).1;
  rule = rule c.args.path.now;
}

pub returns-in-1 : goal.returns-in-1
returns-in-1 c = record {
  kind = let n = number _ _ c.requires _ c.in-Ok.ensures.found 1 c.in-1.is in
      ap (λ id. Some (PipelineNamed id)) c.rest_of-in-1.ensures ∙ sym (pipeline-found c.args.path.now n).1;
  rule = rule c.args.path.now;
}

pub returns-in_default : goal.returns-in_default
returns-in_default c =
    let n = number _ _ c.requires _ c.in-Ok.ensures.found _ refl in
    record {
      kind = sym (hash-found c.args.path.now _ n (λ e. omega arith) (λ e. omega arith));
      rule = rule c.args.path.now;
    }

pub returns-in-Err : goal.returns-in-Err
returns-in-Err c = record {
  kind = sym (none-found c.args.path.now (no-number _ _ c.requires c.in-Err.ensures.missing));
  rule = rule c.args.path.now;
}
