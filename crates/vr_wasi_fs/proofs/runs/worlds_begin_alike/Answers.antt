use Rattle.std.proofs.Common.{[], refl}
use Rattle.vr_wasi_calls.proofs.WorldLemmas.{first_is_world}
use Rattle.vr_wasi_calls.specs.Worlds.{first_descriptors}
use Rattle.vr_wasi_fs.proofs.runs.worlds_begin_alike.Goals as goal

pub returns : goal.returns
returns c = λ path grants input a b seen. record {
  fits = first_is_world path grants a input [] first_descriptors refl;
  agree = record {
    path = refl;
    grants = refl;
    input = refl;
    taken = refl;
    output = refl;
    descriptors = refl;
    files = seen;
  };
}
