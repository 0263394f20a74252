use Rattle.vr_wasi_calls.proofs.TypeLemmas.{same_types_exact}
use Rattle.vr_wasi_calls.proofs.functions.are_same.Goals as goal

pub returns : goal.returns
returns c = same_types_exact c.are_equal.result c.args.types.now c.args.others.now
    c.are_equal.ensures
