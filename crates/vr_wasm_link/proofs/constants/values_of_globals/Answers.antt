use Rattle.std.proofs.Common.{rules}
use Rattle.std.proofs.lemmas.Iterator.{YieldsList-from_map, YieldsList-from_slice, items_from_collect}
use Rattle.std.specs.Prelude.{[]}
use Rattle.vr_wasm_ast.specs.declared.tree.GlobalDef.{GlobalDef}
use Rattle.vr_wasm_ast.specs.Instructions.{instructions_of}
use Rattle.vr_wasm_link.specs.Constants.{constant_value}
use Rattle.vr_wasm_link.proofs.constants.values_of_globals.Goals as goal

pub returns : goal.returns
returns c =
    items_from_collect c.collect.result c.collect.ensures.ran
    (YieldsList-from_map _ (λ (g : GlobalDef). constant_value [] (instructions_of g.init))
    (YieldsList-from_slice c.args.globals.now (cc)) (cc) (λ x r q k. search rules))
