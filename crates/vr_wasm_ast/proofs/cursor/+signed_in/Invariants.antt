use Rattle.vr_wasm_ast.proofs.cursor.+signed_in.Given as goal

abbrev pub decreases-signed_in : goal.decreases-signed_in
decreases-signed_in l = l.bits
