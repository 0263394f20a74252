use Rattle.vr_wasm_ast.proofs.cursor.+unsigned_in.Given as goal

abbrev pub decreases-unsigned_in : goal.decreases-unsigned_in
decreases-unsigned_in l = l.bits
