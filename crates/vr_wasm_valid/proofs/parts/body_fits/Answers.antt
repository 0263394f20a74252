use Rattle.vr_wasm_valid.proofs.parts.body_fits.Goals as goal

pub returns-in-Some : goal.returns-in-Some
returns-in-Some c = rw (← c.in-Some.ensures) c.check_body.ensures
