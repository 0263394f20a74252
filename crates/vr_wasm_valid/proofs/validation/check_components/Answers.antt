use Rattle.vr_wasm_valid.proofs.AnswerLemmas.{ends, goes_on, handed_on, stops}
use Rattle.vr_wasm_valid.proofs.validation.check_components.Goals as goal

pub returns-in_err-check_imports : goal.returns-in_err-check_imports
returns-in_err-check_imports c =
    handed_on c.from_residual.result c.from_residual.ensures.1
    (stops _ c.in_err-check_imports.ensures)

pub returns-in_err-check_functions : goal.returns-in_err-check_functions
returns-in_err-check_functions c =
    handed_on c.from_residual-in_err-check_functions.result c.from_residual-in_err-check_functions.ensures.1
    (goes_on c.in_ok-check_imports.ensures
    (stops _ c.in_err-check_functions.ensures))

pub returns-in_err-check_tables : goal.returns-in_err-check_tables
returns-in_err-check_tables c =
    handed_on c.from_residual-in_err-check_tables.result c.from_residual-in_err-check_tables.ensures.1
    (goes_on c.in_ok-check_imports.ensures
    (goes_on c.in_ok-check_functions.ensures
    (stops _ c.in_err-check_tables.ensures)))

pub returns-in_err-check_memories : goal.returns-in_err-check_memories
returns-in_err-check_memories c =
    handed_on c.from_residual-in_err-check_memories.result c.from_residual-in_err-check_memories.ensures.1
    (goes_on c.in_ok-check_imports.ensures
    (goes_on c.in_ok-check_functions.ensures
    (goes_on c.in_ok-check_tables.ensures
    (stops _ c.in_err-check_memories.ensures))))

pub returns-in_err-check_globals : goal.returns-in_err-check_globals
returns-in_err-check_globals c =
    handed_on c.from_residual-in_err-check_globals.result c.from_residual-in_err-check_globals.ensures.1
    (goes_on c.in_ok-check_imports.ensures
    (goes_on c.in_ok-check_functions.ensures
    (goes_on c.in_ok-check_tables.ensures
    (goes_on c.in_ok-check_memories.ensures
    (stops _ c.in_err-check_globals.ensures)))))

pub returns-in_err-check_exports : goal.returns-in_err-check_exports
returns-in_err-check_exports c =
    handed_on c.from_residual-in_err-check_exports.result c.from_residual-in_err-check_exports.ensures.1
    (goes_on c.in_ok-check_imports.ensures
    (goes_on c.in_ok-check_functions.ensures
    (goes_on c.in_ok-check_tables.ensures
    (goes_on c.in_ok-check_memories.ensures
    (goes_on c.in_ok-check_globals.ensures
    (stops _ c.in_err-check_exports.ensures))))))

pub returns-in_err-check_start : goal.returns-in_err-check_start
returns-in_err-check_start c =
    handed_on c.from_residual-in_err-check_start.result c.from_residual-in_err-check_start.ensures.1
    (goes_on c.in_ok-check_imports.ensures
    (goes_on c.in_ok-check_functions.ensures
    (goes_on c.in_ok-check_tables.ensures
    (goes_on c.in_ok-check_memories.ensures
    (goes_on c.in_ok-check_globals.ensures
    (goes_on c.in_ok-check_exports.ensures
    (stops _ c.in_err-check_start.ensures)))))))

pub returns-in_err-check_elements : goal.returns-in_err-check_elements
returns-in_err-check_elements c =
    handed_on c.from_residual-in_err-check_elements.result c.from_residual-in_err-check_elements.ensures.1
    (goes_on c.in_ok-check_imports.ensures
    (goes_on c.in_ok-check_functions.ensures
    (goes_on c.in_ok-check_tables.ensures
    (goes_on c.in_ok-check_memories.ensures
    (goes_on c.in_ok-check_globals.ensures
    (goes_on c.in_ok-check_exports.ensures
    (goes_on c.in_ok-check_start.ensures
    (stops _ c.in_err-check_elements.ensures))))))))

pub returns-in_err-check_bodies : goal.returns-in_err-check_bodies
returns-in_err-check_bodies c =
    handed_on c.from_residual-in_err-check_bodies.result c.from_residual-in_err-check_bodies.ensures.1
    (goes_on c.in_ok-check_imports.ensures
    (goes_on c.in_ok-check_functions.ensures
    (goes_on c.in_ok-check_tables.ensures
    (goes_on c.in_ok-check_memories.ensures
    (goes_on c.in_ok-check_globals.ensures
    (goes_on c.in_ok-check_exports.ensures
    (goes_on c.in_ok-check_start.ensures
    (goes_on c.in_ok-check_elements.ensures
    (stops _ c.in_err-check_bodies.ensures)))))))))

pub returns : goal.returns
returns c =
    goes_on c.in_ok-check_imports.ensures
    (goes_on c.in_ok-check_functions.ensures
    (goes_on c.in_ok-check_tables.ensures
    (goes_on c.in_ok-check_memories.ensures
    (goes_on c.in_ok-check_globals.ensures
    (goes_on c.in_ok-check_exports.ensures
    (goes_on c.in_ok-check_start.ensures
    (goes_on c.in_ok-check_elements.ensures
    (goes_on c.in_ok-check_bodies.ensures
    (ends c.check_segments.ensures)))))))))
