use Rattle.std.proofs.Common.{Ok, Err, ap, sym, ◌∙◌}
use Rattle.std.proofs.lemmas.Result.{err_from_is_err_and}
use Rattle.vr_pipe.proofs.AnswerLemmas.{as_pipe_tree, read_spells, read_keeps, spelled_gives, fault_gives, tells_pipe, tells_first}
use Rattle.vr_pipe.specs.Faults.{told}
use Rattle.vr_pipe.proofs.pipes.parse_pipe.Goals as goal

pub returns-in_err-tree-clause-only : goal.returns-in_err-tree-clause-only
returns-in_err-tree-clause-only c = λ e s.
    let p = err_from_is_err_and c.from_residual.result c.from_residual.ensures.1 in
    rw (p.1, p.2) (tells_pipe c.args.text.now (Ok e) (told c.in_err-tree.field-0.0) (spelled_gives c.args.text.now e s) c.in_err-tree.ensures)

pub returns-in_err-tree-clause-fault : goal.returns-in_err-tree-clause-fault
returns-in_err-tree-clause-fault c =
    let p = err_from_is_err_and c.from_residual.result c.from_residual.ensures.1 in
    rw (p.1, p.2) (tells_first c.args.text.now (told c.in_err-tree.field-0.0) c.in_err-tree.ensures)

pub returns-in_err-tree-clause-first : goal.returns-in_err-tree-clause-first
returns-in_err-tree-clause-first c = λ f h.
    let p = err_from_is_err_and c.from_residual.result c.from_residual.ensures.1 in
    rw (p.1, p.2) (tells_pipe c.args.text.now (Err f) (told c.in_err-tree.field-0.0) (fault_gives c.args.text.now f h) c.in_err-tree.ensures)

pub invariant_of-result : goal.invariant_of-result
invariant_of-result c =
    rw (c.into_vecs-programs.ensures.programs, c.into_vecs-programs.ensures.tests) (read_keeps c.args.text.now c.in_ok-tree.tree c.in_ok-tree.paths c.in_ok-tree.ensures)

pub returns-clause-found : goal.returns-clause-found
returns-clause-found c = read_spells c.args.text.now c.in_ok-tree.tree c.in_ok-tree.paths c.in_ok-tree.ensures

pub returns-clause-only : goal.returns-clause-only
returns-clause-only c = λ e s. sym (spelled_gives c.args.text.now e s) ∙ ap as_pipe_tree c.in_ok-tree.ensures

pub returns-clause-first : goal.returns-clause-first
returns-clause-first c = λ f h. sym (fault_gives c.args.text.now f h) ∙ ap as_pipe_tree c.in_ok-tree.ensures
