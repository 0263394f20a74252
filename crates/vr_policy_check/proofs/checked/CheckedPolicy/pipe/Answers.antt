-- There is a pipeline for each place.
use Rattle.std.proofs.Common.{◌≡◌, Some, length, ap, sym, ◌∙◌, subst, arith}
use Rattle.std.specs.Prelude.{slice_get}
use Rattle.std.proofs.lemmas.Option.{slice_get-get_or}
use Rattle.vr_policy_check.specs.Checked.{IsChecked}
use Rattle.vr_policy_check.specs.Rules.{CheckedData}
use Rattle.vr_policy_check.proofs.CheckedLemmas.{as_many_trees}
use Rattle.vr_policy_check.proofs.checked.CheckedPolicy.pipe.Goals as goal

pub index-requires : goal.index-requires
index-requires c =
    let many : length c.self.inside.pipes.items ≡ length c.args.self.now.policy.pipelines =
    ap (λ (p : CheckedData). length p.pipes) c.self.view_is ∙ as_many_trees c.args.self.now (subst IsChecked c.self.view_is c.self.invariant.checked) in
    omega (arith, many, c.requires, c.self.inside.pipes.ok.0)

pub returns-clause-tree : goal.returns-clause-tree
returns-clause-tree c =
    let many : length c.self.inside.pipes.items ≡ length c.args.self.now.policy.pipelines =
    ap (λ (p : CheckedData). length p.pipes) c.self.view_is ∙ as_many_trees c.args.self.now (subst IsChecked c.self.view_is c.self.invariant.checked) in
    sym (ap (λ (p : CheckedData). slice_get p.pipes c.args.place) c.self.view_is)
    ∙ slice_get-get_or c.self.inside.pipes.items c.args.place c.index.result.now (omega (arith, many, c.requires))
    ∙ ap Some (sym c.index.ensures)
