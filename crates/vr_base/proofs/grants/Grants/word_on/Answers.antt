use Rattle.std.proofs.Common.{rules, ◌≡◌, ◌∙◌, ◌≤◌, length, sym, option_map}
use Rattle.std.proofs.lemmas.List.{take_all}
use Rattle.vr_base.specs.Rights.{covering_grants}
use Rattle.vr_base.proofs.Longest.{IsBest, word_best, best_more, best_same}
use Rattle.vr_base.proofs.grants.Grants.word_on.Goals as goal
use Rattle.vr_base.proofs.grants.Grants.word_on.Goals.{then-is_better, else-is_better}

pub loop-grant-preserved : goal.loop-grant-preserved
loop-grant-preserved c =
    let same : c.deref-grant-items.result.now ≡ c.args.self.now = search rules in
    let within = rw same at c.loop-grant-test.true in
    let item = rw same at c.grant-item.is in
    let best = option_map (λ b. b.now) c.loop-grant.best in
    elim c.if-is_better.branch [
      | then-is_better w ↦ rw w.best-is (best_more c.args.path.now c.args.self.now c.loop-grant.grant-index best c.grant-item.result within item c.loop-grant.invariant (sym c.is_better.ensures ∙ w.if-is_better.true))
      | else-is_better w ↦ rw w.best-is (best_same c.args.path.now c.args.self.now c.loop-grant.grant-index best c.grant-item.result within item c.loop-grant.invariant (sym c.is_better.ensures ∙ w.if-is_better.false))
    ]

pub returns-in-Some : goal.returns-in-Some
returns-in-Some c =
    let same : c.deref-grant-items.result.now ≡ c.args.self.now = search rules in
    let past : length c.args.self.now ≤ c.loop-grant.grant-index = rw same at c.loop-grant-test.false in
    let best : IsBest (covering_grants c.args.path.now c.args.self.now) (option_map (λ b. b.now) c.loop-grant.best) = rw (take_all c.loop-grant.grant-index c.args.self.now past) at c.loop-grant.invariant in
    rw c.in-Some.is at (word_best c.args.path.now c.args.self.now (option_map (λ b. b.now) c.loop-grant.best) best)
