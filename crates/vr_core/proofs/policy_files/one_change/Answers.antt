use Rattle.std.proofs.Common.{◌≡◌, [], ◌∷◌, Some, rules, refl}
use Rattle.vr_files.proofs.DifferenceLemmas.{distinct_from_sorted}
use Rattle.vr_core.proofs.policy_files.one_change.Goals as goal

pub of-requires : goal.of-requires
of-requires c =
    let items : c.push.new.self.items ≡ (c.args.path, Some c.args.body) ∷ [] = search rules in
    rw items (distinct_from_sorted ((c.args.path, Some c.args.body) ∷ []) refl)
