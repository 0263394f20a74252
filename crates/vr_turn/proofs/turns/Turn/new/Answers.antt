use Rattle.std.proofs.Common.{rules, ◌≡◌, Some, [], ◌∷◌}
use Rattle.vr_turn.proofs.Keeping.{opens}
use Rattle.vr_turn.proofs.turns.Turn.new.Goals as goal

pub new-requires : goal.new-requires
new-requires g c =
    let items : c.push.new.self.items ≡ Some c.args.value ∷ [] = search rules in
    rw (items, c.of.ensures) (opens g.T.Chronicle.account c.args.most c.args.value c.requires.empty c.requires.most)
