use Rattle.std.proofs.Common.{◌∙◌, sym}
use Rattle.vr_session.proofs.Settling.{also_keeps, jointly_counted, jointly_failed, wanted_jointly}
use Rattle.vr_session.proofs.attending.settle.Goals as goal

pub returns-clause-attended : goal.returns-clause-attended
returns-clause-attended g c =
    let answer = c.joint_answer-answer.ensures in
    let porch = c.into_listener.ensures in
    record {
      listens = porch.listens;
      count = rw answer (jointly_counted _ _ _ c.args.porch.left _ _ c.requires.over (λ e. porch.together (sym c.failed.ensures ∙ e)));
      most = porch.most;
      served = also_keeps _ _ c.args.porch.wanted _ (λ e. rw answer (wanted_jointly _ _ _ (c.wanted.ensures ∙ e))) porch.served;
      cause = rw answer (jointly_failed _ _ _ _ _ porch.later (λ e. porch.risen (sym c.failed.ensures ∙ e)) (λ e. rw porch.listener (c.requires.risen e)));
    }
