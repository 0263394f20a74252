use Rattle.std.proofs.Common.{ℕ, arith}
use Rattle.std.proofs.lemmas.List.{length-take, length-drop}
use Rattle.vr_http.proofs.WindowLemmas.{consumed}
use Rattle.vr_http.proofs.inbox.Inbox.skip.Goals as goal

pub returns : goal.returns
returns c =
    let inbox = c.args.self.now in
    consumed inbox.buffer.items inbox.start inbox.end c.args.count (omega (arith, length-take {A = ℕ}, length-drop {A = ℕ}))
