use Rattle.vr_core.proofs.plain_desk.PlainDesk.new.Goals as goal

pub invariant_of-result : goal.invariant_of-result
invariant_of-result g c = record { own = c.requires.own; legal = ∣ (_, c.journal-entries.ensures.book.history) ∣₁ }
