-- What a desk that answers from the call itself keeps of it.
use Rattle.std.specs.Prelude.{◌≡◌, ℕ, true, List, [], ◌∷◌, ◌++◌, Result, Ok, Err}
use Rattle.vr_base.specs.Calls.{is_made}
use Rattle.vr_base.specs.declared.calls.Call.{Call}
use Rattle.vr_base.specs.declared.calls.Entry.{Entry}
use Rattle.vr_base.specs.declared.calls.Reply.{Reply}
use Rattle.vr_base.specs.declared.memory.NoMemory.{NoMemory}

-- The call was made and has its entry, or memory ran out before.
abbrev pub Records : ℕ → Call → List Entry → List Entry → Result Reply NoMemory → Type 0
Records who call old new (Ok reply) =
    (new ≡ old ++ record { seat = 0; who = who; call = call; reply = reply } ∷ [])
    × (is_made reply ≡ true)
Records who call old new (Err refused) = new ≡ old
