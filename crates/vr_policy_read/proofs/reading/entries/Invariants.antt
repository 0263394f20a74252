-- The entries so far and those that are left to read are those of the whole list.
use Rattle.std.proofs.Common.{◌≡◌, ◌++◌, Ok, drop}
use Rattle.serde_json.specs.View.{items_view}
use Rattle.vr_base.specs.Checks.{◌>>=◌}
use Rattle.vr_policy_read.specs.Members.{entries_from}
use Rattle.vr_policy_read.proofs.reading.entries.Given as goal

abbrev pub invariant-loop-k : goal.invariant-loop-k
invariant-loop-k g l =
    (entries_from l.k g.T.FromObject.LIST g.T.FromObject.value_in (items_view (drop l.k l.list.items)) >>= λ rest. Ok (l.all.items ++ rest))
    ≡ entries_from 0 g.T.FromObject.LIST g.T.FromObject.value_in (items_view l.list.items)
