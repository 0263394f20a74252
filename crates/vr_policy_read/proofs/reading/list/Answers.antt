-- The length of what was read is that of the list in the tree.
use Rattle.std.proofs.Common.{◌≡◌, ◌≤◌, ◌<◌, arith, refl, Ok, length}
use Rattle.std.proofs.lemmas.Bool.{le-ltb, lt-ltb}
use Rattle.serde_json.proofs.Views.{items_len-items_view}
use Rattle.serde_json.specs.View.{view, items_view}
use Rattle.vr_policy_read.specs.Members.{list_in}
use Rattle.vr_policy_read.proofs.reading.list.Goals as goal

pub returns-then-len-gt-MOST_ENTRIES : goal.returns-then-len-gt-MOST_ENTRIES
returns-then-len-gt-MOST_ENTRIES g c =
    let found : list_in g.T.FromObject.LIST (view c.args.value.now) ≡ Ok (items_view c.in_ok-list.list.now.items) = rw (← c.LIST.ensures) c.in_ok-list.ensures in
    let many : 1024 < length c.in_ok-list.list.now.items = omega arith in
    rw (found, items_len-items_view, lt-ltb _ _ many, c.LIST-then-len-gt-MOST_ENTRIES.ensures) refl

pub returns : goal.returns
returns g c =
    let found : list_in g.T.FromObject.LIST (view c.args.value.now) ≡ Ok (items_view c.in_ok-list.list.now.items) = rw (← c.LIST.ensures) c.in_ok-list.ensures in
    let few : length c.in_ok-list.list.now.items ≤ 1024 = omega arith in
    rw (found, items_len-items_view, le-ltb _ _ few) c.entries.ensures
