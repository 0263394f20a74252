-- The names are in order, so the binary search finds what it says.
use Rattle.std.proofs.Common.{◌≡◌, List, ℕ, rules}
use Rattle.std.specs.Cmp.Lexicographic.{slice_cmp}
use Rattle.std.specs.Ordering.{nat_cmp}
use Rattle.std.proofs.lemmas.Fn.{always_returns_same}
use Rattle.vr_rights.proofs.SearchLemmas.{searched_names}
use Rattle.vr_rights.proofs.names.Names.search.Goals as goal

pub returns-clause-found : goal.returns-clause-found
returns-clause-found c =
    let facts = c.binary_search_by.ensures in
    let found = facts.position (λ (listed : List ℕ). slice_cmp nat_cmp listed c.args.name.now) (always_returns_same _ _ _ (λ a r g called. (search rules, search rules))) in
    let is : c.self.inside.names.items ≡ c.args.self.now = c.self.view_is in
    rw (c.deref.ensures.value, is) at (searched_names c.deref.result.now c.args.name.now c.binary_search_by.result (rw c.deref.ensures.value c.self.invariant.ordered) facts.bound found)
