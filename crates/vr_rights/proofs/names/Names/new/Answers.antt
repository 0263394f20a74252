-- A sort and what it leaves of equal names.
use Rattle.std.proofs.Common.{◌≡◌, bytes_eq, Contains, get_or, subst}
use Rattle.std.specs.List.{dedup}
use Rattle.std.specs.Cmp.Lexicographic.{nat_list_cmp_total, nat_list_eq_equiv, bytes_decides, texts_ties}
use Rattle.std.proofs.lemmas.List.Elements.{Contains-get_or}
use Rattle.std.proofs.lemmas.List.Filters.{dedup_is}
use Rattle.std.proofs.lemmas.List.Kept.{Contains-dedup, Contains-from_dedup, IsStrictlySortedBy-dedup}
use Rattle.std.proofs.lemmas.List.Sorted.{Contains-permutation, IsPermutation-sym}
use Rattle.vr_rights.proofs.names.Names.new.Goals as goal

pub outer_places-requires : goal.outer_places-requires
outer_places-requires c =
    let is : c.dedup.new.self.items ≡ dedup bytes_eq c.sort_unstable.new.self.items = dedup_is bytes_eq _ _ c.dedup.ensures.filtered in
    rw (c.deref.ensures.value, is) (IsStrictlySortedBy-dedup nat_list_cmp_total texts_ties c.sort_unstable.new.self.items c.sort_unstable.ensures.sorted)

pub returns-clause-all : goal.returns-clause-all
returns-clause-all c = λ k d l.
    let is : c.dedup.new.self.items ≡ dedup bytes_eq c.sort_unstable.new.self.items = dedup_is bytes_eq _ _ c.dedup.ensures.filtered in
    let name = get_or c.args.names.items k d in
    let sorted : Contains c.sort_unstable.new.self.items name = Contains-permutation _ _ name c.sort_unstable.ensures.permutation (Contains-get_or c.args.names.items k d l) in
    rw is (Contains-dedup nat_list_eq_equiv (λ x y t. (bytes_decides x y).0 t) c.sort_unstable.new.self.items name sorted)

pub returns-clause-only : goal.returns-clause-only
returns-clause-only c = λ k d l.
    let is : c.dedup.new.self.items ≡ dedup bytes_eq c.sort_unstable.new.self.items = dedup_is bytes_eq _ _ c.dedup.ensures.filtered in
    let name = get_or c.dedup.new.self.items k d in
    let kept : Contains (dedup bytes_eq c.sort_unstable.new.self.items) name = subst (λ xs. Contains xs name) is (Contains-get_or c.dedup.new.self.items k d l) in
    let sorted = Contains-from_dedup bytes_eq c.sort_unstable.new.self.items name kept in
    Contains-permutation _ _ name (IsPermutation-sym _ _ c.sort_unstable.ensures.permutation) sorted
