-- The words are in the order of their places, so the binary search finds the one there is.
use Rattle.std.proofs.Common.{◌≡◌, ◌<◌, ℕ, length, rules}
use Rattle.std.specs.Ordering.{nat_cmp}
use Rattle.std.specs.declared.cmp.Ordering.TheVariants.{Equal}
use Rattle.std.proofs.lemmas.Cmp.{nat_cmp_total}
use Rattle.std.proofs.lemmas.List.Sorted.{answers_always, searchable_from_sorted}
use Rattle.vr_rights.specs.Holders.{IsRising}
use Rattle.vr_rights.proofs.HolderLemmas.{found_word, missing_word}
use Rattle.vr_rights.proofs.words.Words.at.Goals as goal

pub returns-in-Ok : goal.returns-in-Ok
returns-in-Ok c =
    let is : c.self.inside.items.items ≡ c.args.self.now = c.self.view_is in
    let items = c.self.inside.items.items in
    let facts = c.in-Ok.ensures in
    let found = facts.position (λ (item : ℕ × ℕ). item.0) (answers_always _ _ _ (λ f a r g called. search rules)) in
    let item = c.index.result.now in
    let equal : nat_cmp item.0 c.args.place ≡ Equal = rw c.index.ensures (rw c.deref.ensures.value at (found item)) in
    let within : c.in-Ok.index < length items = rw c.deref.ensures.value at facts.bound in
    rw is at (found_word items c.args.place c.in-Ok.index item within c.index.ensures equal)

pub returns-in-Err : goal.returns-in-Err
returns-in-Err c =
    let is : c.self.inside.items.items ≡ c.args.self.now = c.self.view_is in
    let items = c.self.inside.items.items in
    let rising : IsRising items = c.self.invariant in
    let facts = c.in-Err.ensures in
    let found = facts.position (λ (item : ℕ × ℕ). item.0) (answers_always _ _ _ (λ f a r g called. search rules)) in
    let parts = found (searchable_from_sorted nat_cmp_total (λ (item : ℕ × ℕ). item.0) c.deref.result.now c.args.place (rw c.deref.ensures.value rising)) in
    rw (c.deref.ensures.value, is) at (missing_word c.deref.result.now c.args.place c.in-Err.field-0 parts)
