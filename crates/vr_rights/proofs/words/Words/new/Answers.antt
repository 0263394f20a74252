-- Each grant's name has its place, and a sort of the words changes their order alone.
use Rattle.std.proofs.Common.{◌≡◌, ◌<◌, ◌≤◌, ℕ, List, [], ◌∷◌, ◌++◌, length, take, take_all, Contains, IsPermutation, sym, ◌∙◌, ap, get_or, rules, subst}
use Rattle.std.proofs.lemmas.List.{map-append, take_more}
use Rattle.std.proofs.lemmas.List.Elements.{All-push}
use Rattle.std.proofs.lemmas.List.Sorted.{answers_always, IsPermutation-map, All-permutation}
use Rattle.vr_rights.specs.Holders.{grant_at, grants_at}
use Rattle.vr_rights.proofs.words.Words.new.Goals as goal

pub place_of-requires : goal.place_of-requires
place_of-requires c =
    let grants = c.args.grants.now in
    let item = c.loop-name-item.result in
    let within : c.loop-name.name-index < length grants = rw c.as_slice-grants.ensures at c.loop-name-test.true in
    let is : item ≡ get_or grants c.loop-name.name-index item = rw c.as_slice-grants.ensures at c.loop-name-item.is in
    rw c.as_slice.ensures.bytes (subst (λ (g : List ℕ × ℕ). Contains c.args.names.now g.0) (sym is) (c.requires c.loop-name.name-index item within))

pub loop-name-preserved : goal.loop-name-preserved
loop-name-preserved c =
    let grants = c.args.grants.now in
    let names = c.args.names.now in
    let index = c.loop-name.name-index in
    let items = c.loop-name.items.items in
    let item = c.loop-name-item.result in
    let place = c.place_of.result in
    let within : index < length grants = rw c.as_slice-grants.ensures at c.loop-name-test.true in
    let is : item ≡ get_or grants index item = rw c.as_slice-grants.ensures at c.loop-name-item.is in
    let name : get_or names place [] ≡ item.0 = c.place_of.ensures.here ∙ c.as_slice.ensures.bytes in
    let last : grant_at names (place, item.1) ≡ item = ap (λ (n : List ℕ). (n, item.1)) name in
    let one_more = map-append (grant_at names) items ((place, item.1) ∷ []) ∙ ap (λ gs. gs ++ grant_at names (place, item.1) ∷ []) c.loop-name.invariant.0
    ∙ ap (λ g. take index grants ++ g ∷ []) (last ∙ is) ∙ sym (take_more grants index item within) in
    rw c.in_ok-push.ensures.items (one_more, All-push (λ word. word.0 < length names) items (place, item.1) c.loop-name.invariant.1 c.place_of.ensures.within)

pub invariant_of-result : goal.invariant_of-result
invariant_of-result c = c.sort_unstable_by_key.ensures.sorted (λ (item : ℕ × ℕ). item.0) (answers_always _ _ _ (λ f a r g called. search rules))

pub returns-clause-same : goal.returns-clause-same
returns-clause-same c =
    let grants = c.args.grants.now in
    let names = c.args.names.now in
    let all : length grants ≤ c.loop-name.name-index = rw c.as_slice-grants.ensures at c.loop-name-test.false in
    subst (λ gs. IsPermutation gs (grants_at names c.sort_unstable_by_key.new.self.items)) (c.loop-name.invariant.0 ∙ take_all c.loop-name.name-index grants all)
    (IsPermutation-map (grant_at names) _ _ c.sort_unstable_by_key.ensures.permutation)

pub returns-clause-known : goal.returns-clause-known
returns-clause-known c = All-permutation (λ (word : ℕ × ℕ). word.0 < length c.args.names.now) _ _ c.sort_unstable_by_key.ensures.permutation c.loop-name.invariant.1
