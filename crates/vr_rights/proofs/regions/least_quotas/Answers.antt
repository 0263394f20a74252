-- One more quota.
use Rattle.std.proofs.Common.{◌≡◌, ◌<◌, ◌+◌, ◌∷◌, [], ◌++◌, length, map, take, set, replicate, Contains, None, Some, sym, ◌∙◌, ap, get_or, subst, rules}
use Rattle.std.proofs.lemmas.List.{take_more, get_or_read, length-map}
use Rattle.vr_policy_read.specs.declared.entries.Quota.{Quota}
use Rattle.vr_rights.specs.Kept.{least_with}
use Rattle.vr_rights.specs.Quotas.{quota_of}
use Rattle.vr_rights.proofs.QuotaLemmas.{quotas_none, quota_step}
use Rattle.vr_rights.proofs.regions.least_quotas.Goals as goal

pub loop-quota-init : goal.loop-quota-init
loop-quota-init c = c.in_ok-least.ensures.items_if_clones_equal (λ y e. search rules) ∙ ap (λ n. replicate n None) c.len.ensures.length ∙ quotas_none c.args.names.now

pub place_of-place-requires : goal.place_of-place-requires
place_of-place-requires c =
    rw c.as_slice.ensures.bytes (subst (λ (q : Quota). Contains c.args.names.now q.name) (sym c.quota-item.is) (c.requires c.loop-quota.quota-index c.quota-item.result c.loop-quota-test.true))

pub loop-quota-preserved : goal.loop-quota-preserved
loop-quota-preserved c =
    let names = c.args.names.now in
    let quotas = c.args.quotas.now in
    let index = c.loop-quota.quota-index in
    let quota = c.quota-item.result in
    let place = c.place_of-place.result in
    let items = c.loop-quota.least.items in
    let before : items ≡ map (λ name. quota_of name (take index quotas)) names = c.loop-quota.invariant in
    let more : take (index + 1) quotas ≡ take index quotas ++ quota ∷ [] = take_more quotas index quota c.loop-quota-test.true ∙ ap (λ q. take index quotas ++ q ∷ []) (sym c.quota-item.is) in
    let within : place < length items = rw (before, length-map) c.place_of-place.ensures.within in
    let read = get_or_read items place c.index.result.now within c.index.ensures None in
    let value : c.least_with.result ≡ least_with (get_or (map (λ name. quota_of name (take index quotas)) names) place None) quota.bytes = c.least_with.ensures ∙ ap (λ o. least_with o quota.bytes) (read ∙ ap (λ qs. get_or qs place None) before) in
    let name : get_or names place [] ≡ quota.name = c.place_of-place.ensures.here ∙ c.as_slice.ensures.bytes in
    ap (λ qs. set qs place (Some c.least_with.result)) before ∙ ap (λ n. set (map (λ name. quota_of name (take index quotas)) names) place (Some n)) value
    ∙ quota_step names (take index quotas) quota place c.len.ensures.ordered c.place_of-place.ensures.within name ∙ ap (λ qs. map (λ name. quota_of name qs) names) (sym more)
