-- One more holder's words.
use Rattle.std.proofs.Common.{◌≡◌, ◌+◌, ◌∷◌, [], ◌++◌, List, ℕ, take, All, Contains, sym, ◌∙◌, ap, subst}
use Rattle.std.proofs.lemmas.List.{take_more}
use Rattle.vr_rights.specs.Kept.{IsHolder}
use Rattle.vr_rights.proofs.ZipLemmas.{zip_push}
use Rattle.vr_rights.proofs.regions.words_of.Goals as goal

pub new-requires : goal.new-requires
new-requires g c =
    rw c.grants.ensures (subst (λ h. All (λ (grant : List ℕ × ℕ). Contains c.args.names.now grant.0) (g.H.Granted.grants h)) (sym c.holder-item.is) (c.requires c.loop-holder.holder-index c.holder-item.result c.loop-holder-test.true))

pub loop-holder-preserved : goal.loop-holder-preserved
loop-holder-preserved g c =
    let holders = c.args.holders.now in
    let index = c.loop-holder.holder-index in
    let holder = c.holder-item.result in
    let more : take (index + 1) holders ≡ take index holders ++ holder ∷ [] = take_more holders index holder c.loop-holder-test.true ∙ ap (λ h. take index holders ++ h ∷ []) (sym c.holder-item.is) in
    let last : IsHolder c.args.names.now (g.H.Granted.grants holder) c.in_ok-new.field-0 = record { same = rw c.grants.ensures at c.in_ok-new.ensures.same; known = c.in_ok-new.ensures.known } in
    rw (more, c.in_ok-push.ensures.items) (zip_push _ (take index holders) c.loop-holder.all.items holder c.in_ok-new.field-0 c.loop-holder.invariant last)
