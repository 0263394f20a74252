-- One more path's place.
use Rattle.std.proofs.Common.{◌≡◌, ◌<◌, ◌∷◌, [], ◌++◌, ℕ, length, take, Contains, sym, ◌∙◌, ap, get_or, subst, arith}
use Rattle.std.proofs.lemmas.List.{take_more, map-append}
use Rattle.std.proofs.lemmas.List.Elements.{All-push}
use Rattle.vr_rights.proofs.regions.places_of.Goals as goal

pub place_of-requires : goal.place_of-requires
place_of-requires c = rw c.as_slice.ensures.bytes (subst (Contains c.args.names.now) (sym c.path-item.is) (c.requires c.loop-path.path-index c.path-item.result (omega arith)))

pub loop-path-preserved : goal.loop-path-preserved
loop-path-preserved c =
    let names = c.args.names.now in
    let paths = c.args.paths.now in
    let index = c.loop-path.path-index in
    let items = c.loop-path.places.items in
    let path = c.path-item.result in
    let place = c.place_of.result in
    let within : index < length paths = omega arith in
    let named = λ (p : ℕ). get_or names p [] in
    let last : named place ≡ path = c.place_of.ensures.here ∙ c.as_slice.ensures.bytes in
    rw c.in_ok-push.ensures.items (record {
      same = map-append named items (place ∷ []) ∙ ap (λ ns. ns ++ named place ∷ []) c.loop-path.invariant.same ∙ ap (λ n. take index paths ++ n ∷ []) (last ∙ c.path-item.is) ∙ sym (take_more paths index path within);
      known = All-push (λ p. p < length names) items place c.loop-path.invariant.known c.place_of.ensures.within;
    })
