-- The words are those with the bits of the others.
use Rattle.std.proofs.Common.{◌≡◌, length, get_or, bit_or, rules, ◌∙◌, ap}
use Rattle.vr_flow.proofs.PlaceLemmas.{adds}
use Rattle.vr_flow.proofs.places.PlaceSet.add.Goals as goal

pub returns-then-is_in : goal.returns-then-is_in
returns-then-is_in c =
    let items = c.self.inside.words.items in
    let more : c.deref.result.now ≡ c.args.other.now = c.deref.ensures.value ∙ c.other.view_is in
    adds c.args.self.now c.args.other.now items c.add_words.new.words c.args.is_in c.self.inside.words.len c.self.view_is c.if-is_in.true
    (c.add_words.ensures.room ∙ ap length c.deref_mut.ensures.value)
    (search rules)
    (λ i. c.add_words.ensures.each i ∙ ap (λ ws. bit_or (get_or ws i 0) (get_or c.deref.result.now i 0)) c.deref_mut.ensures.value ∙ ap (λ ws. bit_or (get_or items i 0) (get_or ws i 0)) more)
