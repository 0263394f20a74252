-- Words of zeros have no place.
use Rattle.std.proofs.Common.{◌≡◌, length, replicate, arith, rules, ◌∙◌, ap}
use Rattle.std.proofs.Math.ListN.{length-replicate}
use Rattle.vr_flow.specs.Places.{has_place}
use Rattle.vr_flow.proofs.PlaceLemmas.{zeros_have_none}
use Rattle.vr_flow.proofs.places.PlaceSet.new.Goals as goal

pub returns : goal.returns
returns c =
    let zeros : c.in_ok-words.words.items ≡ replicate c.div_ceil.result 0 = c.in_ok-words.ensures.items_if_clones_equal (λ y e. search rules) in
    record {
      room = ap length zeros ∙ length-replicate c.div_ceil.result 0 ∙ c.div_ceil.ensures ∙ omega arith;
      same = λ place. ap (λ words. has_place words place) zeros ∙ zeros_have_none c.div_ceil.result place;
    }
