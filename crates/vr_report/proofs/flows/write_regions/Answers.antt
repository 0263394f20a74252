-- One region more.
use Rattle.std.proofs.Common.{◌≡◌, ℕ, ◌+◌, ◌<◌, ◌++◌, drop, length, Some, List, [], slice_get, ap, ◌∙◌, sym}
use Rattle.std.specs.Prelude.{slice_index_or}
use Rattle.std.proofs.lemmas.Option.{slice_get-get_or}
use Rattle.vr_flow.specs.Places.{has_place}
use Rattle.vr_report.specs.Flows.{words_from}
use Rattle.vr_text.specs.Words.{word}
use Rattle.vr_report.proofs.FlowLines.{word_more, word_passed}
use Rattle.vr_report.proofs.flows.write_regions.Goals as goal
use Rattle.vr_report.proofs.flows.write_regions.Goals.{then-has_region+in_ok-text, else-has_region}

pub loop-region-preserved : goal.loop-region-preserved
loop-region-preserved c =
    let names = c.args.regions.now.names in
    let place : ℕ = c.loop-region.region in
    let test = has_place c.args.reach.now.regions in
    let below : place < length names = rw c.count-region-end.ensures at c.loop-region-test.true in
    let name = slice_index_or names place [] in
    let here : slice_get names place ≡ Some name = slice_get-get_or names place [] below in
    let rest : List ℕ = words_from (λ n. n) test (place + 1) (drop (place + 1) names) in
    elim c.if-has_region.branch [
      | then-has_region+in_ok-text w ↦
          let written : w.in_ok-text.text ≡ c.loop-region.text ++ word name = w.in_ok-text.ensures ∙ ap (λ n. c.loop-region.text ++ word n) (w.as_slice.ensures.bytes ∙ w.name_of.ensures) in
          ap (λ t. t ++ rest) (w.text-is ∙ written) ∙ word_more (λ n. n) test names place name here c.loop-region.text (sym c.has_region.ensures ∙ w.if-has_region.true) ∙ c.loop-region.invariant
      | else-has_region w ↦
          ap (λ t. t ++ rest) w.text-is ∙ word_passed (λ n. n) test names place name here c.loop-region.text (sym c.has_region.ensures ∙ w.if-has_region.false) ∙ c.loop-region.invariant
    ]
