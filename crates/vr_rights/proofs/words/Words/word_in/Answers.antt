-- The word at the place, or on to the longest name that encloses it.
use Rattle.std.proofs.Common.{◌≡◌, ◌≢◌, ◌<◌, length, [], All, get_or, sym, ◌∙◌}
use Rattle.vr_rights.specs.Holders.{grants_at}
use Rattle.vr_rights.specs.Words.{word_in}
use Rattle.vr_rights.proofs.ChainLemmas.{outer_within}
use Rattle.vr_rights.proofs.HolderLemmas.{word_at_place, word_up}
use Rattle.vr_rights.proofs.words.Words.word_in.Goals as goal

pub returns-in-Some-at : goal.returns-in-Some-at
returns-in-Some-at c =
    let names = c.args.names.now in
    let words = c.args.self.now in
    let come : word_in (get_or names c.args.region []) (grants_at names words) ≡ word_in (get_or names c.in-Some.place []) (grants_at names words) = rw c.in-Some.is at c.loop-at.invariant.word in
    sym (come ∙ word_at_place names words c.in-Some.place c.in-Some-at.word c.requires.words c.in-Some-at.ensures)

pub loop-at-preserved : goal.loop-at-preserved
loop-at-preserved c =
    let names = c.args.names.now in
    let words = c.args.self.now in
    let place = c.in-Some.place in
    let come : word_in (get_or names c.args.region []) (grants_at names words) ≡ word_in (get_or names place []) (grants_at names words) = rw c.in-Some.is at c.loop-at.invariant.word in
    let within : place < length names = rw c.in-Some.is at c.loop-at.invariant.within in
    let apart : All (λ word. word.0 ≢ place) words = c.in_default-at.ensures in
    record {
      word = come ∙ word_up names words place c.outer-at.result c.outer-at.ensures.ordered within c.requires.words apart c.outer-at.ensures.outer;
      within = outer_within names (get_or names place []) c.outer-at.result c.outer-at.ensures.outer;
    }
