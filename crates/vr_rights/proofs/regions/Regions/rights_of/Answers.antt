-- The words of each holder are what they have to be.
use Rattle.std.proofs.Common.{◌≡◌, ◌<◌, length, sym, ap, ◌∙◌, subst}
use Rattle.std.proofs.lemmas.List.{length-map}
use Rattle.vr_rights.specs.Calls.{HasHolder}
use Rattle.vr_rights.specs.Holders.{AreWordsOf}
use Rattle.vr_rights.specs.Kept.{words_over}
use Rattle.vr_rights.specs.Tables.{RegionsData}
use Rattle.vr_rights.proofs.regions.Regions.rights_of.Goals as goal

pub word_in-requires-clause-words : goal.word_in-requires-clause-words
word_in-requires-clause-words c =
    let holders = c.self.inside.identities.items in
    let place = c.in-Identity.place in
    let there : HasHolder c.args.self.now c.args.holder = c.requires.holder in
    let listed : place < length c.args.self.now.identities = rw c.in-Identity.is at there in
    let many : length c.args.self.now.identities ≡ length holders = ap (λ (d : RegionsData). length d.identities) (sym c.self.view_is) ∙ length-map holders (words_over c.self.inside.names) in
    let within : place < length holders = rw many at listed in
    subst (AreWordsOf c.self.inside.names) (sym c.index.ensures) (c.self.invariant.identities_are place c.index.result.now within)

pub word_in-requires-in-Program-clause-words : goal.word_in-requires-in-Program-clause-words
word_in-requires-in-Program-clause-words c =
    let holders = c.self.inside.programs.items in
    let place = c.in-Program.place in
    let there : HasHolder c.args.self.now c.args.holder = c.requires.holder in
    let listed : place < length c.args.self.now.programs = rw c.in-Program.is at there in
    let many : length c.args.self.now.programs ≡ length holders = ap (λ (d : RegionsData). length d.programs) (sym c.self.view_is) ∙ length-map holders (words_over c.self.inside.names) in
    let within : place < length holders = rw many at listed in
    subst (AreWordsOf c.self.inside.names) (sym c.index-in-Program.ensures) (c.self.invariant.programs_are place c.index-in-Program.result.now within)
