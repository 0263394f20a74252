-- The identity's words and the pipeline's regions are what they have to be, and the first region without the right is the
-- table's entry.
use Rattle.std.proofs.Common.{◌≡◌, ◌<◌, ◌≤◌, List, ℕ, length, map, All, Option, None, Vec, Global, sym, ap, ◌∙◌, get_or, subst}
use Rattle.std.proofs.lemmas.List.{length-map, get_or-map}
use Rattle.vr_rights.specs.Calls.{run_answer}
use Rattle.vr_rights.specs.Holders.{AreWordsOf}
use Rattle.vr_rights.specs.Kept.{missing_place, tables_of}
use Rattle.vr_rights.specs.Tables.{RegionsData, HasEntry, entry_of}
use Rattle.vr_rights.proofs.MakingLemmas.{missing_entry, entry_within}
use Rattle.vr_rights.proofs.regions.Regions.may_run.Goals as goal

abbrev items_of : List (Vec ℕ Global) → List (List ℕ)
items_of vecs = map (λ (v : Vec ℕ Global). v.items) vecs

-- a pipeline's regions, as they are read
read_places : (vecs : List (Vec ℕ Global)) (pipeline : ℕ) (vec : Vec ℕ Global) (places : List ℕ) → pipeline < length (items_of vecs) → vec ≡ get_or vecs pipeline vec → places ≡ vec.items → places ≡ get_or (items_of vecs) pipeline places
read_places vecs pipeline vec places within is items =
    items ∙ ap (λ (v : Vec ℕ Global). v.items) is ∙ sym (get_or-map (λ (v : Vec ℕ Global). v.items) vecs pipeline vec places (rw length-map at within))

-- the entry that is answered
answered : (names : List (List ℕ)) (identities programs : List (List (ℕ × ℕ))) (vecs : List (Vec ℕ Global)) (quotas : List (Option ℕ)) (regions : RegionsData) (identity pipeline : ℕ) (words : List (ℕ × ℕ)) (vec : Vec ℕ Global) (places : List ℕ)
    → tables_of names identities programs (items_of vecs) quotas ≡ regions → HasEntry regions.missing identity pipeline → words ≡ get_or identities identity words → vec ≡ get_or vecs pipeline vec → places ≡ vec.items
    → missing_place names words places ≡ entry_of regions.missing identity pipeline None
answered names identities programs vecs quotas regions identity pipeline words vec places view h wi vi pi =
    let within = entry_within names identities programs (items_of vecs) quotas regions identity pipeline view h in
    sym (missing_entry names identities (items_of vecs) identity pipeline words places within.0 wi within.1 (read_places vecs pipeline vec places within.1 vi pi))
    ∙ ap (λ (d : RegionsData). entry_of d.missing identity pipeline None) view

pub missing_place-requires-clause-words : goal.missing_place-requires-clause-words
missing_place-requires-clause-words c =
    let within = entry_within c.self.inside.names c.self.inside.identities.items c.self.inside.programs.items (items_of c.self.inside.pipelines.items) c.self.inside.quotas.items c.args.self.now c.args.identity c.args.pipeline c.self.view_is c.requires in
    subst (AreWordsOf c.self.inside.names) (sym c.index-words.ensures) (c.self.invariant.identities_are c.args.identity c.index-words.result.now within.0)

pub missing_place-requires-clause-regions : goal.missing_place-requires-clause-regions
missing_place-requires-clause-regions c =
    let vecs = c.self.inside.pipelines.items in
    let places = c.as_slice-places.result.now in
    let within = entry_within c.self.inside.names c.self.inside.identities.items c.self.inside.programs.items (items_of vecs) c.self.inside.quotas.items c.args.self.now c.args.identity c.args.pipeline c.self.view_is c.requires in
    let read = read_places vecs c.args.pipeline c.index.result.now places within.1 c.index.ensures c.as_slice-places.ensures.value in
    subst (All (λ place. place < length c.self.inside.names)) (sym read) (c.self.invariant.pipelines_are c.args.pipeline places within.1)

pub missing_place-requires-clause-few : goal.missing_place-requires-clause-few
missing_place-requires-clause-few c =
    let vecs = c.self.inside.pipelines.items in
    let places = c.as_slice-places.result.now in
    let within = entry_within c.self.inside.names c.self.inside.identities.items c.self.inside.programs.items (items_of vecs) c.self.inside.quotas.items c.args.self.now c.args.identity c.args.pipeline c.self.view_is c.requires in
    let read = read_places vecs c.args.pipeline c.index.result.now places within.1 c.index.ensures c.as_slice-places.ensures.value in
    subst (λ (ps : List ℕ). length ps ≤ 64) (sym read) (c.self.invariant.few_programs c.args.pipeline places within.1)

pub returns-in-Some : goal.returns-in-Some
returns-in-Some c =
    let entry = answered c.self.inside.names c.self.inside.identities.items c.self.inside.programs.items c.self.inside.pipelines.items c.self.inside.quotas.items c.args.self.now c.args.identity c.args.pipeline
    c.index-words.result.now c.index.result.now c.as_slice-places.result.now c.self.view_is c.requires c.index-words.ensures c.index.ensures c.as_slice-places.ensures.value in
    ap run_answer (c.in-Some.ensures ∙ entry)

pub returns-in-None : goal.returns-in-None
returns-in-None c =
    let entry = answered c.self.inside.names c.self.inside.identities.items c.self.inside.programs.items c.self.inside.pipelines.items c.self.inside.quotas.items c.args.self.now c.args.identity c.args.pipeline
    c.index-words.result.now c.index.result.now c.as_slice-places.result.now c.self.view_is c.requires c.index-words.ensures c.index.ensures c.as_slice-places.ensures.value in
    ap run_answer (c.in-None.ensures ∙ entry)
