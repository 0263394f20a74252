use Rattle.std.proofs.Common.{◌≡◌, rules, refl}
use Rattle.std.proofs.lemmas.Fn.{answers_by}
use Rattle.vr_files.specs.FileMaps.{path_cmp}
use Rattle.vr_files.proofs.EntryLemmas.{search_found, search_absent}
use Rattle.vr_files.proofs.kept.place_of_name.Goals as goal

pub returns-clause-found : goal.returns-clause-found
returns-clause-found c =
    let path = c.args.name.now in
    let order = c.binary_search_by.ensures.position (λ e. path_cmp e.0 path) (answers_by _ _ (λ f. f.0.now.now ≡ path) (λ f a r f' called is. (search rules, search rules)) _ refl) in
    search_found path c.args.entries.now c.binary_search_by.result c.requires c.binary_search_by.ensures.bound order

pub returns-clause-absent : goal.returns-clause-absent
returns-clause-absent c =
    let path = c.args.name.now in
    let order = c.binary_search_by.ensures.position (λ e. path_cmp e.0 path) (answers_by _ _ (λ f. f.0.now.now ≡ path) (λ f a r f' called is. (search rules, search rules)) _ refl) in
    search_absent path c.args.entries.now c.binary_search_by.result c.requires c.binary_search_by.ensures.bound order
