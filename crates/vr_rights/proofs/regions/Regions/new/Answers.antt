-- The names are known, so each part can be made; together they tell what the policy says.
use Rattle.std.proofs.Common.{List, ℕ, map, All, Contains, Vec, Global, ap, ◌∙◌, subst}
use Rattle.vr_policy_read.specs.PolicyData.{PolicyData}
use Rattle.vr_pipe.specs.declared.trees.Tree.{Tree}
use Rattle.vr_pipe.specs.Trees.{pipe_tree, programs_of}
use Rattle.vr_rights.specs.Kept.{ArePlaces, tables_of}
use Rattle.vr_rights.specs.Tables.{IsRegionsOf}
use Rattle.vr_rights.proofs.LawLemmas.{one_word}
use Rattle.vr_rights.proofs.MakingLemmas.{known_names_of, known_programs, AreParts, parts_keep, parts_tell}
use Rattle.vr_rights.proofs.ZipLemmas.{zip_mapped}
use Rattle.vr_rights.proofs.regions.Regions.new.Goals as goal

pub words_of-requires : goal.words_of-requires
words_of-requires c =
    let view = c.listed.view_is ∙ c.policy-listed.ensures.policy in
    let known = known_names_of c.in_ok-names.names c.args.policy.now (subst (All (Contains c.in_ok-names.names)) c.in_ok-policy_names.ensures c.in_ok-names.ensures.all) in
    rw (c.as_slice.ensures, ap (λ (p : PolicyData). p.identities) view) known.identities

pub words_of-requires-2 : goal.words_of-requires-2
words_of-requires-2 c =
    let view = c.listed.view_is ∙ c.policy-listed.ensures.policy in
    let known = known_names_of c.in_ok-names.names c.args.policy.now (subst (All (Contains c.in_ok-names.names)) c.in_ok-policy_names.ensures c.in_ok-names.ensures.all) in
    rw (c.as_slice-2.ensures, ap (λ (p : PolicyData). p.programs) view) known.programs

pub program_places-requires : goal.program_places-requires
program_places-requires c =
    let known = known_names_of c.in_ok-names.names c.args.policy.now (subst (All (Contains c.in_ok-names.names)) c.in_ok-policy_names.ensures c.in_ok-names.ensures.all) in
    known_programs c.in_ok-names.names c.args.policy.now known

pub least_quotas-requires : goal.least_quotas-requires
least_quotas-requires c =
    let view = c.listed.view_is ∙ c.policy-listed.ensures.policy in
    let known = known_names_of c.in_ok-names.names c.args.policy.now (subst (All (Contains c.in_ok-names.names)) c.in_ok-policy_names.ensures c.in_ok-names.ensures.all) in
    rw (c.as_slice-3.ensures, ap (λ (p : PolicyData). p.quotas) view) known.quotas

pub invariant_of-result : goal.invariant_of-result
invariant_of-result c =
    let view = c.listed.view_is ∙ c.policy-listed.ensures.policy in
    let names = c.in_ok-names.names in
    let pipelines = map (λ (v : Vec ℕ Global). v.items) c.in_ok-pipelines.pipelines.items in
    let parts : AreParts c.args.policy.now names c.in_ok-identities.identities.items c.in_ok-programs.programs.items pipelines c.in_ok-quotas.quotas.items = record {
      identities_are = rw (c.as_slice.ensures, ap (λ (p : PolicyData). p.identities) view) at c.in_ok-identities.ensures;
      programs_are = rw (c.as_slice-2.ensures, ap (λ (p : PolicyData). p.programs) view) at c.in_ok-programs.ensures;
      pipelines_are = zip_mapped (λ (pipe : Tree) (places : List ℕ). ArePlaces names (programs_of (pipe_tree pipe)) places) (λ (v : Vec ℕ Global). v.items) c.args.policy.now.pipes c.in_ok-pipelines.pipelines.items c.in_ok-pipelines.ensures;
      quotas_are = rw (c.as_slice-3.ensures, ap (λ (p : PolicyData). p.quotas) view) at c.in_ok-quotas.ensures;
    } in
    parts_keep c.args.policy.now c.policy-listed.ensures.checked names _ _ _ _ parts

pub returns : goal.returns
returns c =
    let view = c.listed.view_is ∙ c.policy-listed.ensures.policy in
    let names = c.in_ok-names.names in
    let pipelines = map (λ (v : Vec ℕ Global). v.items) c.in_ok-pipelines.pipelines.items in
    let parts : AreParts c.args.policy.now names c.in_ok-identities.identities.items c.in_ok-programs.programs.items pipelines c.in_ok-quotas.quotas.items = record {
      identities_are = rw (c.as_slice.ensures, ap (λ (p : PolicyData). p.identities) view) at c.in_ok-identities.ensures;
      programs_are = rw (c.as_slice-2.ensures, ap (λ (p : PolicyData). p.programs) view) at c.in_ok-programs.ensures;
      pipelines_are = zip_mapped (λ (pipe : Tree) (places : List ℕ). ArePlaces names (programs_of (pipe_tree pipe)) places) (λ (v : Vec ℕ Global). v.items) c.args.policy.now.pipes c.in_ok-pipelines.pipelines.items c.in_ok-pipelines.ensures;
      quotas_are = rw (c.as_slice-3.ensures, ap (λ (p : PolicyData). p.quotas) view) at c.in_ok-quotas.ensures;
    } in
    let regions : IsRegionsOf c.args.policy.now (tables_of names c.in_ok-identities.identities.items c.in_ok-programs.programs.items pipelines c.in_ok-quotas.quotas.items) = record {
      ordered = c.in_ok-names.ensures.ordered;
      all = subst (All (Contains names)) c.in_ok-policy_names.ensures c.in_ok-names.ensures.all;
      only = subst (λ ns. All (Contains ns) names) c.in_ok-policy_names.ensures c.in_ok-names.ensures.only;
      tables = parts_tell c.args.policy.now c.policy-listed.ensures.checked names _ _ _ _ parts;
    } in
    record { regions = regions; one_word = one_word c.args.policy.now _ regions }
