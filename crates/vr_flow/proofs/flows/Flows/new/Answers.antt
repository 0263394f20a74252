-- The sets say what the policy says.
use Rattle.std.proofs.Common.{ℕ, length, All, arith, sym, subst}
use Rattle.vr_flow.specs.Closing.{AreLeads, FitsRegions}
use Rattle.vr_flow.specs.Flows.{flows_of}
use Rattle.vr_flow.proofs.ReachLemmas.{says_the_same}
use Rattle.vr_flow.proofs.TableLemmas.{flows_fit}
use Rattle.vr_flow.proofs.flows.Flows.new.Goals as goal

pub invariant_of-result : goal.invariant_of-result
invariant_of-result c =
    let checked = c.args.policy.now in
    let names = c.args.regions.now.names in
    let tests = flows_of checked names in
    let identities = c.in_ok-identities.ensures.flows in
    let pipelines = c.in_ok-pipelines.ensures.flows in
    record {
      identities_fit = subst (λ (n : ℕ). All (FitsRegions n) c.in_ok-identities.identities.items) (sym c.count.ensures) (flows_fit _ (length names) tests.identity_observes tests.identity_modifies c.in_ok-identities.identities.items identities);
      pipelines_fit = subst (λ (n : ℕ). All (FitsRegions n) c.in_ok-pipelines.pipelines.items) (sym c.count.ensures) (flows_fit _ (length names) tests.pipeline_observes tests.pipeline_modifies c.in_ok-pipelines.pipelines.items pipelines);
      few_identities = omega (arith, identities.all, c.in_ok-identities.ensures.few);
      few_pipelines = omega (arith, pipelines.all, c.in_ok-pipelines.ensures.few);
      leads_are = subst (λ fs. AreLeads fs c.in_ok-executable.executable c.in_ok-leads.leads.items) c.deref-2.ensures.value c.in_ok-leads.ensures;
    }

pub returns-clause-all : goal.returns-clause-all
returns-clause-all c = c.in_ok-identities.ensures.flows.all

pub returns-clause-same : goal.returns-clause-same
returns-clause-same c = says_the_same c.args.policy.now c.args.regions.now.names (record { identities = c.in_ok-identities.identities.items; pipelines = c.in_ok-pipelines.pipelines.items; executable = c.in_ok-executable.executable })
    c.in_ok-identities.ensures.flows c.in_ok-pipelines.ensures.flows c.in_ok-executable.ensures
