use Rattle.std.proofs.Common.{◌≡◌, ◌∙◌, ap, subst}
use Rattle.vr_wasm_ast.specs.declared.tree.Module.{Module}
use Rattle.vr_wasm_link.specs.Opened.{Begins}
use Rattle.vr_wasm_link.specs.Plans.{Plan}
use Rattle.vr_wasm_link.proofs.LinkLemmas.{begins_well, elements_within, least_within, parts_linked, segments_within}
use Rattle.vr_wasm_link.proofs.linking.Linked.open.Goals as goal

pub opening_memory_of-requires-clause-pages : goal.opening_memory_of-requires-clause-pages
opening_memory_of-requires-clause-pages g c =
    let l = c.self.inside in
    let plan = c.self.invariant in
    least_within g.H.Host.finds l.module.now l.pages _ plan.valid plan.opens

pub opening_memory_of-requires-clause-fits : goal.opening_memory_of-requires-clause-fits
opening_memory_of-requires-clause-fits g c =
    let l = c.self.inside in
    let plan = c.self.invariant in
    segments_within g.H.Host.finds l.module.now l.pages _ c.as_slice.result.now
    (c.as_slice.ensures.value ∙ plan.globals_are) plan.opens

pub opening_table_of-requires-clause-fits : goal.opening_table_of-requires-clause-fits
opening_table_of-requires-clause-fits g c =
    let l = c.self.inside in
    let plan = c.self.invariant in
    elements_within g.H.Host.finds l.module.now l.pages _ c.as_slice-2.result.now
    (c.as_slice-2.ensures.value ∙ plan.globals_are) plan.opens

pub returns-clause-linked : goal.returns-clause-linked
returns-clause-linked g c =
    let l = c.self.inside in
    let plan = c.self.invariant in
    let tree : l.module.now ≡ c.args.self.tree = ap (λ (p : Plan). p.tree) c.self.view_is in
    parts_linked g.H.Host.finds g.H.Host.reply l.module.now c.args.self.tree l.pages l.main c.as_slice-3.result.now
    _ c.in_ok-memory.memory c.in_ok-table.table.items l.globals.items plan.valid plan.limit
    g.met.H.Host.replies_fit plan.opens tree (cc) plan.functions_are c.in_ok-memory.ensures c.in_ok-table.ensures
    plan.globals_are

pub returns-clause-begins : goal.returns-clause-begins
returns-clause-begins g c =
    let l = c.self.inside in
    let plan = c.self.invariant in
    let tree : l.module.now ≡ c.args.self.tree = ap (λ (p : Plan). p.tree) c.self.view_is in
    let P : Module → Type 0 = λ t. Begins t l.module.now.start l.main in
    subst P tree (begins_well g.H.Host.finds l.module.now l.pages _ plan.valid plan.opens)
