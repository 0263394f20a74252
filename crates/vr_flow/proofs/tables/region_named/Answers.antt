-- The region of a path that is a name has that name.
use Rattle.std.proofs.Common.{◌≡◌, Some, None, sym, ◌∙◌, subst}
use Rattle.vr_rights.specs.Ordered.{IsAt}
use Rattle.vr_flow.proofs.NameLemmas.{named_here}
use Rattle.vr_flow.proofs.tables.region_named.Goals as goal

pub unreachable-requires : goal.unreachable-requires
unreachable-requires c =
    let named = named_here c.args.regions.now.names c.args.path.now c.requires.ordered c.requires.named c.as_slice-name.ensures.is_path in
    let place = named.0 in
    let found : Some place ≡ None = sym (named.2) ∙ sym c.region_of.ensures.region ∙ c.in-None.is in
    cc

pub returns : goal.returns
returns c =
    let named = named_here c.args.regions.now.names c.args.path.now c.requires.ordered c.requires.named c.as_slice-name.ensures.is_path in
    let place = named.0 in
    let found : Some place ≡ Some c.in-Some.region = sym (named.2) ∙ sym c.region_of.ensures.region ∙ c.in-Some.is in
    let same : place ≡ c.in-Some.region = cc in
    subst (IsAt c.args.regions.now.names c.args.path.now) same named.1
