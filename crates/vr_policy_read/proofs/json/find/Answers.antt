-- What the map has at the name is what the definition finds.
use Rattle.std.proofs.Common.{option_map, ap, ◌∙◌}
use Rattle.serde_json.specs.View.{view}
use Rattle.serde_json.proofs.Views.{view_of_ref, view-lookup}
use Rattle.vr_policy_read.proofs.json.find.Goals as goal

pub returns : goal.returns
returns c =
    rw (← c.name.ensures) (view_of_ref c.get.result ∙ ap (option_map view) c.get.ensures.value ∙ view-lookup c.name.result.now c.args.object.now.entries)
