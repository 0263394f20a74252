-- The words so far, before those of the regions that are left, are those of all.
use Rattle.std.proofs.Common.{◌≡◌, ◌++◌, drop}
use Rattle.vr_flow.specs.Places.{has_place}
use Rattle.vr_report.specs.Flows.{words_from, regions_text}
use Rattle.vr_report.proofs.flows.write_regions.Given as goal

abbrev pub invariant-loop-region : goal.invariant-loop-region
invariant-loop-region l =
    l.text ++ words_from (λ name. name) (has_place l.reach.regions) l.region (drop l.region l.regions.names) ≡ l.fn.text ++ regions_text l.regions.names l.reach
