-- The words so far, before those of the identities that are left, are those of all.
use Rattle.std.proofs.Common.{◌≡◌, ◌++◌, drop}
use Rattle.std.specs.Prelude.{decimal}
use Rattle.vr_flow.specs.Places.{has_place}
use Rattle.vr_report.specs.Flows.{words_from, identities_text}
use Rattle.vr_report.proofs.flows.write_identities.Given as goal

abbrev pub invariant-loop-place : goal.invariant-loop-place
invariant-loop-place l =
    l.text ++ words_from (λ identity. decimal identity.id) (has_place l.reach.identities) l.place (drop l.place l.identities) ≡ l.fn.text ++ identities_text l.identities l.reach
