use Rattle.std.specs.List.{All}
use Rattle.vr_memory_links.specs.Links.{IsNewLink}
use Rattle.vr_server_cases.proofs.links.read_links.Given as goal

abbrev pub invariant-loop-input : goal.invariant-loop-input
invariant-loop-input l = All IsNewLink l.links.items
