-- The words so far stand for the grants so far.
use Rattle.std.proofs.Common.{◌≡◌, ◌<◌, length, take, All}
use Rattle.vr_rights.specs.Holders.{grants_at}
use Rattle.vr_rights.proofs.words.Words.new.Given as goal

abbrev pub invariant-loop-name : goal.invariant-loop-name
invariant-loop-name l = (grants_at l.names l.items.items ≡ take l.name-index l.grants-2) × All (λ word. word.0 < length l.names) l.items.items
