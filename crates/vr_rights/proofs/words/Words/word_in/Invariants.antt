-- The word in the region is the word in the name that one has come to.
use Rattle.std.proofs.Common.{◌≡◌, ◌<◌, length, [], get_or, IfSome}
use Rattle.vr_rights.specs.Holders.{grants_at}
use Rattle.vr_rights.specs.Words.{word_in}
use Rattle.vr_rights.proofs.ChainLemmas.{length_at}
use Rattle.vr_rights.proofs.HolderLemmas.{word_from}
use Rattle.vr_rights.proofs.words.Words.word_in.Given as goal

abbrev pub invariant-loop-at : goal.invariant-loop-at
invariant-loop-at l = record {
  word : word_in (get_or l.names l.region []) (grants_at l.names l.self) ≡ word_from l.names (grants_at l.names l.self) l.at;
  within : IfSome l.at (λ place. place < length l.names);
}

abbrev pub decreases-loop-at : goal.decreases-loop-at
decreases-loop-at l = length_at l.names l.at
