-- The words so far are those of the holders so far.
use Rattle.std.proofs.Common.{take}
use Rattle.std.specs.List.{AllZip}
use Rattle.vr_rights.specs.Kept.{IsHolder}
use Rattle.vr_rights.proofs.regions.words_of.Given as goal

abbrev pub invariant-loop-holder : goal.invariant-loop-holder
invariant-loop-holder g l = AllZip (λ holder words. IsHolder l.names (g.H.Granted.grants holder) words) (take l.holder-index l.holders) l.all.items
