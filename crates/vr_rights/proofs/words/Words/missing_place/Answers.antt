-- The first region without the right, and none where each has it.
use Rattle.std.proofs.Common.{◌≡◌, ◌<◌, ℕ, not, false, [], length, arith, get_or, sym, ap}
use Rattle.vr_base.specs.Rights.{has_bit, execute}
use Rattle.vr_base.proofs.Places.{first_passes, passes_none}
use Rattle.vr_rights.specs.Holders.{grants_at}
use Rattle.vr_rights.specs.Words.{word_in}
use Rattle.vr_rights.proofs.words.Words.missing_place.Goals as goal

pub returns-then-not-may_execute : goal.returns-then-not-may_execute
returns-then-not-may_execute c =
    let names = c.args.names.now in
    let regions = c.args.regions.now in
    let place = c.loop-place.place in
    let has = λ (region : ℕ). has_bit (word_in (get_or names region []) (grants_at names c.args.self.now)) execute in
    let within : place < length regions = omega arith in
    let lacks : has (get_or regions place 0) ≡ false = rw (← c.word_in.ensures, ← c.may_execute.ensures) c.if-not-may_execute.true in
    sym (first_passes (λ (region : ℕ). not (has region)) regions place 0 within (ap not lacks) (λ k below. ap not (c.loop-place.invariant k below)))

pub returns : goal.returns
returns c =
    let names = c.args.names.now in
    let regions = c.args.regions.now in
    let has = λ (region : ℕ). has_bit (word_in (get_or names region []) (grants_at names c.args.self.now)) execute in
    sym (passes_none (λ (region : ℕ). not (has region)) regions 0 (λ k l. ap not (c.loop-place.invariant k (omega arith))))
