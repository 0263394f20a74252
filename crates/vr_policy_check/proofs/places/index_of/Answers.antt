use Rattle.std.proofs.Common.{is_some, ap, sym, ◌∙◌, refl}
use Rattle.vr_policy_check.proofs.PlaceLemmas.{repeat_found, repeat_past, repeat_none, indexes-more, indexes-all}
use Rattle.vr_policy_check.proofs.places.index_of.Goals as goal

pub loop-at-init : goal.loop-at-init
loop-at-init g c = record { new = refl; indexes = λ key. rw c.new-places.ensures.empty refl }

pub returns-then-is_some : goal.returns-then-is_some
returns-then-is_some g c =
    repeat_found g.K.Ord.cmp c.args.keys.now c.loop-at.at c.index-keys-at.result c.loop-at.places c.loop-at-test.true (sym c.index-keys-at.is) c.loop-at.invariant.indexes
    (ap is_some (sym c.in_ok-insert.ensures.old) ∙ sym c.is_some.ensures ∙ c.if-is_some.true) c.loop-at.invariant.new

pub loop-at-preserved : goal.loop-at-preserved
loop-at-preserved g c =
    let absent = ap is_some (sym c.in_ok-insert.ensures.old) ∙ sym c.is_some.ensures ∙ c.if-is_some.false in
    record {
      new = repeat_past g.K.Ord.cmp c.args.keys.now c.loop-at.at c.index-keys-at.result c.loop-at.places c.loop-at-test.true (sym c.index-keys-at.is)
          c.loop-at.invariant.indexes absent c.loop-at.invariant.new;
      indexes = indexes-more g.K.Ord.cmp c.args.keys.now c.loop-at.at c.index-keys-at.result c.loop-at.places
          c.loop-at-test.true (sym c.index-keys-at.is) c.loop-at.invariant.indexes g.met.K.Ord.total c.insert.new.self absent c.in_ok-insert.ensures.updates;
    }

pub returns : goal.returns
returns g c = (
  repeat_none g.K.Ord.cmp c.args.keys.now c.loop-at.at c.loop-at-test.false c.loop-at.invariant.new,
  indexes-all g.K.Ord.cmp c.args.keys.now c.loop-at.at c.loop-at-test.false c.loop-at.places c.loop-at.invariant.indexes,
)
