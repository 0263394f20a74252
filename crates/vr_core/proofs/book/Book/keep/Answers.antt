use Rattle.std.proofs.Common.{◌≡◌, Ok, Err, List, length, refl, sym, ap, ◌∙◌, arith}
use Rattle.vr_keeper.specs.declared.keepers.KeepFault.TheVariants.{Failed, OutOfMemory}
use Rattle.vr_files.specs.FileMaps.{FileMap}
use Rattle.vr_files.specs.Changes.{Change, applied}
use Rattle.vr_core.proofs.CrashLemmas.{safely_asked, kept_after}
use Rattle.vr_core.proofs.Histories.{current_push}
use Rattle.vr_core.proofs.ReplyLemmas.{kept_is_made}
use Rattle.vr_core.proofs.book.Book.keep.Goals as goal

pub keep-requires : goal.keep-requires
keep-requires g c =
    let items = ap (λ (cs : List Change). length cs) c.as_slice.ensures.items in
    omega (arith, items, c.in_ok-reserve-2.ensures.room)

pub invariant_of-self-2 : goal.invariant_of-self-2
invariant_of-self-2 g c =
    let outcome = rw (← c.self.view_is) at c.requires.outcome in
    let asked = rw (← c.self.view_is) at c.requires.asked in
    let changed : c.keep.new.self.files.map ≡ applied c.self.inside.files.files.map c.args.changes = rw (c.keep.ensures.files, c.in_ok-reserve-2.ensures.same) refl in
    let policy = c.keep.ensures.policy ∙ c.in_ok-reserve-2.ensures.policy in
    let pushed = rw c.unwrap.ensures at c.push.ensures.items in
    let history = current_push _ _ _ c.args.seat c.args.who c.args.call c.args.reply _ c.self.invariant.history outcome (kept_is_made c.args.reply _ asked) in
    record {
      checked = rw policy c.self.invariant.checked;
      history = rw (policy, pushed, c.in_ok-reserve.ensures.items, changed, c.in_ok-told.ensures) history;
      loaded = c.in-Ok.ensures.loaded;
      kept = kept_after _ _ c.args.changes c.self.inside.files.files.map c.keep.new.self.files.map c.self.invariant.kept
          (sym (c.keep.ensures.files ∙ ap (λ (m : FileMap). applied m c.args.changes) c.in_ok-reserve-2.ensures.same)) c.in-Ok.ensures.rows;
    }

pub returns-clause-book : goal.returns-clause-book
returns-clause-book g c = invariant_of-self-2 g c

pub returns-clause-crashes : goal.returns-clause-crashes
returns-clause-crashes g c =
    let outcome = rw (← c.self.view_is) at c.requires.outcome in
    let asked = rw (← c.self.view_is) at c.requires.asked in
    let changed : c.keep.new.self.files.map ≡ applied c.self.inside.files.files.map c.args.changes = rw (c.keep.ensures.files, c.in_ok-reserve-2.ensures.same) refl in
    rw (← c.self.view_is) (λ tells. rw changed
    (safely_asked (g.K.Keeper.may_leave c.self.inside.keeper) (g.K.Keeper.may_leave c.apply.new.self)
    (g.K.Keeper.clock c.self.inside.keeper) (g.K.Keeper.clock c.apply.new.self) c.args.changes c.self.inside.files.files.map
    _ (c.args.reply, outcome) c.args.reply asked
    (g.K.Keeper.rows c.self.inside.keeper) (Ok tt) c.self.invariant.kept (g.met.K.Keeper.crashes_tell_rows c.self.inside.keeper tells)
    (c.in-Ok.ensures.crashes tells)))

pub returns-in-Err-OutOfMemory-clause-crashes : goal.returns-in-Err-OutOfMemory-clause-crashes
returns-in-Err-OutOfMemory-clause-crashes g c =
    let outcome = rw (← c.self.view_is) at c.requires.outcome in
    let asked = rw (← c.self.view_is) at c.requires.asked in
    rw (← c.self.view_is) (λ tells. rw c.in_ok-reserve-2.ensures.same
    (safely_asked (g.K.Keeper.may_leave c.self.inside.keeper) (g.K.Keeper.may_leave c.apply.new.self)
    (g.K.Keeper.clock c.self.inside.keeper) (g.K.Keeper.clock c.apply.new.self) c.args.changes c.self.inside.files.files.map
    _ (c.args.reply, outcome) c.args.reply asked
    (g.K.Keeper.rows c.self.inside.keeper) (Err OutOfMemory) c.self.invariant.kept (g.met.K.Keeper.crashes_tell_rows c.self.inside.keeper tells)
    (rw c.in-Err-OutOfMemory.field-0-is at c.in-Err-OutOfMemory.ensures.crashes tells)))

pub returns-in-Err-Failed-clause-crashes : goal.returns-in-Err-Failed-clause-crashes
returns-in-Err-Failed-clause-crashes g c =
    let outcome = rw (← c.self.view_is) at c.requires.outcome in
    let asked = rw (← c.self.view_is) at c.requires.asked in
    rw (← c.self.view_is) (λ tells. rw c.in_ok-reserve-2.ensures.same
    (safely_asked (g.K.Keeper.may_leave c.self.inside.keeper) (g.K.Keeper.may_leave c.apply.new.self)
    (g.K.Keeper.clock c.self.inside.keeper) (g.K.Keeper.clock c.apply.new.self) c.args.changes c.self.inside.files.files.map
    _ (c.args.reply, outcome) c.args.reply asked
    (g.K.Keeper.rows c.self.inside.keeper) (Err Failed) c.self.invariant.kept (g.met.K.Keeper.crashes_tell_rows c.self.inside.keeper tells)
    (rw c.in-Err-Failed.field-0-is at c.in-Err-Failed.ensures.crashes tells)))
