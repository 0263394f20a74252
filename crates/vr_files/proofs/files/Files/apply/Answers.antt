use Rattle.std.proofs.Common.{rules, IsOk, T, length, ◌≡◌, ℕ, List, ◌∷◌, [], subst, ap, sym, ◌∙◌, arith, length-append}
use Rattle.std.specs.FinMap.{from_sorted, put}
use Rattle.std.specs.Vec.Iter.{into_iter_items, into_iter_len}
use Rattle.std.proofs.lemmas.Iterator.Adapters.{YieldsList-from_vec}
use Rattle.std.proofs.lemmas.Iterator.Consumers.{YieldsList-turn}
use Rattle.vr_files.specs.Entries.{AreSorted}
use Rattle.vr_files.specs.Changes.{Change, applied, changed}
use Rattle.vr_files.specs.FileMaps.{path_cmp}
use Rattle.vr_files.proofs.MapLemmas.{put_sorted, without_sorted}
use Rattle.vr_files.proofs.ChangeLemmas.{applied-push, made-changed-some, made-changed-none}
use Rattle.vr_files.proofs.files.Files.apply.Goals as goal

pub loop-path-preserved-in-Ok : goal.loop-path-preserved-in-Ok
loop-path-preserved-in-Ok c =
    let es = c.loop-path.self-inside.entries.items in
    let so_far = c.loop-path.yielded in
    let path = c.in-Some.path in
    let body = c.in-Some-body.body in
    let put_there : c.put.new.entries.items ≡ put path_cmp path body es = c.in-Ok.ensures.ok ∙ ap (λ (e : List ℕ × List ℕ). put path_cmp e.0 e.1 es) c.in_room-entry.ensures.entry in
    record {
      sorted = subst AreSorted (sym put_there) (put_sorted path body es c.loop-path.invariant.sorted);
      made =
          ap (λ x. from_sorted {R = path_cmp} x) put_there ∙ made-changed-some es (applied c.args.self.now.map so_far) path body c.loop-path.invariant.sorted c.loop-path.invariant.made
          ∙ ap (λ b. changed (applied c.args.self.now.map so_far) path b) (sym c.in-Some-body.is) ∙ sym (applied-push c.args.self.now.map so_far path c.in-Some.body);
      room = omega (arith, length-append {A = Change} so_far ((path, c.in-Some.body) ∷ []));
      rooms = omega (arith, length-append {A = Change} so_far ((path, c.in-Some.body) ∷ []));
    }

pub loop-path-preserved : goal.loop-path-preserved
loop-path-preserved c =
    let es = c.loop-path.self-inside.entries.items in
    let so_far = c.loop-path.yielded in
    let path = c.in-Some.path in
    record {
      sorted = subst AreSorted (sym c.remove.ensures.entries) (without_sorted path es c.loop-path.invariant.sorted);
      made =
          ap (λ x. from_sorted {R = path_cmp} x) c.remove.ensures.entries ∙ made-changed-none es (applied c.args.self.now.map so_far) path c.loop-path.invariant.sorted c.loop-path.invariant.made
          ∙ ap (λ b. changed (applied c.args.self.now.map so_far) path b) (sym c.in-None-body.is) ∙ sym (applied-push c.args.self.now.map so_far path c.in-Some.body);
      room = omega (arith, length-append {A = Change} so_far ((path, c.in-Some.body) ∷ []));
      rooms = omega (arith, length-append {A = Change} so_far ((path, c.in-Some.body) ∷ []));
    }

pub in_room-entry-requires : goal.in_room-entry-requires
in_room-entry-requires c =
    let it = c.into_iter-path-iterator.result in
    let items : into_iter_items it ≡ c.args.changes = search rules in
    let count : into_iter_len it ≡ length c.args.changes = c.into_iter-path-iterator.ensures.into_iter_gives.1 ∙ c.into_vec-path-items.result.ok.0 ∙ ap length c.into_vec-path-items.ensures.items in
    let turn = YieldsList-turn (YieldsList-from_vec {s = it} c.args.changes items count) c.loop-path.yielded c.loop-path.path-iterator c.loop-path.yielded_by c.next.result c.next.new.self (c.in-Some.path, c.in-Some.body) c.in-Some.is c.next.ensures.steps in
    omega (arith, turn.0)

pub unreachable-requires : goal.unreachable-requires
unreachable-requires c =
    let it = c.into_iter-path-iterator.result in
    let items : into_iter_items it ≡ c.args.changes = search rules in
    let count : into_iter_len it ≡ length c.args.changes = c.into_iter-path-iterator.ensures.into_iter_gives.1 ∙ c.into_vec-path-items.result.ok.0 ∙ ap length c.into_vec-path-items.ensures.items in
    let turn = YieldsList-turn (YieldsList-from_vec {s = it} c.args.changes items count) c.loop-path.yielded c.loop-path.path-iterator c.loop-path.yielded_by c.next.result c.next.new.self (c.in-Some.path, c.in-Some.body) c.in-Some.is c.next.ensures.steps in
    subst T (sym (subst IsOk c.in-Err.is (c.put.ensures.succeeds (omega (arith, turn.0))))) tt
