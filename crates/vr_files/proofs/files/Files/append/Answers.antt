use Rattle.std.proofs.Common.{◌≡◌, [], ◌++◌, set, subst, ap, sym, ◌∙◌}
use Rattle.std.specs.Prelude.{unwrap_or}
use Rattle.std.specs.FinMap.{from_sorted, get, insert}
use Rattle.vr_base.specs.Checks.{result_map}
use Rattle.vr_files.specs.Bodies.{Becomes, sized}
use Rattle.vr_files.specs.Entries.{AreSorted, IsAt, IsGap}
use Rattle.vr_files.specs.FileMaps.{FileTable, FileMap, path_cmp, bytes_at, stored}
use Rattle.vr_files.proofs.ChangeLemmas.{set_sorted, made-set, set_same, found_there, none_there, becomes_mapped}
use Rattle.vr_files.proofs.files.Files.append.Goals as goal

pub invariant_of-self : goal.invariant_of-self
invariant_of-self c =
    let es = c.self.inside.entries.items in
    let path = c.args.path.now in
    let at : IsAt path es c.in-Ok.place = subst (λ x. IsAt path x c.in-Ok.place) c.deref.ensures.value c.in-Ok.ensures.found in
    let new = c.append.new.self in
    subst (λ p. AreSorted (set es c.in-Ok.place (p, new.1))) (sym c.append.ensures.path)
    (set_sorted es path c.in-Ok.place c.index_mut.result.now new.1 c.self.invariant at c.index_mut.ensures.value)

pub returns-in-Ok : goal.returns-in-Ok
returns-in-Ok c =
    let es = c.self.inside.entries.items in
    let path = c.args.path.now in
    let piece = c.args.piece.now in
    let place = c.in-Ok.place in
    let e = c.index_mut.result.now in
    let is = c.index_mut.ensures.value in
    let body = c.append.new.self.1 in
    let r = c.append.result in
    let base : FileMap = from_sorted es in
    let at : IsAt path es place = subst (λ x. IsAt path x place) c.deref.ensures.value c.in-Ok.ensures.found in
    let new : FileMap = from_sorted {R = path_cmp} (set es place (e.0, body)) in
    let whole : Becomes base new r (stored base path (e.1 ++ piece)) =
    becomes_mapped (insert base path) e.1 body base new r (sized (e.1 ++ piece)) c.append.ensures.body
    (made-set es path place e body c.self.invariant at is) (λ same. ap (λ x. from_sorted x) (set_same es place e body is same)) in
    let from_base : Becomes base new r (stored base path (bytes_at base path ++ piece)) =
    subst (λ b. Becomes base new r (stored base path (b ++ piece))) (sym (found_there es path place e c.self.invariant at is)) whole in
    let renamed : Becomes base (from_sorted {R = path_cmp} (set es place c.append.new.self)) r (stored base path (bytes_at base path ++ piece)) =
    subst (λ p. Becomes base (from_sorted {R = path_cmp} (set es place (p, body))) r (stored base path (bytes_at base path ++ piece))) (sym c.append.ensures.path) from_base in
    subst (λ (t : FileTable). Becomes t.map (from_sorted (set es place c.append.new.self)) r (stored t.map path (bytes_at t.map path ++ piece))) c.self.view_is renamed

pub returns-in-Err : goal.returns-in-Err
returns-in-Err c =
    let es = c.self.inside.entries.items in
    let path = c.args.path.now in
    let map = c.args.self.now.map in
    let gap : IsGap path es c.in-Err.field-0 = subst (λ x. IsGap path x c.in-Err.field-0) c.deref.ensures.value c.in-Err.ensures.absent in
    let none : unwrap_or (get map path) [] ≡ [] = sym (ap (λ (t : FileTable). unwrap_or (get t.map path) []) c.self.view_is) ∙ none_there es path c.in-Err.field-0 c.self.invariant gap in
    subst (λ b. Becomes map c.put.new.self.map c.put.result (result_map (insert map path) (sized (b ++ c.args.piece.now)))) (sym none) c.put.ensures
