use Rattle.std.proofs.Common.{◌≡◌, ℕ, List, Ok, subst, ap, sym, ◌∙◌}
use Rattle.std.specs.FinMap.{from_sorted, insert, put}
use Rattle.vr_base.specs.Checks.{result_map}
use Rattle.vr_files.specs.FileMaps.{FileTable, path_cmp}
use Rattle.vr_files.specs.Entries.{AreSorted}
use Rattle.vr_files.proofs.MapLemmas.{made-put, put_sorted}
use Rattle.vr_files.proofs.files.Files.put.Goals as goal

pub invariant_of-self-2 : goal.invariant_of-self-2
invariant_of-self-2 c = let h = c.in_ok-put.ensures.ok in subst AreSorted (sym h) (put_sorted _ _ c.self.inside.entries.items c.self.invariant)

pub returns : goal.returns
returns c =
    let map = c.args.self.now.map in
    let body = c.in_ok-body.body in
    let copy = c.in_ok-copy.field-0 in
    let es = c.self.inside.entries.items in
    let made : from_sorted c.put.new.entries.items ≡ insert map c.args.path.now body =
    ap (λ x. from_sorted x) c.in_ok-put.ensures.ok ∙ ap (λ (e : List ℕ × List ℕ). from_sorted (put path_cmp e.0 e.1 es)) c.in_ok-new.ensures ∙ made-put copy body es c.self.invariant
    ∙ ap (λ (t : FileTable). insert t.map copy body) c.self.view_is ∙ ap (λ k. insert map k body) c.in_ok-copy.ensures in
    ap (λ r. result_map (insert map c.args.path.now) r) c.in_ok-body.ensures ∙ ap Ok (sym made)
