use Rattle.std.proofs.Common.{◌≡◌, ◌-◌, ◌≤◌, List, ℕ, [], ◌++◌, length, take, sym, ap, ◌∙◌, arith, length-append, length-take, length-drop, replicate}
use Rattle.std.proofs.lemmas.List.{append-nil, nil_from_length, take_all, with_items_is}
use Rattle.std.proofs.Math.Seq.{take-append_seam}
use borrow.Rule.Slice.PartMut.{post_of}
use Rattle.vr_http.proofs.GatherLemmas.{rest_by}
use Rattle.vr_http.proofs.reading.read_rest.Goals as goal

pub returns-clause-rest : goal.returns-clause-rest
returns-clause-rest g c =
    let old = c.args.body.now.items in
    let size = c.args.size in
    let resized = c.in_ok-resize.ensures in
    let bytes = c.deref_mut.result.now in
    let into = c.read_exact.new.into in
    let held = c.len-held.result in
    let value = c.deref_mut.ensures.value in
    let after = post_of held (length bytes - held) bytes in
    let written = take held bytes ++ (into ++ after) in
    let few : length old ≤ size = omega (arith, c.requires, c.args.body.now.ok.0) in
    let zeros = replicate (size - c.args.body.now.len) 0 in
    let whole : length bytes ≡ size = omega (arith, ap length value, resized.len, c.resize.new.self.ok.0) in
    let count : length old ≡ held = omega (arith, c.len-held.ensures, c.args.body.now.ok.0) in
    let front : take held bytes ≡ old =
    ap (take held) (value ∙ resized.items ∙ ap (λ (t : List ℕ). t ++ zeros) (take_all size old few))
    ∙ ap (λ (n : ℕ). take n (old ++ zeros)) (sym count)
    ∙ take-append_seam old zeros in
    let none : after ≡ [] = nil_from_length after (omega (arith, length-drop {A = ℕ})) in
    let same : written ≡ old ++ into =
    ap (λ (t : List ℕ). t ++ (into ++ after)) front
    ∙ ap (λ (t : List ℕ). old ++ (into ++ t)) none
    ∙ ap (λ (t : List ℕ). old ++ t) (append-nil into) in
    let length_written : length written ≡ c.resize.new.self.len =
    omega (arith, length-append {A = ℕ}, length-take {A = ℕ}, length-drop {A = ℕ}, ap length value, c.resize.new.self.ok.0) in
    let items = with_items_is c.resize.new.self written length_written in
    rest_by size old _ into _ _ _ c.read_exact.ensures.filled (items ∙ same) (ap length items ∙ length_written ∙ resized.len)
