use Rattle.std.proofs.Common.{◌≡◌, ◌<◌, ◌≤◌, ◌∙◌, ℕ, None, Some, map, ap, arith, get_or, length}
use Rattle.std.proofs.lemmas.List.{get_or_default, take_all}
use Rattle.std.specs.List.{filter_map, zip}
use Rattle.std.specs.Prelude.{◌++◌}
use Rattle.vr_wasm_link.proofs.CalleeLemmas.{passed_over, pushed}
use Rattle.vr_wasm_link.specs.Functions.{function_of}
use Rattle.vr_wasm_link.specs.Opening.{own_callee}
use Rattle.vr_wasm_link.proofs.imports.add_own.Goals.{in-Some+in_ok-push, in_default}
use Rattle.vr_wasm_link.proofs.imports.add_own.Goals as goal
use Rattle.vr_wasm_valid.proofs.AnswerLemmas.{length_pairs, pair_at}

pub loop-place-preserved : goal.loop-place-preserved
loop-place-preserved c =
    let m = c.args.module.now in
    let place = c.loop-place.place in
    let code = c.code-item.result in
    let sort : ℕ = get_or m.functions place 0 in
    let pairs = zip m.functions m.codes in
    let before = map function_of c.args.functions.now.items in
    let inside : place < length m.codes = omega (arith, ap length c.as_slice-code-items.ensures) in
    let code_at : code ≡ get_or m.codes place code = cc in
    let within : place < length pairs = omega (arith, length_pairs m.functions m.codes c.requires.codes) in
    let sort_at = get_or_default m.functions place 0 sort (omega arith) in
    let at = pair_at m.functions m.codes place sort code c.requires.codes inside sort_at code_at in
    elim c.match-callee.branch [
      | in-Some+in_ok-push w ↦
          let some : own_callee m.types (sort, code) ≡ Some (function_of w.in-Some.callee) =
          cc (w.in-Some.ensures, c.as_slice.ensures, c.as_slice-sorts.ensures) in
          let same : c.match-callee.functions.items ≡ w.push.new.self.items = cc w.functions-is in
          pushed function_of (own_callee m.types) c.loop-place.functions.items c.match-callee.functions.items
          w.in-Some.callee before pairs place (sort, code) within at c.loop-place.invariant some
          (same ∙ w.in_ok-push.ensures.items)
      | in_default w ↦
          let none : own_callee m.types (sort, code) ≡ None =
          cc (w.in_default.ensures, c.as_slice.ensures, c.as_slice-sorts.ensures) in
          let same : c.match-callee.functions.items ≡ c.loop-place.functions.items = cc w.functions-is in
          ap (map function_of) same
          ∙ passed_over function_of (own_callee m.types) c.loop-place.functions.items before pairs place
          (sort, code) within at c.loop-place.invariant none
    ]

pub returns : goal.returns
returns c =
    let m = c.args.module.now in
    let pairs = zip m.functions m.codes in
    let past : length pairs ≤ c.loop-place.place =
    omega (arith, length_pairs m.functions m.codes c.requires.codes, ap length c.as_slice-code-items.ensures) in
    c.loop-place.invariant
    ∙ ap (λ ps. map function_of c.args.functions.now.items ++ filter_map (own_callee m.types) ps)
    (take_all c.loop-place.place pairs past)
