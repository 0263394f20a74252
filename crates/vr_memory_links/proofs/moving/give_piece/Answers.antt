use Rattle.std.proofs.Common.{◌≡◌, ℕ, ◌+◌, ◌-◌, List, ◌++◌, length, take, drop, sym, ap, ◌∙◌, arith, length-append, length-take, length-drop}
use Rattle.std.proofs.lemmas.List.{take_at, drop-drop, take-append-drop, nil_from_length}
use Rattle.vr_memory_links.proofs.moving.give_piece.Goals as goal

pub returns : goal.returns
returns c =
    let bytes = c.args.bytes.now in
    let at = c.args.at in
    let count = c.min-count.result in
    let left = drop at bytes in
    let copied = c.copy_from_slice.new.self in
    let tail = drop count c.args.into.now in
    let back : at + count - at ≡ count = omega arith in
    let taken : copied ≡ take count left = c.copy_from_slice.ensures.after ∙ ap (λ (n : ℕ). take n left) back in
    let rest : length left ≡ length bytes - at = length-drop at bytes in
    let size : length copied ≡ count = omega (arith, ap length taken, length-take count left) in
    record {
      fits = omega (arith, length-append copied tail);
      within = omega arith;
      moved =
          sym (take-append-drop count left)
          ∙ ap (λ (t : List ℕ). take count left ++ t) (drop-drop count at bytes)
          ∙ ap (λ (t : List ℕ). t ++ drop (at + count) bytes) (sym taken ∙ sym (take_at copied tail count size));
      end = λ none some. nil_from_length left (omega (arith, length-append copied tail, length-drop count c.args.into.now));
    }
