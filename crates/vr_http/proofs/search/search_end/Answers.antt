use Rattle.std.proofs.Common.{◌≡◌, ◌+◌, ◌∙◌, arith}
use Rattle.std.proofs.lemmas.List.{take_rest}
use Rattle.vr_http.proofs.SearchLemmas.{line_from, Passes-line, GoesOn-line, GoesOn-after}
use Rattle.vr_http.proofs.search.search_end.Goals as goal

pub returns-in-None : goal.returns-in-None
returns-in-None c =
    let bytes = c.args.bytes.now in
    let line = line_from bytes c.args.from c.loop-place.at c.in-Some.place c.loop-place.invariant c.in-Some.ensures.found in
    GoesOn-line bytes c.args.from c.in-Some.place line (rw (take_rest bytes (c.in-Some.place + 1)) at c.in-None.ensures.unknown)

pub loop-place-preserved : goal.loop-place-preserved
loop-place-preserved c =
    let bytes = c.args.bytes.now in
    let line = line_from bytes c.args.from c.loop-place.at c.in-Some.place c.loop-place.invariant c.in-Some.ensures.found in
    let none : c.in-Some-eq0.field-0 ≡ 0 = omega arith in
    Passes-line bytes c.args.from c.in-Some.place line
    (λ more. (rw (take_rest bytes (c.in-Some.place + 1)) at c.in-Some-eq0.ensures.known) more ∙ none)

pub returns : goal.returns
returns c =
    GoesOn-after c.args.bytes.now c.args.from c.loop-place.at _ c.loop-place.invariant c.in_default.ensures.none
