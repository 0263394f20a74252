use Rattle.std.proofs.Common.{◌∙◌, length, sym, ap, map, arith}
use Rattle.std.proofs.lemmas.List.{length-map}
use Rattle.std.specs.Prelude.{string_bytes}
use Rattle.vr_base.specs.Checks.{or_fault, result_map}
use Rattle.vr_words.proofs.LengthLemmas.{place_small}
use Rattle.vr_words.proofs.ScanLemmas.{more_read, stuck_here, read_whole, mapped_ok}
use Rattle.vr_words.specs.Reading.{step}
use Rattle.vr_words.specs.Views.{state_of, task_of}
use Rattle.vr_words.proofs.scan.scan.Goals as goal

pub overflow_cast-at : goal.overflow_cast-at
overflow_cast-at c =
    omega (arith, place_small c.args.verbs (map string_bytes c.args.words.now) c.loop-place.place _ c.loop-place.invariant (omega (arith, length-map c.args.words.now string_bytes)))

pub returns-in-None : goal.returns-in-None
returns-in-None c =
    stuck_here c.args.verbs string_bytes c.args.words.now c.loop-place.place (state_of c.loop-place.state) c.loop-place.invariant
    c.loop-place-test.true c.index-words-place.result c.index-words-place.is
    (ap (step c.args.verbs c.loop-place.place (state_of c.loop-place.state)) (sym c.as_str.ensures.value) ∙ sym c.in-None.ensures)

pub loop-place-preserved : goal.loop-place-preserved
loop-place-preserved c =
    more_read c.args.verbs string_bytes c.args.words.now c.loop-place.place (state_of c.loop-place.state) c.loop-place.invariant
    c.loop-place-test.true c.index-words-place.result c.index-words-place.is (state_of c.in-Some.next)
    (ap (step c.args.verbs c.loop-place.place (state_of c.loop-place.state)) (sym c.as_str.ensures.value) ∙ sym c.in-Some.ensures)

pub overflow_cast-words : goal.overflow_cast-words
overflow_cast-words c =
    omega (arith, place_small c.args.verbs (map string_bytes c.args.words.now) c.loop-place.place _ c.loop-place.invariant (omega (arith, length-map c.args.words.now string_bytes)))

pub returns : goal.returns
returns c =
    ap (λ r. result_map task_of r) c.ok_or.ensures.value
    ∙ (mapped_ok task_of (length c.args.words.now) c.command.result
    ∙ (ap (or_fault (length c.args.words.now)) c.command.ensures
    ∙ sym (read_whole c.args.verbs string_bytes c.args.words.now c.loop-place.place (state_of c.loop-place.state) c.loop-place.invariant (omega arith))))
