-- One place more is done.
use Rattle.std.proofs.Common.{◌≡◌, ℕ, ◌<◌, length, List, [], Bool, true, false, get_or, replicate, rules, ◌∙◌, ap, subst}
use Rattle.std.proofs.Math.ListN.{length-replicate}
use Rattle.std.proofs.lemmas.List.{get_or_read}
use Rattle.vr_flow.specs.Closing.{set_at}
use Rattle.vr_flow.specs.Places.{Adds, those_of, has_place}
use Rattle.vr_flow.proofs.PlaceLemmas.{copies_at}
use Rattle.vr_flow.proofs.LoopLemmas.{closing_first, closing_next, closing_all, undone_less}
use Rattle.vr_flow.proofs.closing.close.Goals as goal

pub loop-place-init : goal.loop-place-init
loop-place-init c =
    let n = length c.args.leads.now in
    let fresh : c.in_ok-done.done.items ≡ replicate n false = c.in_ok-done.ensures.items_if_clones_equal (λ y e. search rules) in
    closing_first c.args.leads.now c.args.led.now c.in_ok-done.done.items (ap length fresh ∙ length-replicate n false) (λ place. ap (λ ds. get_or ds place false) fresh ∙ copies_at n place false)

pub loop-place-preserved : goal.loop-place-preserved
loop-place-preserved c =
    let leads = c.args.leads.now in
    let place = c.in-Some.place in
    let within : place < length c.loop-place.done.items = rw c.deref.ensures.value at c.in-Some.ensures.0 in
    let there : place < length leads = rw c.loop-place.invariant.every at within in
    let here : c.index-leads-place.result ≡ set_at leads place = get_or_read leads place c.index-leads-place.result there c.index-leads-place.is [] in
    closing_next leads c.args.led.now c.loop-place.led c.add.new.self c.loop-place.done.items place c.loop-place.invariant within c.in-Some.ensures.1
    (subst (λ (s : List ℕ). Adds (those_of s true) c.loop-place.led c.add.new.self) here c.add.ensures)

pub loop-place-smaller : goal.loop-place-smaller
loop-place-smaller c =
    let place = c.in-Some.place in
    let within : place < length c.loop-place.done.items = rw c.deref.ensures.value at c.in-Some.ensures.0 in
    undone_less c.loop-place.done.items place within (rw c.deref.ensures.value at c.in-Some.ensures.2)

pub returns-clause-closes : goal.returns-clause-closes
returns-clause-closes c =
    let P : List Bool → Type 0 = λ ds. (place : ℕ) → place < length ds → has_place c.loop-place.led place ≡ true → get_or ds place false ≡ true in
    closing_all c.args.leads.now c.args.led.now c.loop-place.led c.loop-place.done.items c.loop-place.invariant (subst P c.deref.ensures.value c.in_default.ensures)
