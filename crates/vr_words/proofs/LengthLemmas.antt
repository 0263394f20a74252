-- An accepted list has few words, so that the place of the first word out of place is small.
use Rattle.std.proofs.Common.{◌≡◌, ℕ, ◌+◌, ◌*◌, ◌<◌, ◌≤◌, Bool, true, false, cond, List, [], ◌∷◌, ◌++◌, length, Option, None, Some, refl, sym, ap, ◌∙◌, subst, length-append, take, length-take, ◌^◌, arith}
use Rattle.std.specs.Prelude.{◌&&◌, is_none, option_map}
use Rattle.std.specs.List.{flat_map}
use Rattle.vr_words.proofs.PlaceLemmas.{begun}
use Rattle.vr_words.proofs.Results.{mapped, bound, chosen}
use Rattle.vr_words.specs.Grammar.{Task, Item, operand, apart, attached, item_words, place_after, take_file, takes_two, take_operand, take_item, take_items, IsBegun, AskFor}
use Rattle.vr_words.specs.Numbers.{number_within}
use Rattle.vr_words.specs.Options.{Placed, Said, nothing_said, is_plain, is_open, has_option, may_come, give, take_option}
use Rattle.vr_words.specs.Reading.{State, fresh, steps}
use Rattle.vr_words.specs.declared.commands.Verb.{Verb}
use Rattle.vr_words.specs.declared.commands.Verb.TheVariants.{Hash, Check, Flows, Replay, Make, Serve}
use Rattle.vr_words.specs.declared.commands.Verbs.{Verbs}
use Rattle.vr_words.specs.declared.options.Choice.{Choice}
use Rattle.vr_words.specs.declared.options.Choice.TheVariants.{Fuel, Workers, Sessions, Port, Store}

abbrev filled : {A : Type 0} → Option A → ℕ
filled None = 0
filled (Some x) = 1

filled_least : {A : Type 0} (o : Option A) → filled o ≤ 1
filled_least None = omega arith
filled_least (Some x) = omega arith

empty_filled : {A : Type 0} (o : Option A) → is_none o ≡ true → filled o ≡ 0
empty_filled None h = refl
empty_filled (Some x) h = cc

and_right : (a b : Bool) → a && b ≡ true → b ≡ true
and_right true b h = h
and_right false b h = cc

-- the words that were read for what is said, at most: one for an operand, two for an option
abbrev weight : Said → ℕ
weight said =
    filled said.first + filled said.second + filled said.count + 2 * filled said.fuel + 2 * filled said.workers
    + 2 * filled said.sessions + 2 * filled said.port + 2 * filled said.store

weight_most : (said : Said) → weight said ≤ 13
weight_most said =
    omega (
      arith,
      filled_least said.first,
      filled_least said.second,
      filled_least said.count,
      filled_least said.fuel,
      filled_least said.workers,
      filled_least said.sessions,
      filled_least said.port,
      filled_least said.store,
    )

heavier_file : (verb : Verb) (said more : Said) (file : Placed) (o : Option Placed) → said.first ≡ o → take_file verb said file ≡ Some more → 1 + weight said ≤ weight more
heavier_file verb said more file None e h =
    let taken : Some (record said { first = Some file }) ≡ Some more =
    sym (ap (λ o. cond (is_none o) (Some (record said { first = Some file })) (cond (takes_two verb && is_none said.second) (Some (record said { second = Some file })) None)) e) ∙ h in
    let same : record said { first = Some file } ≡ more = cc (taken) in
    let none : filled said.first ≡ 0 = ap filled e in
    subst (λ (s : Said). 1 + weight said ≤ weight s) same (omega (arith, none))
heavier_file verb said more file (Some first) e h =
    let taken =
    chosen (takes_two verb && is_none said.second) (Some (record said { second = Some file })) more
    (sym (ap (λ o. cond (is_none o) (Some (record said { first = Some file })) (cond (takes_two verb && is_none said.second) (Some (record said { second = Some file })) None)) e) ∙ h) in
    let same : record said { second = Some file } ≡ more = cc (taken.1) in
    let none : filled said.second ≡ 0 = empty_filled said.second (and_right (takes_two verb) (is_none said.second) taken.0) in
    subst (λ (s : Said). 1 + weight said ≤ weight s) same (omega (arith, none))

heavier_operand : (verb : Verb) (place : ℕ) (said more : Said) (word : List ℕ) → take_operand verb place said word ≡ Some more → 1 + weight said ≤ weight more
heavier_operand Make place said more word h =
    let taken = chosen (is_none said.count) (option_map (λ n. record said { count = Some n }) (number_within 1 1000 word)) more h in
    let number = mapped (λ n. record said { count = Some n }) (number_within 1 1000 word) more taken.1 in
    let none : filled said.count ≡ 0 = empty_filled said.count taken.0 in
    subst (λ (s : Said). 1 + weight said ≤ weight s) number.2 (omega (arith, none))
heavier_operand Hash place said more word h = heavier_file Hash said more (record { place = place; text = word }) said.first refl h
heavier_operand Check place said more word h = heavier_file Check said more (record { place = place; text = word }) said.first refl h
heavier_operand Flows place said more word h = heavier_file Flows said more (record { place = place; text = word }) said.first refl h
heavier_operand Replay place said more word h = heavier_file Replay said more (record { place = place; text = word }) said.first refl h
heavier_operand Serve place said more word h = heavier_file Serve said more (record { place = place; text = word }) said.first refl h

heavier_given : (said more : Said) (choice : Choice) (value : List ℕ) → is_open said choice ≡ true → give said choice value ≡ Some more → 2 + weight said ≤ weight more
heavier_given said more Fuel value free h =
    let number = mapped (λ n. record said { fuel = Some n }) (number_within 0 1000000000000 value) more h in
    let none : filled said.fuel ≡ 0 = empty_filled said.fuel free in
    subst (λ (s : Said). 2 + weight said ≤ weight s) number.2 (omega (arith, none))
heavier_given said more Workers value free h =
    let number = mapped (λ n. record said { workers = Some n }) (number_within 1 16 value) more h in
    let none : filled said.workers ≡ 0 = empty_filled said.workers free in
    subst (λ (s : Said). 2 + weight said ≤ weight s) number.2 (omega (arith, none))
heavier_given said more Sessions value free h =
    let number = mapped (λ n. record said { sessions = Some n }) (number_within 1 1000000000 value) more h in
    let none : filled said.sessions ≡ 0 = empty_filled said.sessions free in
    subst (λ (s : Said). 2 + weight said ≤ weight s) number.2 (omega (arith, none))
heavier_given said more Port value free h =
    let number = mapped (λ n. record said { port = Some n }) (number_within 0 65535 value) more h in
    let none : filled said.port ≡ 0 = empty_filled said.port free in
    subst (λ (s : Said). 2 + weight said ≤ weight s) number.2 (omega (arith, none))
heavier_given said more Store value free h =
    let taken = chosen (is_plain value) (Some (record said { store = Some value })) more h in
    let same : record said { store = Some value } ≡ more = cc (taken.1) in
    let none : filled said.store ≡ 0 = empty_filled said.store free in
    subst (λ (s : Said). 2 + weight said ≤ weight s) same (omega (arith, none))

heavier_option : (verb : Verb) (said more : Said) (choice : Choice) (value : List ℕ) → take_option verb said choice value ≡ Some more → 2 + weight said ≤ weight more
heavier_option verb said more choice value h =
    let taken = chosen (may_come verb said choice) (give said choice value) more h in
    heavier_given said more choice value (and_right (has_option verb choice) (is_open said choice) taken.0) taken.1

heavier_item : (verb : Verb) (place : ℕ) (said more : Said) (item : Item) → take_item verb place said item ≡ Some more → length (item_words item) + weight said ≤ weight more
heavier_item verb place said more (operand word) h =
    heavier_operand verb place said more word (chosen (is_plain word) (take_operand verb place said word) more h).1
heavier_item verb place said more (apart choice value) h = heavier_option verb said more choice value h
heavier_item verb place said more (attached choice value) h = omega (arith, heavier_option verb said more choice value h)

heavier_items : (verb : Verb) (items : List Item) (place : ℕ) (said end : Said) → take_items verb place said items ≡ Some end
    → length (flat_map item_words items) + weight said ≤ weight end
heavier_items verb [] place said end h = let same : said ≡ end = cc (h) in subst (λ (s : Said). 0 + weight said ≤ weight s) same (omega arith)
heavier_items verb (item ∷ items) place said end h =
    let taken = bound (λ more. take_items verb (place_after place item) more items) (take_item verb place said item) end h in
    let here = heavier_item verb place said taken.0 item taken.1 in
    let later = heavier_items verb items (place_after place item) taken.0 end taken.2 in
    omega (arith, here, later, length-append (item_words item) (flat_map item_words items))

accepted_length : (verbs : Verbs) (task : Task) (words : List (List ℕ)) → AskFor verbs task words → length words ≤ 14
accepted_length verbs task words h =
    omega (arith, ap length h.spelled, heavier_items h.verb h.items 1 nothing_said h.said h.taken, weight_most h.said)

begun_length : (verbs : Verbs) (words : List (List ℕ)) → IsBegun verbs words → length words ≤ 14
begun_length verbs words h = omega (arith, accepted_length verbs h.1.0 (words ++ h.0) h.1.1, length-append words h.0)

-- words that can be read are few
pub read_length : (verbs : Verbs) (words : List (List ℕ)) (state : State) → steps verbs 0 fresh words ≡ Some state → length words ≤ 14
read_length verbs [] state h = omega arith
read_length verbs (word ∷ words) state h = begun_length verbs (word ∷ words) (begun verbs (word ∷ words) state h (omega arith))

-- so the place that comes after them is small
pub place_small : (verbs : Verbs) (words : List (List ℕ)) (place : ℕ) (state : State) → steps verbs 0 fresh (take place words) ≡ Some state → place ≤ length words → place < 2 ^ 32
place_small verbs words place state h within = omega (arith, read_length verbs (take place words) state h, length-take place words)
