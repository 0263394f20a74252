-- The number that a command line says.
use Rattle.std.proofs.Common.{◌≡◌, ◌≤◌, ℕ, ◌&&◌, List, [], ◌∷◌, Option, Some, inl, inr, ap, subst, option_map, arith}
use Rattle.std.specs.Prelude.{IfSome, is_none}
use Rattle.std.specs.Str.Parse.{digits_value}
use Rattle.vr_words.specs.Grammar.{Item, operand, apart, attached, place_after, take_file, take_operand, take_item, take_items, takes_two}
use Rattle.vr_text.specs.Numerals.{is_numeral}
use Rattle.vr_words.specs.Numbers.{number_within, is_within}
use Rattle.vr_words.specs.Options.{Placed, Said, give, is_plain, may_come, take_option}
use Rattle.vr_words.specs.declared.commands.Verb.{Verb}
use Rattle.vr_words.specs.declared.commands.Verb.TheVariants as verbs
use Rattle.vr_words.specs.declared.options.Choice.{Choice}
use Rattle.vr_words.specs.declared.options.Choice.TheVariants.{Fuel, Workers, Sessions, Port, Store}
use Rattle.vr_words.proofs.Results.{bool_cases, bound, chosen, mapped}

-- the number that was said, if any, is one of `make`'s
abbrev pub HasSmallCount : Said → Type 0
HasSmallCount said = IfSome said.count (λ count. count ≤ 1000)

same_count : (old new : Said) → old.count ≡ new.count → HasSmallCount old → HasSmallCount new
same_count old new e h = subst (λ (o : Option ℕ). IfSome o (λ count. count ≤ 1000)) e h

small_number : (n : ℕ) (word : List ℕ) → number_within 1 1000 word ≡ Some n → n ≤ 1000
small_number n word e = grind (arith, chosen (is_numeral word && is_within 1 1000 (digits_value 10 word)) (Some (digits_value 10 word)) n e)

-- the value of an option is no number of `make`
given_count : (said : Said) (choice : Choice) (word : List ℕ) (next : Said) → give said choice word ≡ Some next → said.count ≡ next.count
given_count said Fuel word next h = ap (λ (s : Said). s.count) (mapped _ _ next h).2
given_count said Workers word next h = ap (λ (s : Said). s.count) (mapped _ _ next h).2
given_count said Sessions word next h = ap (λ (s : Said). s.count) (mapped _ _ next h).2
given_count said Port word next h = ap (λ (s : Said). s.count) (mapped _ _ next h).2
given_count said Store word next h =
    let given = (chosen (is_plain word) (Some (record said { store = Some word })) next h).1 in
    cc (given)

taken_file : (verb : Verb) (said : Said) (file : Placed) (next : Said) → take_file verb said file ≡ Some next → said.count ≡ next.count
taken_file verb said file next h = elim (bool_cases (is_none said.first)) [
  | inl none ↦
      let took : Some (record said { first = Some file }) ≡ Some next = rw none at h in
      cc (took)
  | inr some ↦
      let took = chosen (takes_two verb && is_none said.second) (Some (record said { second = Some file })) next (rw some at h) in
      let is = took.1 in
      cc (is)
]

taken_operand : (verb : Verb) (place : ℕ) (said : Said) (word : List ℕ) (next : Said) → take_operand verb place said word ≡ Some next → HasSmallCount said → HasSmallCount next
taken_operand verbs.Make place said word next h small =
    let taken = (chosen (is_none said.count) (option_map (λ n. record said { count = Some n }) (number_within 1 1000 word)) next h).1 in
    let counted = mapped (λ (n : ℕ). record said { count = Some n }) (number_within 1 1000 word) next taken in
    subst HasSmallCount counted.2 (small_number counted.0 word counted.1)
taken_operand verbs.Hash place said word next h small = same_count said next (taken_file verbs.Hash said _ next h) small
taken_operand verbs.Check place said word next h small = same_count said next (taken_file verbs.Check said _ next h) small
taken_operand verbs.Flows place said word next h small = same_count said next (taken_file verbs.Flows said _ next h) small
taken_operand verbs.Replay place said word next h small = same_count said next (taken_file verbs.Replay said _ next h) small
taken_operand verbs.Serve place said word next h small = same_count said next (taken_file verbs.Serve said _ next h) small

taken_option : (verb : Verb) (said : Said) (choice : Choice) (word : List ℕ) (next : Said) → take_option verb said choice word ≡ Some next → said.count ≡ next.count
taken_option verb said choice word next h = given_count said choice word next (chosen (may_come verb said choice) (give said choice word) next h).1

taken_item : (verb : Verb) (place : ℕ) (said : Said) (item : Item) (next : Said) → take_item verb place said item ≡ Some next → HasSmallCount said → HasSmallCount next
taken_item verb place said (operand word) next h small = taken_operand verb place said word next (chosen (is_plain word) (take_operand verb place said word) next h).1 small
taken_item verb place said (apart choice value) next h small = same_count said next (taken_option verb said choice value next h) small
taken_item verb place said (attached choice value) next h small = same_count said next (taken_option verb said choice value next h) small

-- items say no other number than one of `make`'s
pub small_count : (verb : Verb) (place : ℕ) (said : Said) (items : List Item) (last : Said) → take_items verb place said items ≡ Some last → HasSmallCount said → HasSmallCount last
small_count verb place said [] last h small = same_count said last (cc (h)) small
small_count verb place said (item ∷ items) last h small =
    let next = bound (λ more. take_items verb (place_after place item) more items) (take_item verb place said item) last h in
    small_count verb (place_after place item) next.0 items last next.2 (taken_item verb place said item next.0 next.1 small)
