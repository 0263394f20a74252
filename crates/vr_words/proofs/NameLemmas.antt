-- The words that name commands and options, and what they are read as.
use Rattle.std.proofs.Common.{◌≡◌, ℕ, ◌<◌, Bool, true, false, eqb, ltb, lt-ltb, List, [], ◌∷◌, ◌++◌, length, get_or, codes, Option, None, Some, refl, sym, ap, ◌∙◌, subst, inl, inr, length-append, arith}
use Rattle.std.proofs.lemmas.Bool.{eqb-true, ltb-true}
use Rattle.std.proofs.lemmas.Bool.Decides.{nat_tests}
use Rattle.std.proofs.lemmas.Slice.Eq.{bytes_eq-Decides}
use Rattle.std.proofs.lemmas.List.Sums.{split_at_first, passes_at_first}
use Rattle.std.specs.Prelude.{find, bytes_eq, option_map}
use Rattle.std.specs.List.{position_or_len, before_first, after_first}
use Rattle.vr_words.proofs.Results.{bool_cases, mapped}
use Rattle.vr_words.specs.Grammar.{verb_name}
use Rattle.vr_words.specs.Options.{option_name, option_named, every_option, equals_sign, is_equals_sign, is_plain}
use Rattle.vr_words.specs.Reading.{every_verb, verb_named, named_in}
use Rattle.vr_words.specs.declared.commands.Verb.{Verb}
use Rattle.vr_words.specs.declared.commands.Verb.TheVariants.{Hash, Check, Flows, Replay, Make, Serve}
use Rattle.vr_words.specs.declared.options.Choice.{Choice}
use Rattle.vr_words.specs.declared.options.Choice.TheVariants.{Fuel, Workers, Sessions, Port, Store}

found_passes : {A : Type 0} (test : A → Bool) (xs : List A) (x : A) → find test xs ≡ Some x → test x ≡ true
found_passes test [] x h = cc
found_passes test (y ∷ ys) x h = elim (bool_cases (test y)) [
  | inl good ↦ let same : Some y ≡ Some x = rw good at h in subst (λ z. test z ≡ true) (cc (same)) good
  | inr bad ↦ found_passes test ys x (rw bad at h)
]

named_by : {A : Type 0} (text : A → List ℕ) (xs : List A) (name : List ℕ) (x : A) → find (λ y. bytes_eq (text y) name) xs ≡ Some x → text x ≡ name
named_by text xs name x h = (bytes_eq-Decides (text x) name).0 (found_passes (λ y. bytes_eq (text y) name) xs x h)

pub verb_named_is : (name : List ℕ) (verb : Verb) → verb_named name ≡ Some verb → name ≡ verb_name verb
verb_named_is name verb h = sym (named_by verb_name every_verb name verb h)

pub verb_is_named : (verb : Verb) → verb_named (verb_name verb) ≡ Some verb
verb_is_named Hash = refl
verb_is_named Check = refl
verb_is_named Flows = refl
verb_is_named Replay = refl
verb_is_named Make = refl
verb_is_named Serve = refl

other_name : (text name : List ℕ) → (name ≡ text → ⊥) → bytes_eq text name ≡ false
other_name text name h = elim (bool_cases (bytes_eq text name)) [
  | inl same ↦ absurd (h (sym ((bytes_eq-Decides text name).0 same)))
  | inr other ↦ other
]

-- a name of no command
pub verb_unknown : (name : List ℕ) → (name ≡ codes "hash" → ⊥) → (name ≡ codes "check" → ⊥) → (name ≡ codes "flows" → ⊥) → (name ≡ codes "replay" → ⊥)
    → (name ≡ codes "make" → ⊥) → (name ≡ codes "serve" → ⊥) → None ≡ verb_named name
verb_unknown name hash check flows replay make serve =
    rw (other_name _ name hash, other_name _ name check, other_name _ name flows, other_name _ name replay, other_name _ name make, other_name _ name serve) refl

option_named_is : (name : List ℕ) (choice : Choice) → option_named name ≡ Some choice → name ≡ option_name choice
option_named_is name choice h = sym (named_by option_name every_option name choice h)

-- ---- what words name options

pub not_plain : (choice : Choice) → is_plain (option_name choice) ≡ false
not_plain Fuel = refl
not_plain Workers = refl
not_plain Sessions = refl
not_plain Port = refl
not_plain Store = refl

some_byte : (first : ℕ) (rest : List ℕ) → eqb (length (first ∷ rest)) 0 ≡ false
some_byte first rest = grind (arith, nat_tests)

-- the text and what comes after it are no plain word, where the text begins with a hyphen
with_more : (text more : List ℕ) → is_plain (45 ∷ text ++ more) ≡ false
with_more text more = rw (some_byte 45 (text ++ more)) refl

pub joined_not_plain : (choice : Choice) (value : List ℕ) → is_plain (option_name choice ++ equals_sign ∷ value) ≡ false
joined_not_plain Fuel value = with_more (codes "-fuel") (equals_sign ∷ value)
joined_not_plain Workers value = with_more (codes "-workers") (equals_sign ∷ value)
joined_not_plain Sessions value = with_more (codes "-sessions") (equals_sign ∷ value)
joined_not_plain Port value = with_more (codes "-port") (equals_sign ∷ value)
joined_not_plain Store value = with_more (codes "-store") (equals_sign ∷ value)

pub name_alone : (choice : Choice) → named_in (option_name choice) ≡ Some (choice, None)
name_alone Fuel = refl
name_alone Workers = refl
name_alone Sessions = refl
name_alone Port = refl
name_alone Store = refl

-- the sign stands before the end
sign_within : (place : ℕ) (text value : List ℕ) → place ≡ length text → ltb place (length (text ++ equals_sign ∷ value)) ≡ true
sign_within place text value e = lt-ltb place (length (text ++ equals_sign ∷ value)) (omega (arith, length-append text (equals_sign ∷ value)))

pub name_joined : (choice : Choice) (value : List ℕ) → named_in (option_name choice ++ equals_sign ∷ value) ≡ Some (choice, Some value)
name_joined Fuel value = rw (sign_within 6 (codes "--fuel") value refl) refl
name_joined Workers value = rw (sign_within 9 (codes "--workers") value refl) refl
name_joined Sessions value = rw (sign_within 10 (codes "--sessions") value refl) refl
name_joined Port value = rw (sign_within 6 (codes "--port") value refl) refl
name_joined Store value = rw (sign_within 7 (codes "--store") value refl) refl

-- an option with a value in the same word, and without
abbrev with_value : List ℕ → Choice → Choice × Option (List ℕ)
with_value value choice = (choice, Some value)

abbrev without_value : Choice → Choice × Option (List ℕ)
without_value choice = (choice, None)

-- a word with an option's name and a value
value_after : (word : List ℕ) (choice : Choice) (value : List ℕ) → position_or_len is_equals_sign word < length word
    → option_map (with_value (after_first is_equals_sign word)) (option_named (before_first is_equals_sign word)) ≡ Some (choice, Some value)
    → word ≡ option_name choice ++ equals_sign ∷ value
value_after word choice value within h =
    let named = mapped (with_value (after_first is_equals_sign word)) (option_named (before_first is_equals_sign word)) (choice, Some value) h in
    let same : named.0 ≡ choice = ap (λ n. n.0) named.2 in
    let after : Some (after_first is_equals_sign word) ≡ Some value = ap (λ n. n.1) named.2 in
    let rest : after_first is_equals_sign word ≡ value = cc (after) in
    let before : before_first is_equals_sign word ≡ option_name choice = option_named_is _ _ named.1 ∙ ap option_name same in
    let sign : get_or word (position_or_len is_equals_sign word) 0 ≡ equals_sign = eqb-true _ _ (passes_at_first is_equals_sign word 0 within) in
    split_at_first is_equals_sign word 0 within ∙ cc (before, sign, rest)

pub joined_named : (word : List ℕ) (choice : Choice) (value : List ℕ) → named_in word ≡ Some (choice, Some value) → word ≡ option_name choice ++ equals_sign ∷ value
joined_named word choice value h = elim (bool_cases (ltb (position_or_len is_equals_sign word) (length word))) [
  | inl within ↦ value_after word choice value (ltb-true _ _ within) (rw within at h)
  | inr beyond ↦
      let named = mapped without_value (option_named word) (choice, Some value) (rw beyond at h) in
      let never : None ≡ Some value = ap (λ n. n.1) named.2 in
      cc (never)
]

pub alone_named : (word : List ℕ) (choice : Choice) → named_in word ≡ Some (choice, None) → word ≡ option_name choice
alone_named word choice h = elim (bool_cases (ltb (position_or_len is_equals_sign word) (length word))) [
  | inl within ↦
      let named = mapped (with_value (after_first is_equals_sign word)) (option_named (before_first is_equals_sign word)) (choice, None) (rw within at h) in
      let never : Some (after_first is_equals_sign word) ≡ None = ap (λ n. n.1) named.2 in
      cc (never)
  | inr beyond ↦
      let named = mapped without_value (option_named word) (choice, None) (rw beyond at h) in
      option_named_is word _ named.1 ∙ ap option_name (ap (λ n. n.0) named.2)
]
