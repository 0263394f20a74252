-- Sets of places in lists, kept as the bits of words of 64 bits each.
use Rattle.std.specs.Prelude.{◌≡◌, ℕ, Bool, true, false, ◌||◌, ◌&&◌, ◌+◌, ◌/◌, ◌%◌, ◌<◌, ◌==◌, nat_lt, List, length, slice_index_or}
use Rattle.std.specs.Int.{bit_at}

-- how many bits a word has
abbrev pub word_bits : ℕ
word_bits = 64

-- whether a place is in a set: its bit is 1
unfoldable pub has_place : List ℕ → ℕ → Bool
has_place words place =
    bit_at (slice_index_or words (place / word_bits) 0) (place % word_bits) == 1

-- how many words sets of places below a number have
abbrev pub words_for : ℕ → ℕ
words_for count = (count + 63) / word_bits

-- there is a word for the bit of a place
abbrev pub HasRoom : List ℕ → ℕ → Type 0
HasRoom words place = place / word_bits < length words

-- A set of places below a number has those at which a test passes.
pub record IsSet (count : ℕ) (test : ℕ → Bool) (words : List ℕ) : Type 0 where
  pub room : length words ≡ words_for count
  pub same : (place : ℕ) → has_place words place ≡ test place

-- the test that passes nowhere
abbrev pub nowhere : ℕ → Bool
nowhere place = false

-- the test that passes at the places below a number at which another one does
abbrev pub below : ℕ → (ℕ → Bool) → ℕ → Bool
below count test place = nat_lt place count && test place

-- A set got the places at which a test passes.
pub record Adds (test : ℕ → Bool) (old new : List ℕ) : Type 0 where
  pub room : length new ≡ length old
  pub added : (place : ℕ) → has_place new place ≡ (has_place old place || test place)

-- one place, where it is one to add
abbrev pub just : ℕ → Bool → ℕ → Bool
just place is_in other = is_in && other == place

-- the places of a set, where they are ones to add
abbrev pub those_of : List ℕ → Bool → ℕ → Bool
those_of words is_in place = is_in && has_place words place

-- each place at which the first test passes passes the second
abbrev pub Within : (ℕ → Bool) → (ℕ → Bool) → Type 0
Within p q = (place : ℕ) → p place ≡ true → q place ≡ true

-- some place is in both sets
abbrev pub Meet : List ℕ → List ℕ → Type 0
Meet xs ys = (place : ℕ) × (has_place xs place ≡ true) × (has_place ys place ≡ true)
