-- The regions of a policy as they are kept: each holder's grants as words at places, each
-- pipeline's programs as places.
use Rattle.std.specs.Prelude.{◌≡◌, ℕ, not, ◌<◌, ◌≤◌, min, List, [], map, length, position, All, Option, None, Some, slice_index_or, IsPermutation}
use Rattle.vr_base.specs.Rights.{has_bit, execute}
use Rattle.vr_rights.specs.Holders.{grants_at, AreWordsOf}
use Rattle.vr_rights.specs.Tables.{RegionsData}
use Rattle.vr_rights.specs.Words.{word_in}

-- the word in each region of a holder with these words
abbrev pub words_over : List (List ℕ) → List (ℕ × ℕ) → List ℕ
words_over names words = map (λ name. word_in name (grants_at names words)) names

-- the word in the region at a place
abbrev pub word_at_place : List (List ℕ) → List (ℕ × ℕ) → ℕ → ℕ
word_at_place names words place =
    word_in (slice_index_or names place []) (grants_at names words)

-- the first of the places whose region lacks the right to execute
abbrev pub missing_place : List (List ℕ) → List (ℕ × ℕ) → List ℕ → Option ℕ
missing_place names words places =
    position (λ place. not (has_bit (word_at_place names words place) execute)) places

-- what the kept parts tell
abbrev pub tables_of : List (List ℕ) → List (List (ℕ × ℕ)) → List (List (ℕ × ℕ))
    → List (List ℕ) → List (Option ℕ) → RegionsData
tables_of names identities programs pipelines quotas = record {
  names = names;
  identities = map (words_over names) identities;
  programs = map (words_over names) programs;
  missing = map (λ words. map (missing_place names words) pipelines) identities;
  quotas = quotas;
}

-- what the parts keep
pub record KeepsRegions (names : List (List ℕ)) (identities programs : List (List (ℕ × ℕ)))
    (pipelines : List (List ℕ)) (quotas : List (Option ℕ)) : Type 0 where
  pub identities_are : All (AreWordsOf names) identities
  pub programs_are : All (AreWordsOf names) programs
  pub pipelines_are : All (λ places. All (λ place. place < length names) places) pipelines
  pub few_programs : All (λ places. length places ≤ 64) pipelines
  pub quotas_are : length quotas ≡ length names

-- A holder's grants as words at places.
pub record IsHolder (names : List (List ℕ)) (grants : List (List ℕ × ℕ)) (words : List (ℕ × ℕ))
    : Type 0 where
  pub same : IsPermutation grants (grants_at names words)
  pub known : All (λ word. word.0 < length names) words

-- Paths as places.
pub record ArePlaces (names : List (List ℕ)) (paths : List (List ℕ)) (places : List ℕ)
    : Type 0 where
  pub same : map (λ place. slice_index_or names place []) places ≡ paths
  pub known : All (λ place. place < length names) places

-- the lesser of a number and the least so far
abbrev pub least_with : Option ℕ → ℕ → ℕ
least_with None n = n
least_with (Some least) n = min least n
