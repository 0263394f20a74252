-- A text that is gathered before a sink sees it, piece by piece.
use Rattle.std.specs.Prelude.{◌≡◌, ℕ, List, ◌++◌, Option, Result, MatchResult}
use Rattle.std.specs.Io.KnownBytes.{Appends}
use Rattle.vr_base.specs.Outside.{AppendsPrefix}

-- The sink gained what was held and the text that came, but for the rest, which is held now.
pub record Gathers (old new : Option (List ℕ)) (held rest text : List ℕ) : Type 0 where
  pub gained : List ℕ
  pub written : Appends old new gained
  pub whole : gained ++ rest ≡ held ++ text

-- A text came to what was held, and the rest was returned; or an error, and the sink gained a prefix of both.
abbrev pub HandsIn : {E : Type 0} → Result (List ℕ) E
    → Option (List ℕ) → Option (List ℕ) → List ℕ → List ℕ → Type 0
HandsIn result old new held text =
    MatchResult result (λ rest. Gathers old new held rest text)
    (λ _. AppendsPrefix old new (held ++ text))

-- The whole text was written; or an error came, and a prefix of it was written.
abbrev pub Writes : {A E : Type 0}
    → Result A E → Option (List ℕ) → Option (List ℕ) → List ℕ → Type 0
Writes result old new text =
    MatchResult result (λ _. Appends old new text) (λ _. AppendsPrefix old new text)

-- ---- texts of which is known what they are

-- a text of this kind was written whole
abbrev pub PutsOne : Option (List ℕ) → Option (List ℕ) → (List ℕ → Type 0) → Type 0
PutsOne old new IsText = (bytes : List ℕ) × IsText bytes × Appends old new bytes

-- a prefix of a text of this kind was written
abbrev pub PutsPrefixOfOne : Option (List ℕ) → Option (List ℕ) → (List ℕ → Type 0) → Type 0
PutsPrefixOfOne old new IsText = (bytes : List ℕ) × IsText bytes × AppendsPrefix old new bytes

-- A whole text was written, of the value that came; or an error came, and a prefix of a text that may break off.
abbrev pub WritesOne : {A E : Type 0} → Result A E → Option (List ℕ) → Option (List ℕ)
    → (A → List ℕ → Type 0) → (List ℕ → Type 0) → Type 0
WritesOne result old new IsWhole IsSoFar =
    MatchResult result (λ x. PutsOne old new (IsWhole x)) (λ _. PutsPrefixOfOne old new IsSoFar)

-- All lines came to what was held, and the rest was returned; or an error, and the sink gained a prefix of what was held
-- and of the first lines.
abbrev pub HandsInLines : {E : Type 0} → Result (List ℕ) E → Option (List ℕ) → Option (List ℕ)
    → List ℕ → (List ℕ → Type 0) → (List ℕ → Type 0) → Type 0
HandsInLines result old new held AreAll AreFirst =
    MatchResult result (λ rest. (lines : List ℕ) × AreAll lines × Gathers old new held rest lines)
    (λ _. (lines : List ℕ) × AreFirst lines × AppendsPrefix old new (held ++ lines))
