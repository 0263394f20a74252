-- Grammars: which bytes spell which value (WebAssembly Core 1.0, section 5.1.1). A grammar cuts the
-- bytes into parts and says of each part what it spells.
use Rattle.std.specs.Prelude.{◌≡◌, ℕ, zero, suc, List, [], ◌∷◌, ◌++◌, length, ◌⊎◌}

abbrev pub Grammar : Type 0 → Type 1
Grammar A = List ℕ → A → Type 0

-- the bytes are those of the first part, which spell some value, and then those that it asks for
pub record Sequence {A B : Type 0} (R : List ℕ → A → Type 0) (S : A → List ℕ → B → Type 0)
    (text : List ℕ) (b : B) : Type 0 where
  pub prefix : List ℕ
  pub suffix : List ℕ
  pub value : A
  pub parts : text ≡ prefix ++ suffix
  pub first : R prefix value
  pub second : S value suffix b

infixl 10 ◌>>=◌
abbrev pub ◌>>=◌ : {A B : Type 0} → Grammar A → (A → Grammar B) → Grammar B
R >>= S = Sequence R S

-- no bytes spell this value
abbrev pub gives : {A : Type 0} → A → Grammar A
gives a text b = (text ≡ []) × (b ≡ a)

-- this byte, and then the rest
abbrev pub byte_then : {A : Type 0} → ℕ → Grammar A → Grammar A
byte_then b R [] a = ⊥
byte_then b R (c ∷ text) a = (c ≡ b) × R text a

abbrev pub either : {A : Type 0} → Grammar A → Grammar A → Grammar A
either R S text a = R text a ⊎ S text a

-- only where a condition holds
abbrev pub where_ : {A : Type 0} → Type 0 → Grammar A → Grammar A
where_ condition R text a = condition × R text a

-- so many of them, one after the other
abbrev pub many : {A : Type 0} → ℕ → Grammar A → Grammar (List A)
many zero R = gives []
many (suc n) R = do
  first ← R
  others ← many n R
  gives (first ∷ others)

-- bytes of this length
abbrev pub of_length : {A : Type 0} → ℕ → Grammar A → Grammar A
of_length n R text a = (length text ≡ n) × R text a

-- any bytes spell themselves
abbrev pub bytes : Grammar (List ℕ)
bytes text a = a ≡ text

-- any bytes, which are left out
abbrev pub then_any : {A : Type 0} → A → Grammar A
then_any a text b = b ≡ a
