-- Whether bytes are UTF-8.
use Rattle.std.proofs.Common.{◌≡◌, ℕ, List, Bool, true, false, Result, Ok, Err, refl, sym}
use Rattle.std.specs.Prelude.{is_ok, MatchResult}
use Rattle.std.specs.Str.{IsUtf8, is_utf8}
use Rattle.std.proofs.lemmas.Str.{IsUtf8-from_is_utf8, is_utf8-from_IsUtf8}

no_text : (bytes : List ℕ) (b : Bool) → is_utf8 bytes ≡ b → (IsUtf8 bytes → ⊥) → false ≡ is_utf8 bytes
no_text bytes true e none = absurd (none (IsUtf8-from_is_utf8 bytes e))
no_text bytes false e none = sym e

pub tests_text : {X Y : Type 0} (bytes : List ℕ) (P : X → Type 0) (Q : Y → Type 0) (r : Result X Y)
    → MatchResult r (λ x. P x × IsUtf8 bytes) (λ e. (IsUtf8 bytes → ⊥) × Q e) → is_ok r ≡ is_utf8 bytes
tests_text bytes P Q (Ok x) h = sym (is_utf8-from_IsUtf8 bytes h.1)
tests_text bytes P Q (Err e) h = no_text bytes (is_utf8 bytes) refl h.0
