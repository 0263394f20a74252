-- How the end of a head text is looked for in bytes that more bytes may follow.
use Rattle.std.specs.Prelude.{◌≡◌, ℕ, ◌+◌, ◌-◌, ◌<◌, ◌≤◌, List, ◌++◌, length, drop, slice_index, Some, None, option_map}
use Rattle.httparse.specs.Ascii.{line_feed}
use Rattle.vr_http.specs.Heads.{empty_line_length, text_length}
use Rattle.vr_http.specs.declared.search.Search.{Search}
use Rattle.vr_http.specs.declared.search.Search.TheVariants as found

-- No empty line comes after the LFs between the two places, whatever bytes follow.
pub record Passes (bytes : List ℕ) (from to : ℕ) : Type 0 where
  pub ordered : from ≤ to
  pub within : to ≤ length bytes
  pub passed : (more : List ℕ) → text_length (drop from bytes ++ more)
      ≡ option_map (λ n. (to - from) + n) (text_length (drop to bytes ++ more))

-- The head text that begins at the one place ends at the other, whatever bytes follow.
pub record EndsAt (bytes : List ℕ) (from end : ℕ) : Type 0 where
  pub ordered : from ≤ end
  pub within : end ≤ length bytes
  pub ended : (more : List ℕ) → text_length (drop from bytes ++ more) ≡ Some (end - from)

-- The head text from the one place on has not ended, and the search may go on at the other place.
pub record GoesOn (bytes : List ℕ) (from to : ℕ) : Type 0 where
  pub passes : Passes bytes from to
  pub none : text_length (drop from bytes) ≡ None

-- The first LF from the one place on is at the other.
pub record IsLineEndAt (bytes : List ℕ) (from place : ℕ) : Type 0 where
  pub passes : Passes bytes from place
  pub inside : place < length bytes
  pub here : slice_index bytes place ≡ line_feed

-- The bytes are no empty line, and bytes that follow may make them one.
pub record IsUndecided (bytes : List ℕ) : Type 0 where
  pub no_line : empty_line_length bytes ≡ 0
  pub no_text : text_length bytes ≡ None

-- what a search from a place on found
abbrev pub Finds : List ℕ → ℕ → Search → Type 0
Finds bytes from (found.Ended end) = EndsAt bytes from end
Finds bytes from (found.GoesOn to) = GoesOn bytes from to
