-- Where the head of a request stands in a stream of bytes, and when there is none.
use Rattle.std.specs.Prelude.{ℕ, ◌+◌, ◌-◌, Bool, ◌&&◌, ◌||◌, ◌==◌, nat_lt, nat_le, List, [], ◌∷◌, length, take, drop, slice_range, count_by, Option, Some, None, option_map, Result, Ok, Err, if◌then◌else◌}
use Rattle.std.specs.List.{list_all, prefix_len}
use Rattle.httparse.specs.Ascii.{line_feed, carriage_return}
use Rattle.vr_http.specs.declared.faults.HttpFault.{HttpFault}
use Rattle.vr_http.specs.declared.faults.HttpFault.TheVariants.{HeadTooLarge, CutShort}

-- LF
abbrev pub is_line_feed : ℕ → Bool
is_line_feed b = b == line_feed

-- CR or LF
abbrev pub is_newline : ℕ → Bool
is_newline b = b == carriage_return || b == line_feed

-- 1 where the bytes begin with LF, and else 0
abbrev pub line_feed_length : List ℕ → ℕ
line_feed_length [] = 0
line_feed_length (b ∷ bytes) = if is_line_feed b then 1 else 0

-- how long the empty line is that the bytes begin with, LF or CR LF, and 0 where they begin with none
abbrev pub empty_line_length : List ℕ → ℕ
empty_line_length [] = 0
empty_line_length (b ∷ bytes) =
    if is_line_feed b then 1 else
    (if b == carriage_return && nat_lt 0 (line_feed_length bytes) then 2 else 0)

-- How long the head text at the front of the bytes is: up to and with the first empty line, which
-- comes after the LF of another line. None where no such line has come.
abbrev pub text_length : List ℕ → Option ℕ
text_length [] = None
text_length (b ∷ bytes) =
    if is_line_feed b && nat_lt 0 (empty_line_length bytes) then Some (1 + empty_line_length bytes)
    else option_map (λ n. 1 + n) (text_length bytes)

-- how many CR and LF bytes come before the head text
abbrev pub blank_length : List ℕ → ℕ
blank_length bytes = prefix_len is_newline bytes

-- where the head text ends, with the CR and LF bytes before it counted
abbrev pub head_end : List ℕ → Option ℕ
head_end bytes =
    option_map (λ n. blank_length bytes + n) (text_length (drop (blank_length bytes) bytes))

-- the lines of a head text between its first one and the empty one
abbrev pub inner_lines : List ℕ → ℕ
inner_lines text = count_by is_line_feed text - 2

-- A head text and the bytes of the stream that come after it.
pub record CutHead : Type 0 where
  pub text : List ℕ
  pub rest : List ℕ

-- the head text and what comes after it, where it has no more than so many inner lines
abbrev pub short_head : ℕ → List ℕ → List ℕ → Result (Option CutHead) HttpFault
short_head most_lines text rest =
    if nat_lt most_lines (inner_lines text) then Err HeadTooLarge
    else Ok (Some (record { text = text; rest = rest }))

-- why there is no head in the bytes: they are as many as a head may have, they end between
-- requests, or they end inside a head
abbrev pub no_head : ℕ → List ℕ → Result (Option CutHead) HttpFault
no_head most bytes =
    if nat_le most (length bytes) then Err HeadTooLarge else
    (if list_all is_newline bytes then Ok None else Err CutShort)

-- what a stream begins with, by the place where its head ends
abbrev pub head_at : ℕ → ℕ → List ℕ → Option ℕ → Result (Option CutHead) HttpFault
head_at most most_lines bytes None = no_head most bytes
head_at most most_lines bytes (Some end) =
    short_head most_lines (slice_range bytes (blank_length bytes) end) (drop end bytes)

-- The first head of a stream, where a head has no more than so many bytes, with the CR and LF
-- bytes before it counted, and no more than so many inner lines. None where the stream ends
-- between requests.
abbrev pub first_head : ℕ → ℕ → List ℕ → Result (Option CutHead) HttpFault
first_head most most_lines bytes = head_at most most_lines bytes (head_end (take most bytes))
