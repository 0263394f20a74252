-- Rights words: their bits, their letters, and the word of a list of grants on a path.
use Rattle.std.specs.Prelude.{◌≡◌, ℕ, Bool, true, not, nat_lt, ◌&&◌, ◌==◌, ◌/◌, ◌%◌, ◌^◌, max, List, [], ◌∷◌, length, map, filter, find, fold, sum, codes, Option, Some, None, option_map, option_and_then, unwrap_or, bit_and, bit_or, if◌then◌else◌}
use Rattle.vr_base.specs.Names.{covers}
use Rattle.vr_base.specs.Signs.{letter_r, letter_w, letter_x}

-- ---- the bits: as WASI preview 1 numbers its rights, and one of this
-- runtime's own to execute a program

abbrev pub fd_read : ℕ
fd_read = 1

abbrev pub fd_seek : ℕ
fd_seek = 2

abbrev pub fd_tell : ℕ
fd_tell = 5

abbrev pub fd_write : ℕ
fd_write = 6

abbrev pub path_create_file : ℕ
path_create_file = 10

abbrev pub path_open : ℕ
path_open = 13

abbrev pub path_filestat_get : ℕ
path_filestat_get = 18

abbrev pub path_filestat_set_size : ℕ
path_filestat_set_size = 19

abbrev pub fd_filestat_get : ℕ
fd_filestat_get = 21

abbrev pub fd_filestat_set_size : ℕ
fd_filestat_set_size = 22

abbrev pub path_unlink_file : ℕ
path_unlink_file = 26

abbrev pub execute : ℕ
execute = 30

-- each right that has a meaning: its bit and its name, in rising order
abbrev pub rights : List (ℕ × List ℕ)
rights =
    (fd_read, codes "fd_read") ∷ (fd_seek, codes "fd_seek") ∷ (fd_tell, codes "fd_tell")
    ∷ (fd_write, codes "fd_write")
    ∷ (path_create_file, codes "path_create_file") ∷ (path_open, codes "path_open")
    ∷ (path_filestat_get, codes "path_filestat_get")
    ∷ (path_filestat_set_size, codes "path_filestat_set_size")
    ∷ (fd_filestat_get, codes "fd_filestat_get")
    ∷ (fd_filestat_set_size, codes "fd_filestat_set_size")
    ∷ (path_unlink_file, codes "path_unlink_file")
    ∷ (execute, codes "execute") ∷ []

abbrev pub right_bits : List ℕ
right_bits = map (λ right. right.0) rights

-- whether a bit has a meaning
abbrev pub IsRight : ℕ → Type 0
IsRight bit = find (λ known. known == bit) right_bits ≡ Some bit

-- the right's name, for a bit that has a meaning
abbrev pub right_name : ℕ → Option (List ℕ)
right_name bit = option_map (λ right. right.1) (find (λ right. right.0 == bit) rights)

-- ---- words

-- the word with these bits, which are distinct
abbrev pub word_of : List ℕ → ℕ
word_of bits = sum (map (λ bit. 2 ^ bit) bits)

-- the word with every bit that has a meaning
abbrev pub every_right : ℕ
every_right = word_of right_bits

-- a word without the bits that have no meaning
abbrev pub known_rights : ℕ → ℕ
known_rights word = bit_and word every_right

-- whether a word has a bit
abbrev pub has_bit : ℕ → ℕ → Bool
has_bit word bit = (word / 2 ^ bit) % 2 == 1

-- the lowest bit of the needed word that the word lacks
abbrev pub missing_right : ℕ → ℕ → Option ℕ
missing_right word needed = find (λ bit. has_bit needed bit && not (has_bit word bit)) right_bits

-- what a read of a file needs
abbrev pub read_rights : ℕ
read_rights = word_of (fd_read ∷ [])

-- what a write of a file needs
abbrev pub write_rights : ℕ
write_rights = word_of (fd_write ∷ [])

-- what an append to a file needs: to seek to its end, and to write
abbrev pub append_rights : ℕ
append_rights = word_of (fd_seek ∷ fd_write ∷ [])

-- what a run of a program needs
abbrev pub execute_rights : ℕ
execute_rights = word_of (execute ∷ [])

-- ---- letters

-- the rights of a reader: r
abbrev pub reader_rights : ℕ
reader_rights =
    word_of (fd_read ∷ fd_seek ∷ fd_tell ∷ path_open ∷ path_filestat_get ∷ fd_filestat_get ∷ [])

-- the rights of a writer: w
abbrev pub writer_rights : ℕ
writer_rights =
    word_of (fd_seek ∷ fd_write ∷ path_create_file ∷ path_open
    ∷ path_filestat_set_size ∷ fd_filestat_set_size ∷ [])

-- the word that a letter stands for: r, w or x
abbrev pub letter_word : ℕ → Option ℕ
letter_word letter =
    if letter == letter_r then Some reader_rights
    else (if letter == letter_w then Some writer_rights
    else (if letter == letter_x then Some execute_rights else None))

-- the union of the words of a text's letters, where each byte is one
abbrev pub letters_word : List ℕ → Option ℕ
letters_word [] = Some 0
letters_word (letter ∷ letters) =
    option_and_then (λ word. option_map (bit_or word) (letters_word letters)) (letter_word letter)

-- ---- the word of a list of grants on a path

-- the greatest of the numbers, and 0 of none
abbrev pub greatest_of : List ℕ → ℕ
greatest_of = fold max 0

-- the grants whose name covers a path
abbrev pub covering_grants : List ℕ → List (List ℕ × ℕ) → List (List ℕ × ℕ)
covering_grants path grants = filter (λ grant. covers grant.0 path) grants

-- the first grant whose name is as long as the longest
abbrev pub longest_grant : List (List ℕ × ℕ) → Option (List ℕ × ℕ)
longest_grant grants =
    find (λ grant. length grant.0 == greatest_of (map (λ g. length g.0) grants)) grants

-- whether a grant's name is longer than that of the best grant so far
abbrev pub is_longer : Option (List ℕ × ℕ) → List ℕ × ℕ → Bool
is_longer None grant = true
is_longer (Some best) grant = nat_lt (length best.0) (length grant.0)

-- the word of the longest grant that covers the path, the first of equal names, or 0
abbrev pub word_on : List ℕ → List (List ℕ × ℕ) → ℕ
word_on path grants =
    unwrap_or (option_map (λ grant. grant.1) (longest_grant (covering_grants path grants))) 0
