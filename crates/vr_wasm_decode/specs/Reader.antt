-- Reading from left to right: each reader gives a value and what is left, or the first fault. A
-- reader bears the name of what it reads, and `_at`.
use Rattle.std.specs.Prelude.{ℕ, zero, suc, ◌+◌, ℤ, List, [], ◌∷◌, length, take, drop, Result, Ok, Err, nat_lt, ◌==◌, if◌then◌else◌}
use Rattle.vr_wasm_ast.specs.declared.cursor.LebFault.{LebFault}
use Rattle.vr_wasm_ast.specs.declared.cursor.LebFault.TheVariants as leb
use Rattle.vr_wasm_ast.specs.Checks.{result_map, GivesBy}
use Rattle.vr_wasm_ast.specs.Checks as checks
use Rattle.vr_wasm_ast.specs.Rest.{Rest, rest}
use Rattle.vr_wasm_ast.specs.Numbers.{unsigned_at, signed_at}
use Rattle.vr_wasm_decode.specs.declared.fault.DecodeFault.{DecodeFault}
use Rattle.vr_wasm_decode.specs.declared.fault.DecodeKind.{DecodeKind}
use Rattle.vr_wasm_decode.specs.declared.fault.DecodeKind.TheVariants.{Leb, SectionSize, BadByte, TooMany}
use Rattle.vr_wasm_decode.specs.declared.fault.ReadError.{ReadError}
use Rattle.vr_wasm_decode.specs.Faults.{fault_at, told}

abbrev pub Reader : Type 0 → Type 0
Reader A = Rest → Result (A × Rest) DecodeFault

-- goes on with what was read, and with what is left
abbrev pub on_ok : {A B : Type 0} → Result (A × Rest) DecodeFault
    → (A → Rest → Result B DecodeFault) → Result B DecodeFault
on_ok read f = checks.◌>>=◌ read (λ x. f x.0 x.1)

infixl 10 ◌>>=◌
abbrev pub ◌>>=◌ : {A B : Type 0} → Reader A → (A → Reader B) → Reader B
(r >>= f) before = on_ok (r before) f

-- what a call returned, and what it left, is what reading gives, unless memory ran out
abbrev pub Gives : {X : Type 0} → Result X ReadError → Rest → Result (X × Rest) DecodeFault → Type 0
Gives result after read = GivesBy told (result_map (λ x. (x, after)) result) read

-- the same of a call that reads all that it is given
abbrev pub GivesAll : {X : Type 0} → Result X ReadError → Result X DecodeFault → Type 0
GivesAll result read = GivesBy told result read

-- takes nothing
abbrev pub give : {A : Type 0} → A → Reader A
give a before = Ok (a, before)

-- the offset of the next item
abbrev pub here : Reader ℕ
here before = Ok (before.place, before)

abbrev pub stop : {A : Type 0} → DecodeKind → ℕ → Reader A
stop kind place before = Err (fault_at kind place)

-- ---- bytes and numbers (WebAssembly Core 1.0, sections 5.2.1 and 5.2.2)

abbrev pub byte_from : ℕ → List ℕ → Result (ℕ × Rest) DecodeFault
byte_from place [] = Err (fault_at SectionSize place)
byte_from place (b ∷ bytes) = Ok (b, rest (place + 1) bytes)

abbrev pub byte_at : Reader ℕ
byte_at before = byte_from before.place before.bytes

-- the byte that must stand there
abbrev pub expect_at : ℕ → Reader (Unit {0})
expect_at wanted = do
  place ← here
  b ← byte_at
  if b == wanted then give tt else stop BadByte place

-- a number, or the kind of the fault where its bytes end first
abbrev pub number_or : {N : Type 0} → DecodeKind → ℕ → Result (N × Rest) LebFault
    → Result (N × Rest) DecodeFault
number_or short place (Ok x) = Ok x
number_or short place (Err leb.Bad) = Err (fault_at Leb place)
number_or short place (Err leb.Short) = Err (fault_at short place)

-- a number whose bytes may end with the input, or with the contents
abbrev pub u32_or_at : DecodeKind → Reader ℕ
u32_or_at short before = number_or short before.place (unsigned_at 32 before)

abbrev pub u32_at : Reader ℕ
u32_at = u32_or_at SectionSize

abbrev pub s32_at : Reader ℤ
s32_at before = number_or SectionSize before.place (signed_at 32 before)

abbrev pub s64_at : Reader ℤ
s64_at before = number_or SectionSize before.place (signed_at 64 before)

-- ---- several items (section 5.1.3)

abbrev pub items_at : {A : Type 0} → ℕ → Reader A → Reader (List A)
items_at zero r = give []
items_at (suc n) r = do
  first ← r
  others ← items_at n r
  give (first ∷ others)

-- a count that is at most the limit
abbrev pub count_at : ℕ → Reader ℕ
count_at limit = do
  place ← here
  n ← u32_at
  if nat_lt limit n then stop TooMany place else give n

unfoldable pub vector_at : {A : Type 0} → ℕ → Reader A → Reader (List A)
vector_at limit r = do
  n ← count_at limit
  items_at n r

-- ---- contents of a stated size

-- the next bytes, as what is left of them
abbrev pub part_at : DecodeKind → ℕ → Reader Rest
part_at short n before =
    if nat_lt (length before.bytes) n then Err (fault_at short before.place)
    else Ok (rest before.place (take n before.bytes), rest (before.place + n) (drop n before.bytes))

-- a size, and so many bytes
unfoldable pub contents_at : DecodeKind → Reader Rest
contents_at short = do
  n ← u32_or_at short
  part_at short n

-- the item, where no bytes are left
abbrev pub ended_at : {A : Type 0} → A → ℕ → List ℕ → Result A DecodeFault
ended_at a place [] = Ok a
ended_at a place (b ∷ bytes) = Err (fault_at SectionSize place)

-- an item that takes all the bytes
abbrev pub whole_at : {A : Type 0} → Reader A → Rest → Result A DecodeFault
whole_at r before = on_ok (r before) (λ a after. ended_at a after.place after.bytes)

-- what was read of the contents, with what is left after them
abbrev pub after_contents : {A : Type 0} → Result A DecodeFault → Reader A
after_contents (Ok a) before = Ok (a, before)
after_contents (Err e) before = Err e

-- a size, and in so many bytes the item
abbrev pub sized_at : {A : Type 0} → DecodeKind → Reader A → Reader A
sized_at short r = do
  inner ← contents_at short
  after_contents (whole_at r inner)
