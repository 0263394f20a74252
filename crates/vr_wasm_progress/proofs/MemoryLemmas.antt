-- Loads give numbers of their types; stores, copies, fills, growth and the host's replies leave a memory.
use Rattle.std.proofs.Common.{ℕ, zero, suc, ◌+◌, ◌-◌, ◌*◌, ◌/◌, ◌%◌, ◌^◌, ◌≡◌, ◌≤◌, ◌<◌, List, ◌++◌, length, take, drop, replicate, length-append, length-drop, refl, ap, ◌∙◌, arith, Some, true, nat_le, ◌==◌}
use Rattle.std.proofs.lemmas.Bool.{leb-true}
use Rattle.std.proofs.lemmas.List.{length-take-le, length-replicate}
use Rattle.std.proofs.lemmas.Nat.{mod_below}
use Rattle.std.proofs.Math.Nat.{add-mul-mod_self_right, pow-suc}
use Rattle.vr_wasm_ast.specs.declared.opcodes.MemoryAccess.{MemoryAccess}
use Rattle.vr_wasm_ast.specs.Opcodes.{load_of}
use Rattle.vr_wasm_num.specs.declared.memory.TheConstants.{PAGE_SIZE}
use Rattle.vr_wasm_num.specs.Integers.{signed, unsigned}
use Rattle.vr_wasm_num.specs.Memory.{Contents, IsPaged, bytes_of, part, pages_of, with_piece, with_pages}
use Rattle.vr_wasm_steps.specs.Effects.{extended}
use Rattle.vr_wasm_steps.specs.Hosts.{SameSize}
use Rattle.vr_wasm_steps.specs.Store.{width}
use Rattle.vr_wasm_progress.specs.Typed.{Has}
use Rattle.vr_wasm_progress.proofs.CaseLemmas.{either_way}
use Rattle.vr_wasm_progress.proofs.NumberLemmas.{chain, unsigned_width}

-- ---- loads

pow_above : (n : ℕ) → 0 < 2 ^ n
pow_above zero = omega arith
pow_above (suc n) = let more : 2 ^ suc n ≡ 2 ^ n * 2 = pow-suc 2 n in omega (arith, pow_above n)

-- the bytes of a load have room in its type
access_room : (op : ℕ) (a : MemoryAccess) → load_of op ≡ Some a → 2 ^ (8 * 2 ^ a.exponent) ≤ 2 ^ width a.value
access_room op a e =
    let P : MemoryAccess → Type 0 = λ a. 2 ^ (8 * 2 ^ a.exponent) ≤ 2 ^ width a.value in
    chain P (op == 0x28) _ a _ e (λ h. omega arith)
    (λ e. chain P (op == 0x29) _ a _ e (λ h. omega arith)
    (λ e. chain P (op == 0x2c) _ a _ e (λ h. omega arith)
    (λ e. chain P (op == 0x2d) _ a _ e (λ h. omega arith)
    (λ e. chain P (op == 0x2e) _ a _ e (λ h. omega arith)
    (λ e. chain P (op == 0x2f) _ a _ e (λ h. omega arith)
    (λ e. chain P (op == 0x30) _ a _ e (λ h. omega arith)
    (λ e. chain P (op == 0x31) _ a _ e (λ h. omega arith)
    (λ e. chain P (op == 0x32) _ a _ e (λ h. omega arith)
    (λ e. chain P (op == 0x33) _ a _ e (λ h. omega arith)
    (λ e. chain P (op == 0x34) _ a _ e (λ h. omega arith)
    (λ e. chain P (op == 0x35) _ a _ e (λ h. omega arith)
    (λ e. let never : ⊥ = cc e in absurd never))))))))))))

-- what a load gives
pub loaded : (op : ℕ) (a : MemoryAccess) (v : ℕ) → load_of op ≡ Some a → Has a.value (extended a v)
loaded op a v e =
    let room : 2 ^ (8 * 2 ^ a.exponent) ≤ 2 ^ width a.value = access_room op a e in
    let some : 0 < 2 ^ (8 * 2 ^ a.exponent) = pow_above (8 * 2 ^ a.exponent) in
    let less : v % 2 ^ (8 * 2 ^ a.exponent) < 2 ^ (8 * 2 ^ a.exponent) = mod_below v (2 ^ (8 * 2 ^ a.exponent)) some in
    either_way (Has a.value) a.signed (unsigned (width a.value) (signed (8 * 2 ^ a.exponent) v)) (v % 2 ^ (8 * 2 ^ a.exponent))
    (unsigned_width (width a.value) (signed (8 * 2 ^ a.exponent) v)) (omega arith)

-- ---- what leaves a memory

paged_along : (a b : Contents) → length b.bytes ≡ length a.bytes → b.most ≡ a.most → IsPaged a → IsPaged b
paged_along a b size most f = record {
  pages = ap (λ n. n % PAGE_SIZE) size ∙ f.pages;
  within = let within : length a.bytes ≤ a.most * PAGE_SIZE = f.within in omega arith;
  few = let few : a.most ≤ 1024 = f.few in omega arith;
}

-- a reply of the host's
pub replied_memory : (old new : Contents) → SameSize old new → IsPaged old → IsPaged new
replied_memory old new same f = paged_along old new same.size same.most f

-- a piece in place of as many bytes
pub piece_memory : (m : Contents) (at : ℕ) (piece : List ℕ) → at + length piece ≤ length m.bytes
    → IsPaged m → IsPaged (with_piece m at piece)
piece_memory m at piece there f =
    let after : List ℕ = drop (at + length piece) m.bytes in
    let first : length (take at m.bytes) ≡ at = length-take-le at m.bytes (omega arith) in
    let last : length after ≡ length m.bytes - (at + length piece) = length-drop (at + length piece) m.bytes in
    let front : length (take at m.bytes ++ piece) ≡ length (take at m.bytes) + length piece = length-append (take at m.bytes) piece in
    let whole : length ((take at m.bytes ++ piece) ++ after) ≡ length (take at m.bytes ++ piece) + length after = length-append (take at m.bytes ++ piece) after in
    let size : length ((take at m.bytes ++ piece) ++ after) ≡ length m.bytes = omega arith in
    paged_along m (with_piece m at piece) size refl f

bytes_of_length : (n v : ℕ) → length (bytes_of n v) ≡ n
bytes_of_length zero v = refl
bytes_of_length (suc n) v = let rest : length (bytes_of n (v / 256)) ≡ n = bytes_of_length n (v / 256) in omega arith

-- a store
pub stored_memory : (m : Contents) (at n v : ℕ) → nat_le (at + n) (length m.bytes) ≡ true → IsPaged m
    → IsPaged (with_piece m at (bytes_of n v))
stored_memory m at n v test f =
    let there : at + n ≤ length m.bytes = leb-true (at + n) (length m.bytes) test in
    let size : length (bytes_of n v) ≡ n = bytes_of_length n v in
    piece_memory m at (bytes_of n v) (omega arith) f

-- a copy
pub copied_memory : (m : Contents) (to from len : ℕ) → nat_le (to + len) (length m.bytes) ≡ true
    → nat_le (from + len) (length m.bytes) ≡ true → IsPaged m
    → IsPaged (with_piece m to (part m.bytes from len))
copied_memory m to from len test source f =
    let there : to + len ≤ length m.bytes = leb-true (to + len) (length m.bytes) test in
    let less : from + len ≤ length m.bytes = leb-true (from + len) (length m.bytes) source in
    let after : length (drop from m.bytes) ≡ length m.bytes - from = length-drop from m.bytes in
    let size : length (part m.bytes from len) ≡ len = length-take-le len (drop from m.bytes) (omega arith) in
    piece_memory m to (part m.bytes from len) (omega arith) f

-- a fill
pub filled_memory : (m : Contents) (at v len : ℕ) → nat_le (at + len) (length m.bytes) ≡ true → IsPaged m
    → IsPaged (with_piece m at (replicate len (v % 256)))
filled_memory m at v len test f =
    let there : at + len ≤ length m.bytes = leb-true (at + len) (length m.bytes) test in
    let size : length (replicate len (v % 256)) ≡ len = length-replicate len (v % 256) in
    piece_memory m at (replicate len (v % 256)) (omega arith) f

-- growth
pub grown_memory : (m : Contents) (more : ℕ) → nat_le (pages_of m + more) m.most ≡ true → IsPaged m
    → IsPaged (with_pages m more)
grown_memory m more test f =
    let growth : List ℕ = replicate (more * PAGE_SIZE) 0 in
    let room : length m.bytes / PAGE_SIZE + more ≤ m.most = leb-true (pages_of m + more) m.most test in
    let paged : length m.bytes % PAGE_SIZE ≡ 0 = f.pages in
    let zeros : length growth ≡ more * PAGE_SIZE = length-replicate (more * PAGE_SIZE) 0 in
    let whole : length (m.bytes ++ growth) ≡ length m.bytes + length growth = length-append m.bytes growth in
    let size : length (m.bytes ++ growth) ≡ length m.bytes + more * PAGE_SIZE = omega arith in
    let within : length (m.bytes ++ growth) ≤ m.most * PAGE_SIZE = omega arith in
    record {
      pages = ap (λ n. n % PAGE_SIZE) size ∙ add-mul-mod_self_right (length m.bytes) more PAGE_SIZE ∙ paged;
      within = within;
      few = f.few;
    }

-- the size in pages is a number of 32 bits
pub pages_width : (m : Contents) → IsPaged m → pages_of m < 2 ^ 32
pages_width m f =
    let within : length m.bytes ≤ m.most * 65536 = f.within in
    let few : m.most ≤ 1024 = f.few in omega arith
