-- Pieces that were read, and pieces one after the other.
use Rattle.std.proofs.Common.{◌≡◌, ℕ, zero, suc, ◌+◌, ◌*◌, ◌<◌, ◌≤◌, Bool, true, false, ◌&&◌, nat_lt, if◌then◌else◌, List, [], ◌∷◌, ◌++◌, length, take, get_or, Ok, Err, refl, ap, subst, sym, ◌∙◌, append_assoc, arith}
use Rattle.std.proofs.lemmas.List.{append-nil, length-map}
use Rattle.std.proofs.lemmas.List.FromFn.{length-range_with_len}
use Rattle.std.proofs.lemmas.List.Sums.{AllPass-from_list_all, sum_by_more}
use Rattle.std.specs.List.{list_all, AllPass}
use Rattle.vr_wasi_abi.specs.Iovecs.{are_there, has_buffer, reading, vectors}
use Rattle.vr_wasi_abi.specs.declared.fault.AbiFault.TheVariants.{Inval, Fault}
use Rattle.vr_wasi_abi.specs.declared.iovecs.Iovec.{Iovec}
use Rattle.vr_wasi_abi.specs.declared.iovecs.TheConstants.{MAX_IOVECS, IOVEC_SIZE}
use Rattle.vr_wasm_num.specs.Memory.{Contents, is_within, part}
use Rattle.vr_wasi_calls.specs.Pieces.{bytes_in, size_of}

-- pieces that were read are within the memory
pub read_there : (bytes : List ℕ) (at count : ℕ) (pieces : List Iovec)
    → reading bytes at count ≡ Ok pieces → AllPass (has_buffer bytes) pieces
read_there bytes at count pieces is =
    by_tests (nat_lt MAX_IOVECS count) (is_within bytes at (IOVEC_SIZE * count)) (list_all
    (has_buffer bytes) (vectors bytes at count)) refl is
  where
    by_tests : (many array buffers : Bool)
        → list_all (has_buffer bytes) (vectors bytes at count) ≡ buffers
        → (if many then Err Inval else (if array && buffers then Ok
        (vectors bytes at count) else Err Fault)) ≡ Ok pieces
        → AllPass (has_buffer bytes) pieces
    by_tests true array buffers all h = absurd cc
    by_tests false false buffers all h = absurd cc
    by_tests false true false all h = absurd cc
    by_tests false true true all h =
        let same : vectors bytes at count ≡ pieces = cc in
        subst (AllPass (has_buffer bytes)) same (AllPass-from_list_all (has_buffer bytes)
        (vectors bytes at count) all)

-- so many vectors are as many as that
pub vectors_counted : (bytes : List ℕ) (at count : ℕ) → length (vectors bytes at count) ≡ count
unfolding vectors
vectors_counted bytes at count = simp (length-map, length-range_with_len)

-- and are not too many
pub read_few : (bytes : List ℕ) (at count : ℕ) (pieces : List Iovec)
    → reading bytes at count ≡ Ok pieces → length pieces ≤ MAX_IOVECS
read_few bytes at count pieces is =
    by_tests (nat_lt MAX_IOVECS count) (are_there bytes at count) refl is
  where
    by_tests : (many there : Bool) → nat_lt MAX_IOVECS count ≡ many
        → (if many then Err Inval else (if there then Ok
        (vectors bytes at count) else Err Fault)) ≡ Ok pieces
        → length pieces ≤ MAX_IOVECS
    by_tests true there e h = absurd cc
    by_tests false false e h = absurd cc
    by_tests false true e h =
        let same : vectors bytes at count ≡ pieces = cc in
        let size : length (vectors bytes at count) ≡ count = vectors_counted bytes at count in
        let few : count ≤ MAX_IOVECS = grind (arith, e) in
        omega (arith, ap length same, size, few)

-- a buffer within the memory
pub within_there : (m : Contents) (piece : Iovec) → has_buffer m.bytes piece ≡ true
    → is_within m.bytes piece.pointer piece.length ≡ true
within_there m piece is = is

-- the size of pieces and one more
pub size_more : (pieces : List Iovec) (i : ℕ) (d : Iovec) → i < length pieces
    → size_of (take (i + 1) pieces) ≡ size_of (take i pieces) + (get_or pieces i d).length
size_more pieces i d lt = sum_by_more (λ piece. piece.length) pieces i d lt

-- the bytes of pieces and one more
pub bytes_more : (m : Contents) (pieces : List Iovec) (i : ℕ) (d : Iovec) → i < length pieces
    → bytes_in m (take (i + 1) pieces) ≡ bytes_in m (take i pieces) ++ part m.bytes
    (get_or pieces i d).pointer (get_or pieces i d).length
bytes_more m [] i d lt = absurd (omega arith)
bytes_more m (piece ∷ pieces) zero d lt =
    let none : take 0 pieces ≡ [] = refl in
    simp append-nil
bytes_more m (piece ∷ pieces) (suc i) d lt =
    let first : List ℕ = part m.bytes piece.pointer piece.length in
    let rest = bytes_more m pieces i d (omega arith) in
    let before : List ℕ = bytes_in m (take i pieces) in
    let next : List ℕ = part m.bytes (get_or pieces i d).pointer (get_or pieces i d).length in
    let count : suc i + 1 ≡ suc (i + 1) = omega arith in
    ap (λ n. bytes_in m (take n (piece ∷ pieces))) count ∙ ap (λ bytes. first ++ bytes) rest
    ∙ sym (append_assoc first before next)
