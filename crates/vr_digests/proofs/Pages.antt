-- The bytes of a file, page by page.
use Rattle.std.proofs.Common.{◌≡◌, ℕ, ◌+◌, ◌*◌, ◌≤◌, List, ◌++◌, take, length, sym, ap, ◌∙◌, arith}
use Rattle.std.proofs.lemmas.List.{take_all}
use Rattle.std.proofs.Math.Seq.{take-add}
use Rattle.vr_files.specs.Bodies.{page_at}

-- one page more
pub pages_more : (k : ℕ) (bytes : List ℕ) → take (4096 * (k + 1)) bytes ≡ take (4096 * k) bytes ++ page_at k bytes
pages_more k bytes =
    let more : 4096 * (k + 1) ≡ 4096 * k + 4096 = omega arith in
    ap (λ n. take n bytes) more ∙ take-add (4096 * k) 4096 bytes

-- past the last page there are no bytes
pub pages_past : (k : ℕ) (bytes : List ℕ) → length bytes ≤ 4096 * k → take (4096 * (k + 1)) bytes ≡ take (4096 * k) bytes
pages_past k bytes past = take_all (4096 * (k + 1)) bytes (omega arith) ∙ sym (take_all (4096 * k) bytes past)
