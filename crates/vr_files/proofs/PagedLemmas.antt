-- What the pages of a file keep.
use Rattle.std.proofs.Common.{◌≡◌, ℕ, suc, ◌+◌, ◌-◌, ◌*◌, ◌<◌, ◌≤◌, min, max, Option, Some, None, Bor, List, [], ◌∷◌, ◌++◌, length, take, drop, get_or, replicate, refl, sym, ap, subst, ◌∙◌, arith, append_assoc, length-append}
use Rattle.std.proofs.lemmas.List.{append-nil, take_at, take_all, take-take, take-replicate, length-take, length-drop, drop-replicate, replicate-append-replicate, length-take-le, length-replicate}
use Rattle.std.specs.Int.{div_ceil}
use Rattle.std.specs.Prelude.{IsSome, IfSome}
use Rattle.std.specs.List.{AllZip}
use Rattle.std.proofs.Math.Seq.{take-add}
use Rattle.std.specs.Slice.{IsItemAt}
use Rattle.std.specs.declared.sync.Arc.{Arc}
use Rattle.std.specs.declared.alloc.Global.{Global}
use Rattle.vr_files.specs.declared.pages.Page.{Page}
use Rattle.vr_files.specs.declared.pages.TheConstants.{PAGE, MOST_BYTES}
use Rattle.vr_files.specs.Bodies.{overwritten, written, resized, page_at, padded}
use Rattle.vr_files.specs.PageLists.{PageList, bytes_of, IsFull, AreFull, AddsZeros, lacking, Overwrites, Cuts, IsPaged}
use Rattle.vr_files.proofs.Chunks.{all_joined}
use Rattle.vr_files.proofs.Overwriting.{take-append, drop-append, length-resized, overwritten-zeros, length-written}
use Rattle.vr_files.proofs.PageLemmas.{length-bytes_of, bytes_of-append, bytes_of-drop, page_full, part_of_page}

-- the bytes that are kept
abbrev pub kept : ℕ → PageList → List ℕ
kept len pages = take len (bytes_of pages)

pub length-kept : (len : ℕ) (pages : PageList) → IsPaged len pages → length (kept len pages) ≡ len
length-kept len pages is = length-take-le len (bytes_of pages) (omega (arith, length-bytes_of pages is.full, is.counted))

-- pages whose bytes are those of a file and zeros keep it
pub paged_from : (len more : ℕ) (pages : PageList) (bytes : List ℕ) → AreFull pages → length pages ≡ div_ceil len PAGE → len ≤ MOST_BYTES → length bytes ≡ len
    → bytes_of pages ≡ bytes ++ replicate more 0 → IsPaged len pages × (kept len pages ≡ bytes)
paged_from len more pages bytes full counted most sized is =
    let same : kept len pages ≡ bytes = ap (λ x. take len x) is ∙ take_at bytes (replicate more 0) len sized in
    let count : more ≡ PAGE * length pages - len =
    omega (arith, length-bytes_of pages full, ap length is, length-append bytes (replicate more 0), length-replicate {A = ℕ} more 0) in (
      record {
        full = full;
        counted = counted;
        zeros = is ∙ ap (λ x. x ++ replicate more 0) (sym same) ∙ ap (λ n. kept len pages ++ replicate n 0) count;
        most = most;
      },
      same,
    )

-- a piece is written
pub paged_write : (len at : ℕ) (old new : PageList) (piece : List ℕ) → IsPaged len old → Overwrites old new at piece → 0 < length piece → at + length piece ≤ MOST_BYTES
    → IsPaged (max len (at + length piece)) new × (kept (max len (at + length piece)) new ≡ written (kept len old) at piece)
paged_write len at old new piece is over some fits =
    let b = kept len old in
    let end = at + length piece in
    let m = PAGE * length old - len in
    let l = lacking old (div_ceil end PAGE) in
    let b_len : length b ≡ len = length-kept len old is in
    let zeros : bytes_of old ++ replicate l 0 ≡ b ++ replicate (m + l) 0 =
    ap (λ x. x ++ replicate l 0) is.zeros ∙ append_assoc b (replicate m 0) (replicate l 0) ∙ ap (λ x. b ++ x) (replicate-append-replicate m l 0) in
    paged_from (max len end) (length b + (m + l) - max (length b) end) new (written b at piece) over.full (omega (arith, over.counted, is.counted)) (omega (arith, is.most))
    (length-written b piece at some ∙ ap (λ n. max n end) b_len)
    (over.bytes ∙ ap (λ x. overwritten x at piece) zeros ∙ overwritten-zeros b piece at (m + l) some (omega (arith, is.counted)))

-- the pages are cut
pub paged_cut : (len size : ℕ) (old new : PageList) → IsPaged len old → Cuts old new size → size ≤ len
    → IsPaged size new × (kept size new ≡ resized (kept len old) size)
paged_cut len size old new is cut short =
    let b = kept len old in
    let b_len : length b ≡ len = length-kept len old is in
    let none : 0 ≡ size - length b = omega arith in
    let same : take size (bytes_of old) ≡ resized b size =
    sym (take-take size len (bytes_of old) short) ∙ sym (append-nil (take size b)) ∙ ap (λ n. take size b ++ replicate n 0) none in
    paged_from size (PAGE * div_ceil size PAGE - size) new (resized b size) cut.full cut.counted (omega (arith, is.most)) (length-resized b size)
    (cut.bytes ∙ ap (λ x. x ++ replicate (PAGE * div_ceil size PAGE - size) 0) same)

-- the pages are filled up with zeros
pub paged_grow : (len size : ℕ) (old new : PageList) → IsPaged len old → AddsZeros old new (div_ceil size PAGE) → len ≤ size → size ≤ MOST_BYTES
    → IsPaged size new × (kept size new ≡ resized (kept len old) size)
paged_grow len size old new is adds long most =
    let b = kept len old in
    let m = PAGE * length old - len in
    let l = PAGE * length adds.more in
    let b_len : length b ≡ len = length-kept len old is in
    let full : AreFull new = subst AreFull (sym adds.appended) (all_joined IsFull old adds.more is.full adds.full) in
    let counted : length new ≡ div_ceil size PAGE = omega (arith, ap length adds.appended, length-append old adds.more, adds.counted, is.counted) in
    let all : bytes_of new ≡ b ++ replicate (m + l) 0 =
    ap bytes_of adds.appended ∙ bytes_of-append old adds.more ∙ ap (λ x. bytes_of old ++ x) adds.zeros
    ∙ ap (λ x. x ++ replicate l 0) is.zeros ∙ append_assoc b (replicate m 0) (replicate l 0) ∙ ap (λ x. b ++ x) (replicate-append-replicate m l 0) in
    let fill : replicate (m + l) 0 ≡ replicate (size - length b) 0 ++ replicate (len + (m + l) - size) 0 =
    ap (λ n. replicate n 0) (omega (arith, is.counted, adds.counted)) ∙ sym (replicate-append-replicate (size - length b) (len + (m + l) - size) 0) in
    let whole : b ≡ take size b = sym (take_all size b (omega arith)) in
    paged_from size (len + (m + l) - size) new (resized b size) full counted most (length-resized b size)
    (all ∙ ap (λ x. b ++ x) fill ∙ sym (append_assoc b _ _) ∙ ap (λ x. x ++ replicate (size - length b) 0 ++ replicate (len + (m + l) - size) 0) whole)

-- a page's bytes are those of the file that lie in it, and zeros
pub page_kept : (len k : ℕ) (pages : PageList) (page : Arc Page Global) → IsPaged len pages → k < length pages → page ≡ get_or pages k page
    → page.value.bytes ≡ padded (page_at k (kept len pages))
page_kept len k pages page is h here =
    let K = kept len pages in
    let m = PAGE * length pages - len in
    let left = drop (PAGE * k) K in
    let K_len : length K ≡ len = length-kept len pages is in
    let left_len : length left ≡ len - PAGE * k = omega (arith, length-drop (PAGE * k) K) in
    let whole = page_full pages k page h here is.full in
    let rest = bytes_of (drop (k + 1) pages) in
    let cut : page.value.bytes ++ rest ≡ left ++ replicate m 0 =
    sym (bytes_of-drop pages k page h here is.full) ∙ ap (λ x. drop (PAGE * k) x) is.zeros ∙ drop-append (PAGE * k) K (replicate m 0)
    ∙ ap (λ x. left ++ x) (drop-replicate (PAGE * k - length K) m 0 ∙ ap (λ n. replicate n 0) (omega (arith, is.counted))) in
    sym (take_at page.value.bytes rest PAGE whole) ∙ ap (λ x. take PAGE x) cut ∙ take-append PAGE left (replicate m 0)
    ∙ ap (λ x. take PAGE left ++ x) (take-replicate (PAGE - length left) m 0 (omega (arith, is.counted)) ∙ ap (λ n. replicate n 0) (omega (arith, length-take PAGE left)))

pub length-page_at : (len k : ℕ) (pages : PageList) → IsPaged len pages → length (page_at k (kept len pages)) ≡ min PAGE (len - PAGE * k)
length-page_at len k pages is = omega (arith, length-kept len pages is, length-take PAGE (drop (PAGE * k) (kept len pages)), length-drop (PAGE * k) (kept len pages))

-- the part of a page that is the file's
pub part_kept : (len k : ℕ) (pages : PageList) (page : Arc Page Global) → IsPaged len pages → k < length pages → page ≡ get_or pages k page
    → take (min PAGE (len - PAGE * k)) page.value.bytes ≡ page_at k (kept len pages)
part_kept len k pages page is h here =
    ap (λ x. take (min PAGE (len - PAGE * k)) x) (page_kept len k pages page is h here)
    ∙ take_at (page_at k (kept len pages)) _ (min PAGE (len - PAGE * k)) (length-page_at len k pages is)

-- there are pages up to the end
pub page_there : (len k : ℕ) (pages : PageList) → IsPaged len pages → (k < length pages → PAGE * k < len) × (PAGE * k < len → k < length pages)
page_there len k pages is = (λ h. omega (arith, is.counted), λ h. omega (arith, is.counted))

pub shared_some : (len k : ℕ) (pages : PageList) (r : Option (Bor (Arc Page Global))) → IsPaged len pages → IsItemAt pages k r
    → (IsSome r → PAGE * k < len) × (PAGE * k < len → IsSome r)
shared_some len k pages None is item = (λ h. cc, λ h. item.2 ((page_there len k pages is).1 h))
shared_some len k pages (Some page) is item = (λ h. (page_there len k pages is).0 item.3.0, λ h. refl)

pub shared_bytes : (len k : ℕ) (pages : PageList) (r : Option (Bor (Arc Page Global))) → IsPaged len pages → IsItemAt pages k r
    → IfSome r (λ page. page.now.value.bytes ≡ padded (page_at k (kept len pages)))
shared_bytes len k pages None is item = tt
shared_bytes len k pages (Some page) is item = page_kept len k pages page.now is item.3.0 item.1

-- the bytes of one page more
pub kept-more : (len i : ℕ) (pages : PageList) (page : Arc Page Global) → IsPaged len pages → i < length pages → page ≡ get_or pages i page
    → take (min len (PAGE * i)) (bytes_of pages) ++ take (min PAGE (len - min len (PAGE * i))) page.value.bytes ≡ take (min len (PAGE * (i + 1))) (bytes_of pages)
kept-more len i pages page is h here =
    let B = bytes_of pages in
    let start : PAGE * i < len = (page_there len i pages is).0 h in
    let count = min PAGE (len - min len (PAGE * i)) in
    let first : min len (PAGE * i) ≡ PAGE * i = omega arith in
    let last : PAGE * i + count ≡ min len (PAGE * (i + 1)) = omega arith in
    let part : take count page.value.bytes ≡ take count (drop (PAGE * i) B) =
    let e : PAGE * i + 0 ≡ PAGE * i = omega arith in
    sym (ap (λ n. take count (drop n B)) (sym e) ∙ part_of_page pages i 0 count page is.full h here (omega arith)) in
    ap (λ n. take n B ++ take count page.value.bytes) first ∙ ap (λ x. take (PAGE * i) B ++ x) part ∙ sym (take-add (PAGE * i) count B) ∙ ap (λ n. take n B) last

-- handles of the same pages
pub bytes_of-clones : (old new : PageList) → AllZip (λ x y. y.value ≡ x.value) old new → (bytes_of new ≡ bytes_of old) × (length new ≡ length old) × (AreFull old → AreFull new)
bytes_of-clones [] [] h = (refl, refl, λ _. tt)
bytes_of-clones [] (y ∷ new) h = absurd h
bytes_of-clones (x ∷ old) [] h = absurd h
bytes_of-clones (x ∷ old) (y ∷ new) h =
    let rest = bytes_of-clones old new h.1 in
    (ap (λ p. p.bytes ++ bytes_of new) h.0 ∙ ap (λ z. x.value.bytes ++ z) rest.0, ap suc rest.1, λ full. (ap (λ p. length p.bytes) h.0 ∙ full.0, rest.2 full.1))

pub paged_clones : (len : ℕ) (old new : PageList) → IsPaged len old → AllZip (λ x y. y.value ≡ x.value) old new → IsPaged len new
paged_clones len old new is h =
    let same = bytes_of-clones old new h in
    record {
      full = same.2 is.full;
      counted = same.1 ∙ is.counted;
      zeros = same.0 ∙ is.zeros ∙ ap (λ b. take len b ++ replicate (PAGE * length old - len) 0) (sym same.0) ∙ ap (λ n. kept len new ++ replicate (PAGE * n - len) 0) (sym same.1);
      most = is.most;
    }

-- pages that keep the same bytes are the same
pub same_kept : (len : ℕ) (a b : PageList) → IsPaged len a → IsPaged len b → kept len a ≡ kept len b → bytes_of a ≡ bytes_of b
same_kept len a b is_a is_b same =
    is_a.zeros ∙ ap (λ x. x ++ replicate (PAGE * length a - len) 0) same ∙ ap (λ n. kept len b ++ replicate (PAGE * n - len) 0) (is_a.counted ∙ sym is_b.counted) ∙ sym is_b.zeros
