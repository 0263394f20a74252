-- The bytes of lists of pages.
use Rattle.std.proofs.Common.{Bool, true, ◌≡◌, ◌⊎◌, inl, inr, ℕ, suc, ◌+◌, ◌-◌, ◌*◌, ◌≤◌, ◌<◌, min, List, [], ◌∷◌, ◌++◌, length, take, drop, get_or, set, replicate, refl, sym, ap, subst, ◌∙◌, arith, append_assoc, length-append}
use Rattle.std.proofs.lemmas.List.{take_at, drop_at, length-take-le, length-drop, take-append-drop, take-append-le, drop-append-le, drop-drop, take_more_set, append-nil, take_all, drop_more, set_split, set-get_or, length-set, length-replicate, replicate-append-replicate}
use Rattle.std.proofs.lemmas.Bool.{and_from, and_parts}
use Rattle.std.proofs.Math.Nat.{mul-zero}
use Rattle.std.proofs.Math.Seq.{take-add}
use Rattle.std.specs.Int.{div_ceil}
use Rattle.std.specs.Cmp.Lexicographic.{pointwise}
use Rattle.std.proofs.lemmas.Slice.Eq.{bytes_eq-Decides}
use Rattle.std.specs.Prelude.{bytes_eq}
use Rattle.std.proofs.lemmas.List.Concat.{flat_map-append}
use Rattle.std.specs.List.{AllClonesOf, AppendsClonesOf, AllByRecursion}
use Rattle.std.specs.declared.sync.Arc.{Arc}
use Rattle.std.specs.declared.alloc.Global.{Global}
use Rattle.vr_files.specs.declared.pages.Page.{Page}
use Rattle.vr_files.specs.declared.pages.TheConstants.{PAGE}
use Rattle.vr_files.specs.Bodies.{overwritten}
use Rattle.vr_files.specs.PageLists.{PageList, bytes_of, IsFull, AreFull, AddsZeros, lacking, Overwrites, Cuts}
use Rattle.vr_files.proofs.Chunks.{all_taken, times_next, length-chunks, take-chunks, drop-chunks, all_joined, all_dropped}
use Rattle.vr_files.proofs.Overwriting.{overwritten-append, overwritten-middle}

pub length-bytes_of : (pages : PageList) → AreFull pages → length (bytes_of pages) ≡ PAGE * length pages
length-bytes_of pages full = length-chunks (λ page. page.value.bytes) PAGE pages full

pub take-bytes_of : (k : ℕ) (pages : PageList) → AreFull pages → take (PAGE * k) (bytes_of pages) ≡ bytes_of (take k pages)
take-bytes_of k pages full = take-chunks (λ page. page.value.bytes) PAGE k pages full

pub drop-bytes_of : (k : ℕ) (pages : PageList) → AreFull pages → drop (PAGE * k) (bytes_of pages) ≡ bytes_of (drop k pages)
drop-bytes_of k pages full = drop-chunks (λ page. page.value.bytes) PAGE k pages full

pub bytes_of-append : (a b : PageList) → bytes_of (a ++ b) ≡ bytes_of a ++ bytes_of b
bytes_of-append a b = flat_map-append (λ page. page.value.bytes) a b

-- a handle of a page of zeros
IsZeros : Arc Page Global → Type 0
IsZeros page = page.value.bytes ≡ replicate PAGE 0

one_clone : (zeros page : Arc Page Global) → IsZeros zeros → (page ≡ zeros) ⊎ (page.value ≡ zeros.value) → IsZeros page
unfolding IsZeros
one_clone zeros page z (inl same) = ap (λ p. p.value.bytes) same ∙ z
one_clone zeros page z (inr same) = ap (λ p. p.bytes) same ∙ z

clones_zero : (zeros : Arc Page Global) (more : PageList) → IsZeros zeros → AllClonesOf (λ x y. y.value ≡ x.value) zeros more
    → AllByRecursion IsZeros more
clones_zero zeros [] z h = tt
clones_zero zeros (page ∷ more) z h = (one_clone zeros page z h.0, clones_zero zeros more z h.1)

zeros_full : (more : PageList) → AllByRecursion IsZeros more → AreFull more
unfolding IsZeros
zeros_full [] h = tt
zeros_full (page ∷ more) h = (ap length h.0 ∙ length-replicate {A = ℕ} PAGE 0, zeros_full more h.1)

zeros_of : (n : ℕ) (more : PageList) → AllByRecursion (λ page. page.value.bytes ≡ replicate n 0) more → bytes_of more ≡ replicate (n * length more) 0
zeros_of n [] h = ap (λ m. replicate m 0) (sym (mul-zero n))
zeros_of n (page ∷ more) h =
    ap (λ x. x ++ bytes_of more) h.0 ∙ ap (λ x. replicate n 0 ++ x) (zeros_of n more h.1)
    ∙ replicate-append-replicate n (n * length more) 0 ∙ ap (λ m. replicate m 0) (sym (times_next n (length more)))

pub adds_clones : (old new : PageList) (count : ℕ) (zeros : Arc Page Global) → zeros.value.bytes ≡ replicate PAGE 0 → length old ≤ count → length new ≡ count
    → AppendsClonesOf (λ x y. y.value ≡ x.value) (take count old) new zeros → AddsZeros old new count
unfolding IsZeros
adds_clones old new count zeros z short counted h =
    let same : take count old ≡ old = take_all count old short in
    let all : AllByRecursion IsZeros h.0 = clones_zero zeros h.0 z h.2 in
    let appended : new ≡ old ++ h.0 = h.1 ∙ ap (λ pages. pages ++ h.0) same in
    record {
      more = h.0;
      appended = appended;
      zeros = zeros_of PAGE h.0 all;
      full = zeros_full h.0 all;
      counted = omega (arith, ap length appended, length-append old h.0);
    }

-- one page more is copied
pub overwritten-page : (before : PageList) (page new : Arc Page Global) (after : PageList) (at k : ℕ) (piece : List ℕ)
    → IsFull page → at ≤ PAGE → k ≡ min (length piece) (PAGE - at) → new.value.bytes ≡ overwritten page.value.bytes at (take k piece)
    → bytes_of (before ++ new ∷ []) ++ overwritten (bytes_of after) 0 (drop k piece) ≡ bytes_of before ++ overwritten (page.value.bytes ++ bytes_of after) at piece
overwritten-page before page new after at k piece full a is fresh =
    let rest : List ℕ = overwritten (bytes_of after) 0 (drop k piece) in
    let h : at ≤ length page.value.bytes = omega arith in
    let e : k ≡ min (length piece) (length page.value.bytes - at) = is ∙ ap (λ n. min (length piece) (n - at)) (sym full) in
    ap (λ x. x ++ rest) (bytes_of-append before (new ∷ []) ∙ ap (λ x. bytes_of before ++ x) (append-nil new.value.bytes ∙ fresh))
    ∙ append_assoc (bytes_of before) _ rest
    ∙ ap (λ x. bytes_of before ++ x) (overwritten-append at k page.value.bytes (bytes_of after) piece h e)

pub full_pushed : (pages : PageList) (page : Arc Page Global) → AreFull pages → IsFull page → AreFull (pages ++ page ∷ [])
full_pushed pages page full one = all_joined IsFull pages (page ∷ []) full (one, tt)

-- the first page of what is left, and the others
pub first_full : (pages : PageList) (k : ℕ) (page : Arc Page Global) → k < length pages → page ≡ get_or pages k page → AreFull (drop k pages)
    → IsFull page × AreFull (drop (k + 1) pages) × (bytes_of (drop k pages) ≡ page.value.bytes ++ bytes_of (drop (k + 1) pages))
first_full pages k page h is full =
    let cut : drop k pages ≡ page ∷ drop (k + 1) pages = drop_more pages k page h ∙ ap (λ p. p ∷ drop (k + 1) pages) (sym is) in
    let here : AreFull (page ∷ drop (k + 1) pages) = subst AreFull cut full in
    (here.0, here.1, ap bytes_of cut)

-- the pages before one, that one and those behind it
pub bytes_of-drop : (pages : PageList) (k : ℕ) (page : Arc Page Global) → k < length pages → page ≡ get_or pages k page → AreFull pages
    → drop (PAGE * k) (bytes_of pages) ≡ page.value.bytes ++ bytes_of (drop (k + 1) pages)
bytes_of-drop pages k page h is full =
    drop-bytes_of k pages full ∙ (first_full pages k page h is (all_dropped IsFull k pages full)).2

pub page_full : (pages : PageList) (k : ℕ) (page : Arc Page Global) → k < length pages → page ≡ get_or pages k page → AreFull pages → IsFull page
page_full pages k page h is full = (first_full pages k page h is (all_dropped IsFull k pages full)).0

-- bytes that lie in one page
pub part_of_page : (pages : PageList) (k from count : ℕ) (page : Arc Page Global) → AreFull pages → k < length pages → page ≡ get_or pages k page → from + count ≤ PAGE
    → take count (drop (PAGE * k + from) (bytes_of pages)) ≡ take count (drop from page.value.bytes)
part_of_page pages k from count page full h is fits =
    let whole = page_full pages k page h is full in
    let rest = bytes_of (drop (k + 1) pages) in
    ap (λ x. take count x) (sym (drop-drop from (PAGE * k) (bytes_of pages)) ∙ ap (λ x. drop from x) (bytes_of-drop pages k page h is full)
    ∙ drop-append-le from page.value.bytes rest (omega arith))
    ∙ take-append-le count (drop from page.value.bytes) rest (omega (arith, length-drop from page.value.bytes))

-- the pages that were extended, with others in the middle over which the piece is written
pub overwrites : (old long middle others new : PageList) (at first last from : ℕ) (piece : List ℕ)
    → AreFull old → AddsZeros old long last → last ≡ div_ceil (at + length piece) PAGE → first ≤ last → at ≡ PAGE * first + from → from + length piece ≤ PAGE * (last - first)
    → middle ≡ take (last - first) (drop first long) → AreFull others → length others ≡ length middle → bytes_of others ≡ overwritten (bytes_of middle) from piece
    → new ≡ take first long ++ others ++ drop (first + length others) long → Overwrites old new at piece
overwrites old long middle others new at first last from piece full adds end order place fits is whole count bytes made =
    let A = take first long in
    let C = drop last long in
    let sized : length long ≡ length old + (last - length old) = ap length adds.appended ∙ length-append old adds.more ∙ ap (λ n. length old + n) adds.counted in
    let long_full : AreFull long = subst AreFull (sym adds.appended) (all_joined IsFull old adds.more full adds.full) in
    let A_full : AreFull A = all_taken IsFull first long long_full in
    let C_full : AreFull C = all_dropped IsFull last long long_full in
    let M_full : AreFull middle = subst AreFull (sym is) (all_taken IsFull (last - first) (drop first long) (all_dropped IsFull first long long_full)) in
    let short : first ≤ length long = omega arith in
    let A_len : length A ≡ first = length-take-le first long short in
    let M_len : length middle ≡ last - first = ap length is ∙ length-take-le (last - first) (drop first long) (omega (arith, length-drop first long)) in
    let behind : drop (first + length others) long ≡ C = ap (λ n. drop n long) (omega arith) in
    let split : long ≡ A ++ (middle ++ C) =
    let e : last ≡ first + (last - first) = omega arith in
    sym (take-append-drop first long) ∙ ap (λ x. A ++ x) (sym (take-append-drop (last - first) (drop first long)) ∙ ap (λ x. x ++ drop (last - first) (drop first long)) (sym is)
    ∙ ap (λ x. middle ++ x) (drop-drop (last - first) first long ∙ ap (λ n. drop n long) (sym e))) in
    let new_is : new ≡ A ++ others ++ C = made ∙ ap (λ x. A ++ others ++ x) behind in
    let all : bytes_of long ≡ bytes_of old ++ replicate (lacking old (div_ceil (at + length piece) PAGE)) 0 =
    ap bytes_of adds.appended ∙ bytes_of-append old adds.more ∙ ap (λ x. bytes_of old ++ x) (adds.zeros ∙ ap (λ n. replicate (PAGE * n) 0) (adds.counted ∙ ap (λ n. n - length old) end)) in
    record {
      full = subst AreFull (sym new_is) (all_joined IsFull (A ++ others) C (all_joined IsFull A others A_full whole) C_full);
      counted = omega (arith, ap length new_is, length-append (A ++ others) C, length-append A others, length-drop last long);
      bytes =
          ap bytes_of new_is ∙ bytes_of-append (A ++ others) C ∙ ap (λ x. x ++ bytes_of C) (bytes_of-append A others) ∙ append_assoc (bytes_of A) (bytes_of others) (bytes_of C)
          ∙ ap (λ x. bytes_of A ++ (x ++ bytes_of C)) bytes
          ∙ overwritten-middle at from (bytes_of A) (bytes_of middle) (bytes_of C) piece
          (ap (λ n. n + from) (length-bytes_of A A_full ∙ ap (λ n. PAGE * n) A_len) ∙ sym place) (subst (λ n. from + length piece ≤ n) (sym (length-bytes_of middle M_full ∙ ap (λ n. PAGE * n) M_len)) fits)
          ∙ ap (λ x. overwritten x at piece) (sym (ap (λ x. bytes_of A ++ x) (bytes_of-append middle C)) ∙ sym (bytes_of-append A (middle ++ C)) ∙ ap bytes_of (sym split) ∙ all);
    }

-- the pages with another one in the place of a page, over which the piece is written
pub overwrites_in_page : (old : PageList) (k from at : ℕ) (page new : Arc Page Global) (piece : List ℕ) → AreFull old → k < length old → page ≡ get_or old k page
    → at ≡ PAGE * k + from → from + length piece ≤ PAGE → IsFull new → new.value.bytes ≡ overwritten page.value.bytes from piece → Overwrites old (set old k new) at piece
overwrites_in_page old k from at page new piece full h here place fits whole bytes =
    let A = take k old in
    let C = drop (suc k) old in
    let split : old ≡ A ++ page ∷ C = sym (ap (λ p. set old k p) here ∙ set-get_or old k page) ∙ set_split old k page h in
    let new_is : set old k new ≡ A ++ new ∷ C = set_split old k new h in
    let A_full : AreFull A = all_taken IsFull k old full in
    let C_full : AreFull C = all_dropped IsFull (suc k) old full in
    let A_len : length A ≡ k = length-take-le k old (omega arith) in
    let none : 0 ≡ lacking old (div_ceil (at + length piece) PAGE) = omega arith in
    record {
      full = subst AreFull (sym new_is) (all_joined IsFull A (new ∷ C) A_full (whole, C_full));
      counted = omega (arith, length-set old k new);
      bytes =
          ap bytes_of new_is ∙ bytes_of-append A (new ∷ C) ∙ ap (λ x. bytes_of A ++ (x ++ bytes_of C)) bytes
          ∙ overwritten-middle at from (bytes_of A) page.value.bytes (bytes_of C) piece (ap (λ n. n + from) (length-bytes_of A A_full ∙ ap (λ n. PAGE * n) A_len) ∙ sym place)
          (subst (λ n. from + length piece ≤ n) (sym (page_full old k page h here full)) fits)
          ∙ ap (λ x. overwritten x at piece) (sym (bytes_of-append A (page ∷ C)) ∙ ap bytes_of (sym split) ∙ sym (append-nil (bytes_of old)) ∙ ap (λ n. bytes_of old ++ replicate n 0) none);
    }

-- pages that are cut where one ends
pub cuts_whole : (old : PageList) (count size : ℕ) → AreFull old → count ≤ length old → size ≡ PAGE * count → count ≡ div_ceil size PAGE → Cuts old (take count old) size
cuts_whole old count size full short is end =
    record {
      full = all_taken IsFull count old full;
      counted = length-take-le count old short ∙ end;
      bytes =
          let none : 0 ≡ PAGE * div_ceil size PAGE - size = omega (arith, ap (λ n. PAGE * n) end) in
          sym (take-bytes_of count old full) ∙ ap (λ n. take n (bytes_of old)) (sym is) ∙ sym (append-nil (take size (bytes_of old)))
          ∙ ap (λ n. take size (bytes_of old) ++ replicate n 0) none;
    }

-- pages that are cut within one
pub cuts_within : (old : PageList) (k rest size : ℕ) (page last : Arc Page Global) → AreFull old → k < length old → page ≡ get_or old k page → rest ≤ PAGE → size ≡ PAGE * k + rest
    → k + 1 ≡ div_ceil size PAGE → IsFull last → last.value.bytes ≡ take rest page.value.bytes ++ replicate (PAGE - rest) 0 → Cuts old (take (k + 1) (set old k last)) size
cuts_within old k rest size page last full h here short is end whole bytes =
    let new_is : take (k + 1) (set old k last) ≡ take k old ++ last ∷ [] = take_more_set old k last h in
    record {
      full = subst AreFull (sym new_is) (full_pushed (take k old) last (all_taken IsFull k old full) whole);
      counted = omega (arith, ap length new_is, length-append (take k old) (last ∷ []), length-take-le k old);
      bytes =
          let zeros : PAGE - rest ≡ PAGE * div_ceil size PAGE - size = omega (arith, ap (λ n. PAGE * n) end) in
          let part : take rest page.value.bytes ≡ take rest (drop (PAGE * k) (bytes_of old)) =
          sym (ap (λ x. take rest x) (bytes_of-drop old k page h here full) ∙ take-append-le rest page.value.bytes (bytes_of (drop (k + 1) old)) (omega (arith, page_full old k page h here full))) in
          ap bytes_of new_is ∙ bytes_of-append (take k old) (last ∷ []) ∙ ap (λ x. bytes_of (take k old) ++ x) (append-nil last.value.bytes ∙ bytes)
          ∙ sym (append_assoc (bytes_of (take k old)) (take rest page.value.bytes) (replicate (PAGE - rest) 0))
          ∙ ap (λ x. x ++ replicate (PAGE - rest) 0) (ap (λ x. x ++ take rest page.value.bytes) (sym (take-bytes_of k old full))
          ∙ ap (λ x. take (PAGE * k) (bytes_of old) ++ x) part ∙ sym (take-add (PAGE * k) rest (bytes_of old)) ∙ ap (λ n. take n (bytes_of old)) (sym is))
          ∙ ap (λ n. take size (bytes_of old) ++ replicate n 0) zeros;
    }

-- pages with the same bytes
abbrev same_page : Arc Page Global → Arc Page Global → Bool
same_page x y = bytes_eq x.value.bytes y.value.bytes

pub same_from_pointwise : (a b : PageList) → pointwise same_page a b ≡ true → bytes_of a ≡ bytes_of b
same_from_pointwise [] [] h = refl
same_from_pointwise [] (y ∷ b) h = cc
same_from_pointwise (x ∷ a) [] h = cc
same_from_pointwise (x ∷ a) (y ∷ b) h =
    ap (λ z. z ++ bytes_of a) ((bytes_eq-Decides x.value.bytes y.value.bytes).0 (and_parts _ _ h).0) ∙ ap (λ z. y.value.bytes ++ z) (same_from_pointwise a b (and_parts _ _ h).1)

pub pointwise_from_same : (a b : PageList) → AreFull a → AreFull b → bytes_of a ≡ bytes_of b → pointwise same_page a b ≡ true
pointwise_from_same [] [] f g h = refl
pointwise_from_same [] (y ∷ b) f g h = absurd (omega (arith, g.0, ap length h, length-append y.value.bytes (bytes_of b)))
pointwise_from_same (x ∷ a) [] f g h = absurd (omega (arith, f.0, ap length h, length-append x.value.bytes (bytes_of a)))
pointwise_from_same (x ∷ a) (y ∷ b) f g h =
    let head : x.value.bytes ≡ y.value.bytes = sym (take_at x.value.bytes (bytes_of a) PAGE f.0) ∙ ap (λ z. take PAGE z) h ∙ take_at y.value.bytes (bytes_of b) PAGE g.0 in
    let tail : bytes_of a ≡ bytes_of b = sym (drop_at x.value.bytes (bytes_of a) PAGE f.0) ∙ ap (λ z. drop PAGE z) h ∙ drop_at y.value.bytes (bytes_of b) PAGE g.0 in
    and_from _ _ ((bytes_eq-Decides x.value.bytes y.value.bytes).1 head) (pointwise_from_same a b f.1 g.1 tail)
