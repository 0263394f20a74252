-- Files with changes.
use Rattle.std.proofs.Common.{◌≡◌, ℕ, List, [], ◌∷◌, ◌++◌, get_or, set, Option, Some, None, Result, Ok, Err, refl, sym, ap, subst, ◌∙◌}
use Rattle.std.specs.Prelude.{unwrap_or}
use Rattle.std.specs.FinMap.{put, get, insert, remove, from_sorted}
use Rattle.vr_base.specs.Checks.{result_map}
use Rattle.vr_files.specs.declared.faults.FileFault.{FileFault}
use Rattle.vr_files.specs.declared.faults.FileFault.TheVariants.{TooLarge, OutOfMemory}
use Rattle.vr_files.specs.Bodies.{Becomes}
use Rattle.vr_files.specs.FileMaps.{FileMap, path_cmp}
use Rattle.vr_files.specs.Entries.{AreSorted, IsAt, IsGap, without}
use Rattle.vr_files.specs.Changes.{Change, changed, applied}
use Rattle.vr_files.proofs.EntryLemmas.{put_at, find_at, find_gap}
use Rattle.std.proofs.lemmas.List.{set-get_or}
use Rattle.vr_files.proofs.MapLemmas.{made-put, made-without, put_sorted, get-made}

pub applied-push : (files : FileMap) (changes : List Change) (path : List ℕ) (body : Option (List ℕ)) → applied files (changes ++ (path, body) ∷ []) ≡ changed (applied files changes) path body
applied-push files [] path body = refl
applied-push files (c ∷ changes) path body = applied-push (changed files c.0 c.1) changes path body

-- the entries after one change more
pub made-changed-some : (es : List (List ℕ × List ℕ)) (files : FileMap) (path body : List ℕ) → AreSorted es → from_sorted {R = path_cmp} es ≡ files
    → from_sorted {R = path_cmp} (put path_cmp path body es) ≡ changed files path (Some body)
made-changed-some es files path body s is = made-put path body es s ∙ ap (λ m. insert m path body) is

pub made-changed-none : (es : List (List ℕ × List ℕ)) (files : FileMap) (path : List ℕ) → AreSorted es → from_sorted {R = path_cmp} es ≡ files
    → from_sorted {R = path_cmp} (without path es) ≡ changed files path None
made-changed-none es files path s is = made-without path es s ∙ ap (λ m. remove m path) is

-- what becomes of a part becomes of the whole
pub becomes_mapped : {A B : Type 0} (f : A → B) (a a' : A) (b b' : B) (r : Result (Unit {0}) FileFault) (answer : Result A FileFault)
    → Becomes a a' r answer → b' ≡ f a' → (a' ≡ a → b' ≡ b) → Becomes b b' r (result_map f answer)
becomes_mapped f a a' b b' (Ok done) answer h made same = ap (λ x. result_map f x) h ∙ ap Ok (sym made)
becomes_mapped f a a' b b' (Err (TooLarge size)) answer h made same = (ap (λ x. result_map f x) h.0, same h.1)
becomes_mapped f a a' b b' (Err OutOfMemory) answer h made same = (tt, same h.1)

-- a body in the place of another
pub set_sorted : {V : Type 0} (es : List (List ℕ × V)) (path : List ℕ) (i : ℕ) (e : List ℕ × V) (v : V) → AreSorted es → IsAt path es i → e ≡ get_or es i e → AreSorted (set es i (e.0, v))
set_sorted es path i e v s at is = subst AreSorted (put_at path v es i e at ∙ ap (λ x. set es i (x.0, v)) (sym is)) (put_sorted path v es s)

pub made-set : (es : List (List ℕ × List ℕ)) (path : List ℕ) (i : ℕ) (e : List ℕ × List ℕ) (body : List ℕ) → AreSorted es → IsAt path es i → e ≡ get_or es i e
    → from_sorted {R = path_cmp} (set es i (e.0, body)) ≡ insert (from_sorted es) path body
made-set es path i e body s at is = ap (λ x. from_sorted (set es i (x.0, body))) is ∙ ap (λ x. from_sorted x) (sym (put_at path body es i e at)) ∙ made-put path body es s

-- the same body again
pub set_same : {V : Type 0} (es : List (List ℕ × V)) (i : ℕ) (e : List ℕ × V) (v : V) → e ≡ get_or es i e → v ≡ e.1 → set es i (e.0, v) ≡ es
set_same es i e v is same = ap (λ x. set es i (e.0, x)) same ∙ ap (λ x. set es i (x.0, x.1)) is ∙ set-get_or es i e

pub found_there : (es : List (List ℕ × List ℕ)) (path : List ℕ) (i : ℕ) (e : List ℕ × List ℕ) → AreSorted es → IsAt path es i → e ≡ get_or es i e
    → unwrap_or (get (from_sorted {R = path_cmp} es) path) [] ≡ e.1
found_there es path i e s at is = ap (λ o. unwrap_or o []) (get-made es path s ∙ find_at path es i e at) ∙ sym (ap (λ x. x.1) is)

pub none_there : (es : List (List ℕ × List ℕ)) (path : List ℕ) (i : ℕ) → AreSorted es → IsGap path es i → unwrap_or (get (from_sorted {R = path_cmp} es) path) [] ≡ []
none_there es path i s gap = ap (λ o. unwrap_or o []) (get-made es path s ∙ find_gap path es i gap)
