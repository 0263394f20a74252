-- The walk over rows of which each begins with a word that tells it from the others.
use Rattle.std.proofs.Common.{◌≡◌, ◌≢◌, ℕ, ◌<◌, ◌≤◌, ◌-◌, ◌==◌, Bool, true, false, cond, ◌&&◌, List, [], ◌∷◌, ◌++◌, Option, refl, ◌∙◌, arith, append-nil, ltb}
use Rattle.std.proofs.lemmas.Bool.Decides.{nat_tests}
use Rattle.std.specs.Option.{option_map, option_and_then}
use Rattle.matchit.specs.Rows.{Rows, prepend, param_token, catch_all_token}
use Rattle.matchit.specs.Seek.{seek, step, or_else, first, param_step}
use Rattle.matchit.specs.Level.{IsText}
use Rattle.matchit.proofs.SeekLemmas.{prepend-nil, own-append, own-prepend, step-append, step-hit, step-miss, seek-lit, seek-empty, or_else-none, param_step-empty}
use Rattle.vr_face.specs.Resources.{Resource, after}
use Rattle.vr_face.specs.Table.{number_of}

-- the pattern parts from the word at a byte
abbrev pub parts : List ℕ → List ℕ → Bool
parts [] pattern = false
parts (x ∷ word) [] = false
parts (x ∷ word) (y ∷ pattern) = ltb y 256 && cond (y == x) (parts word pattern) true

abbrev pub all_part : List ℕ → Rows → Bool
all_part word [] = true
all_part word ((pattern, key) ∷ rest) = parts word pattern && all_part word rest

both : (a b : Bool) → (a && b) ≡ true → (a ≡ true) × (b ≡ true)
both true b e = (refl, e)
both false b e = (cc, cc)

-- what the test says of a first row that goes on
head-parts : (x y key : ℕ) (word pattern : List ℕ) (rest : Rows) → all_part (x ∷ word) ((y ∷ pattern, key) ∷ rest) ≡ true
    → (y < 256) × (cond (y == x) (parts word pattern) true ≡ true) × (all_part (x ∷ word) rest ≡ true)
head-parts x y key word pattern rest h =
    let split = both (parts (x ∷ word) (y ∷ pattern)) (all_part (x ∷ word) rest) h in
    let here = both (ltb y 256) (cond (y == x) (parts word pattern) true) split.0 in
    let test : ltb y 256 ≡ true = here.0 in
    (grind (arith, nat_tests), here.1, split.1)

-- no such row begins with a parameter
pub step-wild : (b x : ℕ) (word : List ℕ) (rows : Rows) → 256 ≤ b → all_part (x ∷ word) rows ≡ true → step b rows ≡ []
step-wild b x word [] l h = refl
step-wild b x word (([], key) ∷ rest) l h = cc
step-wild b x word ((y ∷ pattern, key) ∷ rest) l h =
    let parted = head-parts x y key word pattern rest h in
    let byte : y < 256 = parted.0 in
    let e : (y == b) ≡ false = grind (arith, nat_tests) in
    rw e (step-wild b x word rest l parted.2)

-- behind the word's first byte the rows still part from the rest of it
pub part-step : (x : ℕ) (word : List ℕ) (rows : Rows) → all_part (x ∷ word) rows ≡ true → all_part word (step x rows) ≡ true
part-step x word [] h = refl
part-step x word (([], key) ∷ rest) h = cc
part-step x word ((y ∷ pattern, key) ∷ rest) h =
    let parted = head-parts x y key word pattern rest h in
    by (y == x) parted.1 (part-step x word rest parted.2)
  where
    by : (v : Bool) → cond v (parts word pattern) true ≡ true → all_part word (step x rest) ≡ true
        → all_part word (cond v ((pattern, key) ∷ step x rest) (step x rest)) ≡ true
    by true e ih = rw e ih
    by false e ih = ih

-- where no row begins with a parameter, the walk takes the byte
pub walk-byte : (rows : Rows) (b : ℕ) (path : List ℕ) → step param_token rows ≡ [] → step catch_all_token rows ≡ [] → seek 0 rows (b ∷ path) ≡ seek 0 (step b rows) path
unfolding seek
walk-byte rows b path e f =
    simp (e, f, param_step-empty (b ∷ path), seek-empty ((param_step {K = ℕ} [] (b ∷ path)).0 - 1) path, or_else-none)

-- rows under a word, and rows that part from it, do not disturb one another
pub first-apart : (word : List ℕ) (tails rows : Rows) (path : List ℕ) → IsText word → all_part word rows ≡ true
    → first (prepend word tails ++ rows) path ≡ or_else (first (prepend word tails) path) (first rows path)
unfolding seek
first-apart [] tails [] path t h = simp (append-nil, seek-empty 0 path, or_else-none)
first-apart [] tails ((pattern, key) ∷ rest) path t h = cc
first-apart (x ∷ word) tails rows [] t h = own-append (prepend (x ∷ word) tails) rows
first-apart (x ∷ word) tails rows (b ∷ path) t h =
    let byte : x < 256 = t.0 in
    let n1 : x ≢ param_token = λ e. omega arith in
    let n2 : x ≢ catch_all_token = λ e. omega arith in
    let p = step-wild param_token x word rows (omega arith) h in
    let c = step-wild catch_all_token x word rows (omega arith) h in
    let all = prepend (x ∷ word) tails ++ rows in
    let ep : step param_token all ≡ [] = simp (step-append, step-miss param_token x word tails n1, p) in
    let ec : step catch_all_token all ≡ [] = simp (step-append, step-miss catch_all_token x word tails n2, c) in
    walk-byte all b path ep ec
    ∙ rw (seek-lit x word tails b path byte, walk-byte rows b path p c, step-append b (prepend (x ∷ word) tails) rows)
    (by (x == b) refl (first-apart word tails (step x rows) path t.1 (part-step x word rows h)))
  where
    by : (v : Bool) → (x == b) ≡ v
        → first (prepend word tails ++ step x rows) path ≡ or_else (first (prepend word tails) path) (first (step x rows) path)
        → seek 0 (step b (prepend (x ∷ word) tails) ++ step b rows) path ≡ or_else (seek 0 (step b (prepend (x ∷ word) tails)) path) (seek 0 (step b rows) path)
    by true e ih =
        let same : x ≡ b = grind (arith, nat_tests) in
        rw (← same, step-hit x word tails) ih
    by false e ih =
        let n : x ≢ b = λ q. grind (arith, nat_tests) in
        rw (step-miss b x word tails n, seek-empty 0 path) refl

-- the rows under a word answer what they answer behind it
pub first-word : (word : List ℕ) (tails : Rows) (kind : List ℕ → Option Resource) → IsText word
    → ((rest : List ℕ) → first tails rest ≡ option_map number_of (kind rest))
    → (path : List ℕ) → first (prepend word tails) path ≡ option_map number_of (option_and_then kind (after word path))
unfolding seek
first-word [] tails kind t e path = rw (prepend-nil tails) (e path)
first-word (x ∷ word) tails kind t e [] = own-prepend x word tails
first-word (x ∷ word) tails kind t e (b ∷ path) =
    seek-lit x word tails b path t.0 ∙ by (x == b) refl (first-word word tails kind t.1 e path)
  where
    by : (v : Bool) → (x == b) ≡ v → first (prepend word tails) path ≡ option_map number_of (option_and_then kind (after word path))
        → seek 0 (step b (prepend (x ∷ word) tails)) path ≡ option_map number_of (option_and_then kind (after (x ∷ word) (b ∷ path)))
    by true q ih =
        let same : x ≡ b = grind (arith, nat_tests) in
        rw (q, ← same, step-hit x word tails) ih
    by false q ih =
        let n : x ≢ b = λ r. grind (arith, nat_tests) in
        rw (q, step-miss b x word tails n) (seek-empty 0 path)

-- each of these is a byte
abbrev pub all_text : List ℕ → Bool
all_text [] = true
all_text (x ∷ word) = ltb x 256 && all_text word

pub text-of : (word : List ℕ) → all_text word ≡ true → IsText word
text-of [] h = tt
text-of (x ∷ word) h =
    let split = both (ltb x 256) (all_text word) h in
    let test : ltb x 256 ≡ true = split.0 in
    (grind (arith, nat_tests), text-of word split.1)
