-- The router's walk answers by the rule.
use Rattle.std.proofs.Common.{◌≡◌, ℕ, zero, suc, ◌-◌, ◌==◌, Bool, true, false, cond, ◌||◌, List, [], ◌∷◌, ◌++◌, length, codes, Option, None, Some, refl, ap, ◌∙◌, arith}
use Rattle.std.proofs.lemmas.Bool.Decides.{nat_tests}
use Rattle.std.specs.Option.{option_map, option_and_then, option_or}
use Rattle.matchit.specs.Rows.{Rows, RowsOf, prepend, param_token, catch_all_token}
use Rattle.matchit.specs.Seek as walk
use Rattle.matchit.specs.Seek.{seek, or_else, first, param_step}
use Rattle.matchit.specs.Level.{IsText}
use Rattle.matchit.specs.Router.{RouteOf, rename, map_key}
use Rattle.matchit.proofs.RenameLemmas.{first-rename}
use Rattle.matchit.proofs.SeekLemmas.{seek-empty, param_step-empty}
use Rattle.vr_face.specs.Resources.{Resource, PipelineNamed, after, file_of, pipeline_of, hash_of, kind_of, has_slash}
use Rattle.vr_face.specs.Table.{number_of, table}
use Rattle.vr_face.proofs.WalkLemmas.{first-apart, first-word, all_part, walk-byte, text-of}

-- a row that ends here takes an empty rest alone
end-more : (key b : ℕ) (rest : List ℕ) → first (([], key) ∷ []) (b ∷ rest) ≡ None
end-more key b rest = walk-byte (([], key) ∷ []) b rest refl refl ∙ seek-empty 0 rest

first-end : (rest : List ℕ) → first (([], 2) ∷ []) rest ≡ option_map number_of (hash_of rest)
unfolding seek
first-end [] = refl
first-end (b ∷ rest) = end-more 2 b rest

-- a catch-all takes any rest of at least one byte
first-catch : (rest : List ℕ) → first ((catch_all_token ∷ [], 0) ∷ []) rest ≡ option_map number_of (file_of rest)
unfolding seek
first-catch [] = refl
first-catch (b ∷ rest) =
    simp (param_step-empty (b ∷ rest), seek-empty ((param_step {K = ℕ} [] (b ∷ rest)).0 - 1) rest) (by (catch_all_token == b) rest)
  where
    by : (v : Bool) (rest : List ℕ) → or_else {K = ℕ} (seek 0 (cond v (([], 0) ∷ []) []) rest) (Some 0) ≡ Some 0
    by true [] = refl
    by true (c ∷ rest) = rw (end-more 0 c rest) refl
    by false rest = rw (seek-empty 0 rest) refl

-- how far a parameter with nothing behind it goes in a rest that has a slash or not, and the rows then
abbrev param_taken : Bool → List ℕ → ℕ × Rows
param_taken slash rest = cond slash (0, []) (suc (length rest), ([], 1) ∷ [])

skip-all : (n : ℕ) (rest : List ℕ) → n ≡ length rest → seek {K = ℕ} n (([], 1) ∷ []) rest ≡ Some 1
unfolding seek
skip-all zero [] e = refl
skip-all (suc n) (b ∷ rest) e = skip-all n rest (omega arith)
skip-all zero (b ∷ rest) e = absurd (omega arith)
skip-all (suc n) [] e = refl

same-slash : (rest : List ℕ) → walk.has_slash rest ≡ has_slash rest
same-slash [] = refl
same-slash (b ∷ rest) = by (b == 47) (same-slash rest)
  where
    by : (v : Bool) → walk.has_slash rest ≡ has_slash rest → cond v true (walk.has_slash rest) ≡ (v || has_slash rest)
    by true e = refl
    by false e = e

-- what a parameter alone does of a rest whose first byte may be its token, and which may have a slash
param-rest : (v s : Bool) (b : ℕ) (rest : List ℕ) → (param_token == b) ≡ v → has_slash (b ∷ rest) ≡ s
    → or_else (seek {K = ℕ} 0 (cond v (([], 1) ∷ []) []) rest) (or_else (seek ((param_taken s rest).0 - 1) (param_taken s rest).1 rest) None)
    ≡ cond s None (Some 1)
unfolding seek
param-rest false true b rest e h = simp (seek-empty 0 rest)
param-rest false false b rest e h = rw (seek-empty 0 rest, skip-all (suc (length rest) - 1) rest (omega arith)) refl
param-rest true false b [] e h = refl
param-rest true true b [] e h = grind (arith, nat_tests)
param-rest true true b (c ∷ rest) e h = rw (end-more 1 c rest) refl
param-rest true false b (c ∷ rest) e h = rw (end-more 1 c rest, skip-all (suc (length (c ∷ rest)) - 1) (c ∷ rest) (omega arith)) refl

-- a parameter takes a rest of at least one byte and no slash
first-param : (rest : List ℕ) → first ((param_token ∷ [], 1) ∷ []) rest ≡ option_map number_of (pipeline_of rest)
unfolding seek param_step
first-param [] = refl
first-param (b ∷ rest) = rw (same-slash (b ∷ rest)) (param-rest (param_token == b) (has_slash (b ∷ rest)) b rest refl refl ∙ by (has_slash (b ∷ rest)))
  where
    by : (s : Bool) → cond s None (Some 1) ≡ option_map number_of (cond s None (Some (PipelineNamed (b ∷ rest))))
    by true = refl
    by false = refl

join : (x y : Option Resource) → or_else (option_map number_of x) (option_map number_of y) ≡ option_map number_of (option_or x y)
join None y = refl
join (Some a) y = refl

module _ (u v w : List ℕ) (a b c : Rows) (f g h : List ℕ → Option Resource) where
  -- three words that part from one another, and what the rows under each answer
  three : IsText u → IsText v → IsText w
      → all_part u (prepend v b ++ prepend w c) ≡ true → all_part v (prepend w c) ≡ true
      → ((rest : List ℕ) → first a rest ≡ option_map number_of (f rest))
      → ((rest : List ℕ) → first b rest ≡ option_map number_of (g rest))
      → ((rest : List ℕ) → first c rest ≡ option_map number_of (h rest))
      → (path : List ℕ) → first (prepend u a ++ (prepend v b ++ prepend w c)) path
      ≡ option_map number_of (option_or (option_and_then f (after u path)) (option_or (option_and_then g (after v path)) (option_and_then h (after w path))))
  three tu tv tw pu pv ea eb ec path =
      first-apart u a (prepend v b ++ prepend w c) path tu pu
      ∙ rw (first-word u a f tu ea path, first-apart v b (prepend w c) path tv pv, first-word v b g tv eb path, first-word w c h tw ec path, join)
      (join (option_and_then f (after u path)) (option_or (option_and_then g (after v path)) (option_and_then h (after w path))))

-- the walk answers the number of the rule's target
pub first-kind : (path : List ℕ) → first table path ≡ option_map number_of (kind_of path)
first-kind path =
    three (codes "/files/") (codes "/pipelines/") (codes "/policy/hash")
    ((catch_all_token ∷ [], 0) ∷ []) ((param_token ∷ [], 1) ∷ []) (([], 2) ∷ [])
    file_of pipeline_of hash_of
    (text-of (codes "/files/") refl) (text-of (codes "/pipelines/") refl) (text-of (codes "/policy/hash") refl)
    refl refl first-catch first-param first-end path

-- the same of a router whose rows hold those numbers
module _ (router : RowsOf (RouteOf ℕ)) (path : List ℕ) (same : rename (λ route. route.value) router ≡ table) where
  numbered : first table path ≡ map_key (λ route. route.value) (first router path)
  numbered = rw (← same) (first-rename (λ route. route.value) router path)

  pub no-number : first router path ≡ None → first table path ≡ None
  no-number e = numbered ∙ ap (map_key (λ route. route.value)) e

  pub number : (route : RouteOf ℕ) → first router path ≡ Some route → (n : ℕ) → route.value ≡ n → first table path ≡ Some n
  number route e n v = numbered ∙ ap (map_key (λ route. route.value)) e ∙ ap Some v
