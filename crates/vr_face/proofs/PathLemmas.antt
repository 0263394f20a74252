-- The rule finds a target exactly where the path is that target's.
use Rattle.std.proofs.Common.{◌≡◌, ℕ, ◌≤◌, ◌==◌, Bool, true, false, cond, List, [], ◌∷◌, ◌++◌, drop, length, codes, Option, None, Some, refl, sym, ◌∙◌, subst, arith, ◌⊎◌, inl, inr, ◌↔◌}
use Rattle.std.proofs.lemmas.Bool.Decides.{nat_tests}
use Rattle.std.specs.Option.{option_map, option_and_then, option_or}
use Rattle.std.proofs.lemmas.Str.{IsUtf8-from_is_utf8}
use Rattle.std.specs.Str.{IsUtf8, is_utf8}
use Rattle.matchit.specs.Seek.{first}
use Rattle.vr_face.specs.Resources.{Resource, FileNamed, PipelineNamed, HashOfPolicy, after, file_of, pipeline_of, hash_of, kind_of, resource_of, has_slash, path_of, IsProper, StandsFor}
use Rattle.vr_face.specs.Table.{number_of, table}
use Rattle.vr_face.proofs.RouterLemmas.{first-kind}

-- a target's own path asks for it
kind-path : (resource : Resource) → IsProper resource → kind_of (path_of resource) ≡ Some resource
kind-path (FileNamed []) h = elim h [ ]
kind-path (FileNamed (b ∷ name)) h = refl
kind-path (PipelineNamed []) h = elim h.0 [ ]
kind-path (PipelineNamed (b ∷ id)) h = rw h.1 refl
kind-path HashOfPolicy h = refl

either : (x y : Option Resource) (resource : Resource) → option_or x y ≡ Some resource → (x ≡ Some resource) ⊎ (y ≡ Some resource)
either None y resource e = inr e
either (Some a) y resource e = inl e

-- where a word's kind gives a target, the path is the word and a rest of that kind
split-after : (word path : List ℕ) (kind : List ℕ → Option Resource) (resource : Resource) → option_and_then kind (after word path) ≡ Some resource
    → (rest : List ℕ) × (path ≡ word ++ rest) × (kind rest ≡ Some resource)
split-after [] path kind resource e = (path, refl, e)
split-after (x ∷ word) [] kind resource e = cc
split-after (x ∷ word) (b ∷ path) kind resource e = by (x == b) refl e (split-after word path kind resource)
  where
    by : (v : Bool) → (x == b) ≡ v → option_and_then kind (cond v (after word path) None) ≡ Some resource
        → (option_and_then kind (after word path) ≡ Some resource → (rest : List ℕ) × (path ≡ word ++ rest) × (kind rest ≡ Some resource))
        → (rest : List ℕ) × (b ∷ path ≡ x ∷ word ++ rest) × (kind rest ≡ Some resource)
    by true q f ih =
        let same : x ≡ b = grind (arith, nat_tests) in
        let r = ih f in
        let front : b ∷ path ≡ x ∷ word ++ r.0 = cc (r.1, same) in
        (r.0, front, r.2)
    by false q f ih = cc

file-stands : (rest : List ℕ) (resource : Resource) → file_of rest ≡ Some resource → StandsFor (codes "/files/" ++ rest) resource
file-stands [] resource e = cc
file-stands (b ∷ name) resource e =
    let same : FileNamed (b ∷ name) ≡ resource = cc in
    subst (StandsFor (codes "/files/" ++ b ∷ name)) same (refl, omega arith)

pipeline-stands : (rest : List ℕ) (resource : Resource) → pipeline_of rest ≡ Some resource → StandsFor (codes "/pipelines/" ++ rest) resource
pipeline-stands [] resource e = cc
pipeline-stands (b ∷ id) resource e = by (has_slash (b ∷ id)) refl e
  where
    by : (v : Bool) → has_slash (b ∷ id) ≡ v → cond v None (Some (PipelineNamed (b ∷ id))) ≡ Some resource → StandsFor (codes "/pipelines/" ++ b ∷ id) resource
    by true q e = cc
    by false q e =
        let same : PipelineNamed (b ∷ id) ≡ resource = cc in
        subst (StandsFor (codes "/pipelines/" ++ b ∷ id)) same (refl, (omega arith, q))

hash-stands : (rest : List ℕ) (resource : Resource) → hash_of rest ≡ Some resource → StandsFor (codes "/policy/hash" ++ rest) resource
hash-stands [] resource e =
    let same : HashOfPolicy ≡ resource = cc in
    subst (StandsFor (codes "/policy/hash")) same (refl, tt)
hash-stands (b ∷ rest) resource e = cc

kind-stands : (path : List ℕ) (resource : Resource) → kind_of path ≡ Some resource → StandsFor path resource
kind-stands path resource e =
    let file = option_and_then file_of (after (codes "/files/") path) in
    let pipeline = option_and_then pipeline_of (after (codes "/pipelines/") path) in
    let hash = option_and_then hash_of (after (codes "/policy/hash") path) in
    elim (either file (option_or pipeline hash) resource e) [
      | inl f ↦ let r = split-after (codes "/files/") path file_of resource f in rw r.1 (file-stands r.0 resource r.2)
      | inr f ↦ elim (either pipeline hash resource f) [
        | inl g ↦ let r = split-after (codes "/pipelines/") path pipeline_of resource g in rw r.1 (pipeline-stands r.0 resource r.2)
        | inr g ↦ let r = split-after (codes "/policy/hash") path hash_of resource g in rw r.1 (hash-stands r.0 resource r.2)
      ]
    ]

-- the rule in the targets' own words
pub rule : (path : List ℕ) (resource : Resource) → (kind_of path ≡ Some resource) ↔ StandsFor path resource
rule path resource = (kind-stands path resource, λ h. rw h.0 (kind-path resource h.1))

-- the walk's number tells the target
target_of_number : (path : List ℕ) (number : ℕ) → first table path ≡ Some number → (resource : Resource) × (kind_of path ≡ Some resource) × (number_of resource ≡ number)
target_of_number path number e = by (kind_of path) refl (sym (first-kind path) ∙ e)
  where
    by : (k : Option Resource) → kind_of path ≡ k → option_map number_of k ≡ Some number → (resource : Resource) × (kind_of path ≡ Some resource) × (number_of resource ≡ number)
    by None q f = cc
    by (Some resource) q f = (resource, q, cc)

pub none-found : (path : List ℕ) → first table path ≡ None → kind_of path ≡ None
none-found path e = by (kind_of path) (sym (first-kind path) ∙ e)
  where
    by : (k : Option Resource) → option_map number_of k ≡ None → k ≡ None
    by None f = refl
    by (Some resource) f = cc

pub file-found : (path : List ℕ) → first table path ≡ Some 0 → (7 ≤ length path) × (kind_of path ≡ Some (FileNamed (drop 7 path)))
file-found path e =
    let n = target_of_number path 0 e in
    by n.0 n.1 ((rule path n.0).0 n.1) n.2
  where
    by : (resource : Resource) → kind_of path ≡ Some resource → StandsFor path resource → number_of resource ≡ 0 → (7 ≤ length path) × (kind_of path ≡ Some (FileNamed (drop 7 path)))
    by (FileNamed name) k a c =
        let is : drop 7 path ≡ name = rw a.0 refl in
        let long : 7 ≤ length path = rw a.0 (omega arith) in
        (long, rw is k)
    by (PipelineNamed id) k a c = absurd (omega arith)
    by HashOfPolicy k a c = absurd (omega arith)

pub pipeline-found : (path : List ℕ) → first table path ≡ Some 1 → (11 ≤ length path) × (kind_of path ≡ Some (PipelineNamed (drop 11 path)))
pipeline-found path e =
    let n = target_of_number path 1 e in
    by n.0 n.1 ((rule path n.0).0 n.1) n.2
  where
    by : (resource : Resource) → kind_of path ≡ Some resource → StandsFor path resource → number_of resource ≡ 1 → (11 ≤ length path) × (kind_of path ≡ Some (PipelineNamed (drop 11 path)))
    by (FileNamed name) k a c = absurd (omega arith)
    by (PipelineNamed id) k a c =
        let is : drop 11 path ≡ id = rw a.0 refl in
        let long : 11 ≤ length path = rw a.0 (omega arith) in
        (long, rw is k)
    by HashOfPolicy k a c = absurd (omega arith)

pub hash-found : (path : List ℕ) (number : ℕ) → first table path ≡ Some number → (number ≡ 0 → ⊥) → (number ≡ 1 → ⊥) → kind_of path ≡ Some HashOfPolicy
hash-found path number e n0 n1 =
    let n = target_of_number path number e in
    by n.0 n.1 n.2
  where
    by : (resource : Resource) → kind_of path ≡ Some resource → number_of resource ≡ number → kind_of path ≡ Some HashOfPolicy
    by (FileNamed name) k c = absurd (n0 (sym c))
    by (PipelineNamed id) k c = absurd (n1 (sym c))
    by HashOfPolicy k c = k

-- bytes that are no text stand for nothing
pub no-text : (target : List ℕ) → (IsUtf8 target → ⊥) → resource_of target ≡ None
no-text target n = by (is_utf8 target) refl
  where
    by : (v : Bool) → is_utf8 target ≡ v → cond v (kind_of target) None ≡ None
    by true e = absurd (n (IsUtf8-from_is_utf8 target e))
    by false e = refl
