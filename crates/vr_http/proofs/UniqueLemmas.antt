-- A stream begins with one answer, and is cut in one way.
use Rattle.std.proofs.Common.{◌≡◌, ℕ, ◌+◌, List, [], ◌∷◌, refl, sym, ap, subst, ◌∙◌, inl, inr}
use Rattle.std.specs.Prelude.{◌⊎◌, Option, Some, None, MatchOption, Result, Ok, Err}
use Rattle.httparse.specs.Grammar.{RequestHead}
use Rattle.httparse.proofs.GrammarLemmas.{request_unique}
use Rattle.vr_http.specs.Heads.{CutHead, first_head}
use Rattle.vr_http.specs.Requests.{CutRequest, FirstAnswer, First, FirstBy, IsNoHead, IsHead, request_after, StreamEnd, end_by, Ends, Cuts, last_by}
use Rattle.vr_http.specs.declared.faults.HttpFault.{HttpFault}
use Rattle.vr_http.specs.declared.requests.Request.{Request}

-- a head text gives one answer
one_by_text : (text rest : List ℕ) (a b : FirstAnswer) → IsNoHead text a ⊎ IsHead text rest a → IsNoHead text b ⊎ IsHead text rest b → a ≡ b
one_by_text text rest a b (inl x) (inl y) = x.refused ∙ sym y.refused
one_by_text text rest a b (inl x) (inr y) = absurd (x.none y.head y.over y.reads)
one_by_text text rest a b (inr x) (inl y) = absurd (y.none x.head x.over x.reads)
one_by_text text rest a b (inr x) (inr y) =
    let same = request_unique text x.head y.head x.over y.over x.reads y.reads in
    x.answered ∙ ap (λ (h : RequestHead). request_after h rest) same.0 ∙ sym y.answered

one_by_head : (head : Result (Option CutHead) HttpFault) (a b : FirstAnswer) → FirstBy head a → FirstBy head b → a ≡ b
one_by_head (Ok (Some found)) a b x y = one_by_text found.text found.rest a b x y
one_by_head (Ok None) a b x y = x ∙ sym y
one_by_head (Err refused) a b x y = x ∙ sym y

-- A stream begins with one answer.
pub First-unique : (bytes : List ℕ) (a b : FirstAnswer) → First bytes a → First bytes b → a ≡ b
First-unique bytes a b x y = one_by_head (first_head 16384 64 bytes) a b x y

no_request : (bytes : List ℕ) (end : StreamEnd) (next : CutRequest) → Ends bytes end → First bytes (Ok (Some next)) → ⊥
no_request bytes end next (inl ends) first = differ (First-unique bytes (Ok None) (Ok (Some next)) ends.0 first)
  where
    differ : (λ (x : FirstAnswer). x) (Ok None) ≡ Ok (Some next) → ⊥
    differ e = cc
no_request bytes end next (inr ends) first = differ (First-unique bytes (Err ends.0) (Ok (Some next)) ends.1 first)
  where
    differ : (λ (x : FirstAnswer). x) (Err ends.0) ≡ Ok (Some next) → ⊥
    differ e = cc

one_end : (bytes : List ℕ) (a b : StreamEnd) → Ends bytes a → Ends bytes b → a ≡ b
one_end bytes a b (inl x) (inl y) = x.1 ∙ sym y.1
one_end bytes a b (inl x) (inr y) = absurd (differ (First-unique bytes (Ok None) (Err y.0) x.0 y.1))
  where
    differ : (λ (x : FirstAnswer). x) (Ok None) ≡ Err y.0 → ⊥
    differ e = cc
one_end bytes a b (inr x) (inl y) = absurd (differ (First-unique bytes (Err x.0) (Ok None) x.1 y.0))
  where
    differ : (λ (x : FirstAnswer). x) (Err x.0) ≡ Ok None → ⊥
    differ e = cc
one_end bytes a b (inr x) (inr y) = x.2 ∙ ap end_by (same (First-unique bytes (Err x.0) (Err y.0) x.1 y.1)) ∙ sym y.2
  where
    same : (λ (x : FirstAnswer). x) (Err x.0) ≡ Err y.0 → x.0 ≡ y.0
    same e = cc

-- what comes after a request is cut in one way, where the rest is
abbrev IsSame : List Request → List Request → StreamEnd → StreamEnd → Type 0
IsSame xs ys a b = (xs ≡ ys) × (a ≡ b)

one_way : (last : Option StreamEnd) (taken : ℕ) (rest : List ℕ) (xs ys : List Request) (a b : StreamEnd)
    → MatchOption last (Cuts taken rest xs a) (λ e. (xs ≡ []) × (a ≡ e))
    → MatchOption last (Cuts taken rest ys b) (λ e. (ys ≡ []) × (b ≡ e))
    → (Cuts taken rest xs a → Cuts taken rest ys b → IsSame xs ys a b) → IsSame xs ys a b
one_way None taken rest xs ys a b h k same = same h k
one_way (Some e) taken rest xs ys a b h k same = (h.0 ∙ sym k.0, h.1 ∙ sym k.1)

-- A stream is cut into requests and an end in one way.
pub Cuts-unique : (taken : ℕ) (bytes : List ℕ) (xs ys : List Request) (a b : StreamEnd)
    → Cuts taken bytes xs a → Cuts taken bytes ys b → IsSame xs ys a b
Cuts-unique taken bytes [] [] a b h k = (refl, one_end bytes a b h k)
Cuts-unique taken bytes [] (y ∷ ys) a b h k =
    absurd (no_request bytes a (record { request = y; rest = k.0 }) h k.1)
Cuts-unique taken bytes (x ∷ xs) [] a b h k =
    absurd (no_request bytes b (record { request = x; rest = h.0 }) k h.1)
Cuts-unique taken bytes (x ∷ xs) (y ∷ ys) a b h k =
    let first : CutRequest = record { request = x; rest = h.0 } in
    let other : CutRequest = record { request = y; rest = k.0 } in
    let same : first ≡ other = taken_once first other (First-unique bytes (Ok (Some first)) (Ok (Some other)) h.1 k.1) in
    let one : x ≡ y = ap (λ (cut : CutRequest). cut.request) same in
    let left : h.0 ≡ k.0 = ap (λ (cut : CutRequest). cut.rest) same in
    let after = subst (λ (r : List ℕ). MatchOption (last_by (taken + 1) y) (Cuts (taken + 1) r ys b) (λ e. (ys ≡ []) × (b ≡ e))) (sym left)
    (k.2) in
    let before = subst (λ (r : Request). MatchOption (last_by (taken + 1) r) (Cuts (taken + 1) h.0 xs a) (λ e. (xs ≡ []) × (a ≡ e))) one (h.2) in
    let rest : IsSame xs ys a b = one_way (last_by (taken + 1) y) (taken + 1) h.0 xs ys a b before after (λ u v. Cuts-unique (taken + 1) h.0 xs ys a b u v) in
    (ap (λ (r : Request). r ∷ xs) one ∙ ap (λ rs. y ∷ rs) rest.0, rest.1)
  where
    taken_once : (c d : CutRequest) → (λ (v : FirstAnswer). v) (Ok (Some c)) ≡ Ok (Some d) → c ≡ d
    taken_once c d e = cc
