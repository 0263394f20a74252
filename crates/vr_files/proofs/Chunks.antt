-- Lists that are made of chunks of one size.
use Rattle.std.proofs.Common.{◌≡◌, ℕ, zero, suc, ◌+◌, ◌*◌, ◌<◌, List, [], ◌∷◌, ◌++◌, length, take, drop, get_or, refl, sym, ap, ◌∙◌, arith, length-append}
use Rattle.std.proofs.Math.Nat.{mul-suc, mul-zero, add_comm}
use Rattle.std.proofs.Math.Seq.{take-append-add, drop-append-add}
use Rattle.std.specs.List.{flat_map, AllByRecursion}

-- what holds of each element of two lists holds of each of both together
pub all_joined : {X : Type 0} (P : X → Type 0) (xs ys : List X) → AllByRecursion P xs → AllByRecursion P ys → AllByRecursion P (xs ++ ys)
all_joined P [] ys a b = b
all_joined P (x ∷ xs) ys a b = (a.0, all_joined P xs ys a.1 b)

pub all_taken : {X : Type 0} (P : X → Type 0) (k : ℕ) (xs : List X) → AllByRecursion P xs → AllByRecursion P (take k xs)
all_taken P zero xs a = tt
all_taken P (suc k) [] a = tt
all_taken P (suc k) (x ∷ xs) a = (a.0, all_taken P k xs a.1)

pub all_dropped : {X : Type 0} (P : X → Type 0) (k : ℕ) (xs : List X) → AllByRecursion P xs → AllByRecursion P (drop k xs)
all_dropped P zero xs a = a
all_dropped P (suc k) [] a = tt
all_dropped P (suc k) (x ∷ xs) a = all_dropped P k xs a.1

pub at_index : {X : Type 0} (P : X → Type 0) (k : ℕ) (xs : List X) (d : X) → k < length xs → AllByRecursion P xs → P (get_or xs k d)
at_index P k [] d h a = absurd (omega arith)
at_index P zero (x ∷ xs) d h a = a.0
at_index P (suc k) (x ∷ xs) d h a = at_index P k xs d (omega arith) a.1

take_past : {A : Type 0} (a b : List A) (n k : ℕ) → length a ≡ n → take (n + k) (a ++ b) ≡ a ++ take k b
take_past a b n k h = ap (λ m. take (m + k) (a ++ b)) (sym h) ∙ take-append-add a b k

drop_past : {A : Type 0} (a b : List A) (n k : ℕ) → length a ≡ n → drop (n + k) (a ++ b) ≡ drop k b
drop_past a b n k h = ap (λ m. drop (m + k) (a ++ b)) (sym h) ∙ drop-append-add a b k

pub take-none : {A : Type 0} (m : ℕ) → take {A = A} m [] ≡ []
take-none zero = refl
take-none (suc m) = refl

pub drop-none : {A : Type 0} (m : ℕ) → drop {A = A} m [] ≡ []
drop-none zero = refl
drop-none (suc m) = refl

-- one chunk more
pub times_next : (n k : ℕ) → n * suc k ≡ n + n * k
times_next n k = mul-suc n k ∙ add_comm (n * k) n

module _ {X A : Type 0} (f : X → List A) (n : ℕ) where
  abbrev pub AreSized : List X → Type 0
  AreSized xs = AllByRecursion (λ x. length (f x) ≡ n) xs

  pub length-chunks : (xs : List X) → AreSized xs → length (flat_map f xs) ≡ n * length xs
  length-chunks [] a = sym (mul-zero n)
  length-chunks (x ∷ xs) a = length-append (f x) (flat_map f xs) ∙ ap (λ m. m + length (flat_map f xs)) a.0 ∙ ap (λ m. n + m) (length-chunks xs a.1) ∙ sym (times_next n (length xs))

  pub take-chunks : (k : ℕ) (xs : List X) → AreSized xs → take (n * k) (flat_map f xs) ≡ flat_map f (take k xs)
  take-chunks zero xs a = ap (λ m. take m (flat_map f xs)) (mul-zero n)
  take-chunks (suc k) [] a = take-none (n * suc k)
  take-chunks (suc k) (x ∷ xs) a = ap (λ m. take m (f x ++ flat_map f xs)) (times_next n k) ∙ take_past (f x) (flat_map f xs) n (n * k) a.0 ∙ ap (λ ys. f x ++ ys) (take-chunks k xs a.1)

  pub drop-chunks : (k : ℕ) (xs : List X) → AreSized xs → drop (n * k) (flat_map f xs) ≡ flat_map f (drop k xs)
  drop-chunks zero xs a = ap (λ m. drop m (flat_map f xs)) (mul-zero n)
  drop-chunks (suc k) [] a = drop-none (n * suc k)
  drop-chunks (suc k) (x ∷ xs) a = ap (λ m. drop m (f x ++ flat_map f xs)) (times_next n k) ∙ drop_past (f x) (flat_map f xs) n (n * k) a.0 ∙ drop-chunks k xs a.1
