-- What two writes append one after the other.
use Rattle.std.proofs.Common.{ℕ, ◌+◌, ◌≤◌, List, [], ◌++◌, take, length, Option, None, Some, sym, ap, ◌∙◌, append_assoc, length-append, arith}
use Rattle.std.proofs.Math.Seq.{take-append_seam, take-append-add}
use Rattle.std.proofs.lemmas.List.{append-nil, take-append-le}
use Rattle.vr_base.specs.Outside.{AppendsPrefix}
use Rattle.std.specs.Io.KnownBytes.{Appends}

pub Appends-then : (a b c : Option (List ℕ)) (xs ys : List ℕ) → Appends a b xs → Appends b c ys → Appends a c (xs ++ ys)
Appends-then None b c xs ys h k = tt
Appends-then (Some x) None c xs ys h k = absurd h
Appends-then (Some x) (Some y) None xs ys h k = absurd k
Appends-then (Some x) (Some y) (Some z) xs ys h k = k ∙ ap (λ w. w ++ ys) h ∙ append_assoc x xs ys

Appends-none : (o : Option (List ℕ)) → Appends o o []
Appends-none None = tt
Appends-none (Some x) = sym (append-nil x)

-- nothing is a prefix of all bytes
pub AppendsPrefix-none : (o : Option (List ℕ)) (xs : List ℕ) → AppendsPrefix o o xs
AppendsPrefix-none o xs = (0, omega arith, Appends-none o)

-- all that was written is a prefix, whatever was to follow
pub AppendsPrefix-all : (a b : Option (List ℕ)) (xs ys : List ℕ) → Appends a b xs → AppendsPrefix a b (xs ++ ys)
AppendsPrefix-all a b xs ys h = (length xs, omega (arith, length-append xs ys), rw take-append_seam h)

-- a prefix is one also where more was to follow
pub AppendsPrefix-more : (a b : Option (List ℕ)) (xs ys : List ℕ) → AppendsPrefix a b xs → AppendsPrefix a b (xs ++ ys)
AppendsPrefix-more a b xs ys h = let within : h.0 ≤ length xs = h.1 in (h.0, omega (arith, length-append xs ys), rw take-append-le h.2)

-- what was written, and a prefix of what follows
pub AppendsPrefix-then : (a b c : Option (List ℕ)) (xs ys : List ℕ) → Appends a b xs → AppendsPrefix b c ys → AppendsPrefix a c (xs ++ ys)
AppendsPrefix-then a b c xs ys h k =
    (length xs + k.0, omega (arith, length-append xs ys), rw take-append-add (Appends-then a b c xs (take k.0 ys) h k.2))
