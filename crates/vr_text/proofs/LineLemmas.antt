-- Parts between signs, of which there is one at least, and lines.
use Rattle.std.proofs.Common.{◌≡◌, ℕ, Bool, true, false, cond, eqb, List, [], ◌∷◌, refl}
use Rattle.std.specs.List.{onto_first}
use Rattle.std.specs.Str.Lines.{lines, strip_carriage_return}
use Rattle.vr_base.specs.Cuts.{parts_at}
use Rattle.vr_base.specs.Signs.{line_feed}

-- a first part and the others
abbrev pub HasFirst : List (List ℕ) → Type 0
HasFirst parts = (first : List ℕ) × (others : List (List ℕ)) × (parts ≡ first ∷ others)

first_onto : (x : ℕ) (parts : List (List ℕ)) → HasFirst (onto_first x parts)
first_onto x [] = (x ∷ [], [], refl)
first_onto x (part ∷ parts) = (x ∷ part, parts, refl)

first_of_two : (b : Bool) (xs ys : List (List ℕ)) → HasFirst xs → HasFirst ys → HasFirst (cond b xs ys)
first_of_two true xs ys h k = h
first_of_two false xs ys h k = k

pub parts_first : (sign : ℕ) (bytes : List ℕ) → HasFirst (parts_at sign bytes)
parts_first sign [] = ([], [], refl)
parts_first sign (b ∷ bs) = first_of_two (eqb b sign) _ _ ([], _, refl) (first_onto b _)

-- the line before an LF, and those after it
pub lines_cut : (text line rest : List ℕ) → parts_at line_feed text ≡ line ∷ parts_at line_feed rest
    → lines text ≡ strip_carriage_return line ∷ lines rest
lines_cut text line rest e = let first = parts_first line_feed rest in rw e (rw first.2 refl)
