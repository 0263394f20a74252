-- A path is no directory, and is a grant's name too.
use Rattle.std.proofs.Common.{◌≡◌, ℕ, ◌-◌, Bool, true, false, cond, eqb, List, [], ◌∷◌, ◌++◌, length, drop, take, Option, None, Some, IsSome, Ok, refl, sym, ◌∙◌, ap, codes, subst, take-append-drop}
use Rattle.std.specs.Option.{option_or}
use Rattle.std.specs.List.{onto_first}
use Rattle.std.specs.Cmp.Lexicographic.{bytes_decides}
use Rattle.vr_base.specs.Checks.{unless_fault}
use Rattle.vr_base.specs.Cuts.{parts_at}
use Rattle.vr_base.specs.Names.{IsPath, grant_of, normal_form, names_directory, segments, grant_segments, segment_fault, first_segment_fault, name_fault, length_fault, byte_fault}
use Rattle.vr_base.specs.Signs.{slash}
use Rattle.vr_base.specs.declared.names.PathFault.{PathFault}
use Rattle.vr_base.proofs.FaultLemmas.{answered, neither}

some_or : {A : Type 0} (first rest : Option A) → IsSome rest → IsSome (option_or first rest)
some_or None rest h = h
some_or (Some x) rest h = refl

some_of_drop : (parts : List (List ℕ)) → IsSome (first_segment_fault (drop 1 parts)) → IsSome (first_segment_fault parts)
some_of_drop [] h = h
some_of_drop (part ∷ parts) h = some_or (segment_fault part) (first_segment_fault parts) h

onto_first_keeps : (x : ℕ) (parts : List (List ℕ)) → IsSome (first_segment_fault (drop 1 parts)) → IsSome (first_segment_fault (drop 1 (onto_first x parts)))
onto_first_keeps x [] h = h
onto_first_keeps x (part ∷ parts) h = h

-- after a last slash is an empty segment
last_is_empty : (name : List ℕ) → IsSome (first_segment_fault (drop 1 (parts_at slash (name ++ slash ∷ []))))
last_is_empty [] = refl
last_is_empty (x ∷ xs) = by_test (eqb x slash) (last_is_empty xs)
  where
    by_test : (t : Bool) → IsSome (first_segment_fault (drop 1 (parts_at slash (xs ++ slash ∷ []))))
        → IsSome (first_segment_fault (drop 1 (cond t ([] ∷ parts_at slash (xs ++ slash ∷ [])) (onto_first x (parts_at slash (xs ++ slash ∷ []))))))
    by_test true h = some_of_drop (parts_at slash (xs ++ slash ∷ [])) h
    by_test false h = onto_first_keeps x (parts_at slash (xs ++ slash ∷ [])) h

-- a name that ends in a slash has a segment at fault
slash_at_end : (name : List ℕ) → IsSome (first_segment_fault (segments (name ++ slash ∷ [])))
slash_at_end [] = refl
slash_at_end (x ∷ xs) = some_of_drop (parts_at slash (xs ++ slash ∷ [])) (last_is_empty xs)

ending : (name : List ℕ) → names_directory name ≡ true → name ≡ take (length name - 1) name ++ slash ∷ []
ending name t =
    let last = (bytes_decides (codes "/") (drop (length name - 1) name)).0 t in
    sym (take-append-drop (length name - 1) name) ∙ ap (λ rest. take (length name - 1) name ++ rest) (sym last)

pub path_no_directory : (path : List ℕ) → IsPath path → names_directory path ≡ false
path_no_directory path h = by_test (names_directory path) refl
  where
    fine : (name_fault path (segments (normal_form path)) ≡ None) × (normal_form path ≡ path)
    fine = answered (name_fault path (segments (normal_form path))) (normal_form path) path h

    no_segment : first_segment_fault (segments path) ≡ None
    no_segment = rw fine.1 at (neither (byte_fault path) (first_segment_fault (segments (normal_form path))) (neither (length_fault (normal_form path)) _ fine.0).1).1

    never : names_directory path ≡ true → ⊥
    never t =
        let some : IsSome (first_segment_fault (segments path)) = subst (λ p. IsSome (first_segment_fault (segments p))) (sym (ending path t)) (slash_at_end (take (length path - 1) path)) in
        let none : IsSome {T = PathFault} None = subst IsSome no_segment some in
        cc

    by_test : (t : Bool) → names_directory path ≡ t → names_directory path ≡ false
    by_test true e = absurd (never e)
    by_test false e = e

no_directory_segments : (form : List ℕ) → names_directory form ≡ false → grant_segments form ≡ segments form
no_directory_segments form e = rw e refl

-- the name of a grant on a path alone
pub path_grant : (path : List ℕ) → IsPath path → grant_of path ≡ Ok path
path_grant path h =
    let form : normal_form path ≡ path = (answered (name_fault path (segments (normal_form path))) (normal_form path) path h).1 in
    let same = no_directory_segments (normal_form path) (rw form (path_no_directory path h)) in
    ap (λ parts. unless_fault (name_fault path parts) (normal_form path)) same ∙ h
