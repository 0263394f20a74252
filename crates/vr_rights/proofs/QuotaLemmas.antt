-- The least of the quotas on each name, as they are gone through.
use Rattle.std.proofs.Common.{◌≡◌, ◌≢◌, ℕ, ◌<◌, min, Bool, true, false, cond, List, [], ◌∷◌, ◌++◌, length, length-set, map, filter, replicate, set, bytes_eq, Option, None, Some, refl, sym, ◌∙◌, ap, ◌⊎◌, inl, inr, get_or, get_or-set_same, get_or-set_other, append-nil, subst}
use Rattle.std.specs.Cmp.Lexicographic.{bytes_decides}
use Rattle.std.proofs.lemmas.Bool.{cases_eq}
use Rattle.std.proofs.lemmas.List.{same_lists, get_or-map, map-append, length-map}
use Rattle.std.proofs.lemmas.List.Elements.{filter-append}
use Rattle.std.proofs.lemmas.List.Sums.{fold-append}
use Rattle.vr_policy_read.specs.declared.entries.Quota.{Quota}
use Rattle.vr_rights.specs.Kept.{least_with}
use Rattle.vr_rights.specs.Ordered.{IsOrdered}
use Rattle.vr_rights.specs.Quotas.{least_of, quota_of}
use Rattle.vr_rights.proofs.ChainLemmas.{same_place}

least_of_push : (ns : List ℕ) (n : ℕ) → least_of (ns ++ n ∷ []) ≡ Some (least_with (least_of ns) n)
least_of_push [] n = refl
least_of_push (m ∷ ms) n = ap Some (fold-append min m ms (n ∷ []))

-- one more quota counts for its own name
quota_more : (name : List ℕ) (taken : List Quota) (quota : Quota) (t : Bool) → bytes_eq quota.name name ≡ t
    → quota_of name (taken ++ quota ∷ []) ≡ cond t (Some (least_with (quota_of name taken) quota.bytes)) (quota_of name taken)
quota_more name taken quota true e =
    ap (λ qs. least_of (map (λ (q : Quota). q.bytes) qs)) (filter-append (λ (q : Quota). bytes_eq q.name name) taken (quota ∷ []) ∙ ap (λ b. filter (λ (q : Quota). bytes_eq q.name name) taken ++ cond b (quota ∷ []) []) e)
    ∙ ap least_of (map-append (λ (q : Quota). q.bytes) (filter (λ (q : Quota). bytes_eq q.name name) taken) (quota ∷ []))
    ∙ least_of_push (map (λ (q : Quota). q.bytes) (filter (λ (q : Quota). bytes_eq q.name name) taken)) quota.bytes
quota_more name taken quota false e =
    ap (λ qs. least_of (map (λ (q : Quota). q.bytes) qs)) (filter-append (λ (q : Quota). bytes_eq q.name name) taken (quota ∷ []) ∙ ap (λ b. filter (λ (q : Quota). bytes_eq q.name name) taken ++ cond b (quota ∷ []) []) e ∙ append-nil (filter (λ (q : Quota). bytes_eq q.name name) taken))

-- no quota yet
pub quotas_none : (names : List (List ℕ)) → replicate (length names) None ≡ map (λ name. quota_of name []) names
quotas_none [] = refl
quotas_none (n ∷ ns) = ap (λ qs. None ∷ qs) (quotas_none ns)

apart_test : (a b : List ℕ) → (a ≡ b → ⊥) → bytes_eq a b ≡ false
apart_test a b h = by_test (bytes_eq a b) refl
  where
    by_test : (t : Bool) → bytes_eq a b ≡ t → bytes_eq a b ≡ false
    by_test true e = absurd (h ((bytes_decides a b).0 e))
    by_test false e = e

pub quota_step : (names : List (List ℕ)) (taken : List Quota) (quota : Quota) (place : ℕ) → IsOrdered names → place < length names → get_or names place [] ≡ quota.name
    → set (map (λ name. quota_of name taken) names) place (Some (least_with (get_or (map (λ name. quota_of name taken) names) place None) quota.bytes)) ≡ map (λ name. quota_of name (taken ++ quota ∷ [])) names
quota_step names taken quota place ordered there name = same_lists _ _ (length-set before place least ∙ length-map names (λ n. quota_of n taken) ∙ sym (length-map names (λ n. quota_of n (taken ++ quota ∷ []))))
    (λ k d l. by_cases k d (rw (length-set, length-map) at l) (cases_eq k place))
  where
    before : List (Option ℕ)
    before = map (λ n. quota_of n taken) names

    least : Option ℕ
    least = Some (least_with (get_or (map (λ n. quota_of n taken) names) place None) quota.bytes)

    by_cases : (k : ℕ) (d : Option ℕ) → k < length names → (k ≡ place) ⊎ (k ≢ place) → get_or (set before place least) k d ≡ get_or (map (λ n. quota_of n (taken ++ quota ∷ [])) names) k d
    by_cases k d l (inl same) =
        let in_before : place < length before = rw length-map there in
        let here : quota_of (get_or names place []) (taken ++ quota ∷ []) ≡ Some (least_with (quota_of (get_or names place []) taken) quota.bytes) =
        quota_more (get_or names place []) taken quota true ((bytes_decides quota.name (get_or names place [])).1 (sym name)) in
        let read : get_or (map (λ n. quota_of n taken) names) place None ≡ quota_of (get_or names place []) taken = get_or-map (λ n. quota_of n taken) names place [] None there in
        subst (λ i. get_or (set before place least) i d ≡ get_or (map (λ n. quota_of n (taken ++ quota ∷ [])) names) i d) (sym same)
        (get_or-set_same before place least d in_before ∙ ap (λ o. Some (least_with o quota.bytes)) read ∙ sym here ∙ sym (get_or-map (λ n. quota_of n (taken ++ quota ∷ [])) names place [] d there))
    by_cases k d l (inr apart) =
        let other : bytes_eq quota.name (get_or names k []) ≡ false = apart_test quota.name (get_or names k []) (λ e. apart (same_place names k place ordered l there (sym e ∙ sym name))) in
        get_or-set_other before place k least d apart ∙ get_or-map (λ n. quota_of n taken) names k [] d l ∙ sym (quota_more (get_or names k []) taken quota false other) ∙ sym (get_or-map (λ n. quota_of n (taken ++ quota ∷ [])) names k [] d l)
