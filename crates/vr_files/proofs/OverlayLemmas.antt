-- Files with sorted changes over them.
use Rattle.std.proofs.Common.{◌≡◌, ℕ, Bool, true, false, cond, List, [], ◌∷◌, get_or, set, Option, Some, None, Result, refl, sym, ap, subst, ◌∙◌}
use Rattle.std.specs.Prelude.{unwrap_or, is_some, IsSome}
use Rattle.vr_base.specs.Checks.{result_map}
use Rattle.vr_files.specs.declared.faults.FileFault.{FileFault}
use Rattle.vr_files.specs.Bodies.{Becomes, sized}
use Rattle.std.specs.Ordering.{is_eq, eq_by_cmp}
use Rattle.std.specs.declared.cmp.Ordering.TheVariants.{Less, Equal, Greater}
use Rattle.std.specs.declared.cmp.Ordering.{Ordering}
use Rattle.std.specs.FinMap.{find, put, get, insert, get-insert, get-remove, same_map}
use Rattle.std.specs.FinMap.Entries.{find-put}
use Rattle.vr_files.specs.FileMaps.{FileMap, path_cmp}
use Rattle.vr_files.specs.Entries.{AreSorted, AreAbove, IsAt, IsGap}
use Rattle.vr_files.specs.Changes.{Change, changed, applied, body_of, Layers, with_file}
use Rattle.vr_files.specs.Overlays.{OwnsBody}
use Rattle.vr_files.proofs.EntryLemmas.{paths_total, one_path, rest_sorted, above_first, find_above, put_at, find_at, find_gap}
use Rattle.vr_files.proofs.MapLemmas.{put_sorted}
use Rattle.vr_files.proofs.ChangeLemmas.{set_same, becomes_mapped}

equal : (o : Ordering) → is_eq o ≡ true → o ≡ Equal
equal Less h = cc
equal Equal h = refl
equal Greater h = cc

-- the path at which two tie is one
pub one : (q k : List ℕ) → eq_by_cmp path_cmp q k ≡ true → q ≡ k
one q k h = one_path q k (equal _ h)

get-changed : (files : FileMap) (k : List ℕ) (body : Option (List ℕ)) (q : List ℕ) → get (changed files k body) q ≡ cond (eq_by_cmp path_cmp q k) body (get files q)
get-changed files k None q = get-remove paths_total files k q
get-changed files k (Some body) q = get-insert paths_total files k body q

-- what a path has after sorted changes
pub get-applied : (base : FileMap) (es : List Change) (q : List ℕ) → AreSorted es → get (applied base es) q ≡ body_of base es q
get-applied base [] q s = refl
get-applied base (e ∷ es) q s =
    get-applied (changed base e.0 e.1) es q (rest_sorted e es s) ∙ ap (λ d. unwrap_or (find path_cmp q es) d) (get-changed base e.0 e.1 q)
    ∙ elim (eq_by_cmp path_cmp q e.0) as (λ t. eq_by_cmp path_cmp q e.0 ≡ t → unwrap_or (find path_cmp q es) (cond t e.1 (get base q)) ≡ unwrap_or (cond t (Some e.1) (find path_cmp q es)) (get base q)) [
      | true ↦ λ t. ap (λ o. unwrap_or o e.1) (find_above q es (subst (λ k. AreAbove k es) (sym (one q e.0 t)) (above_first e es s)))
      | false ↦ λ t. refl
    ] refl

chosen : (t : Bool) (v d : Option (List ℕ)) (o : Option (Option (List ℕ))) → unwrap_or (cond t (Some v) o) d ≡ cond t v (unwrap_or o d)
chosen true v d o = refl
chosen false v d o = refl

-- one change more
pub applied-put : (base : FileMap) (es : List Change) (k : List ℕ) (v : Option (List ℕ)) → AreSorted es → applied base (put path_cmp k v es) ≡ changed (applied base es) k v
applied-put base es k v s = same_map paths_total one_path _ _ (λ q.
    get-applied base (put path_cmp k v es) q (put_sorted k v es s) ∙ ap (λ o. unwrap_or o (get base q)) (find-put path_cmp paths_total q k v es)
    ∙ chosen (eq_by_cmp path_cmp q k) v (get base q) (find path_cmp q es)
    ∙ ap (λ d. cond (eq_by_cmp path_cmp q k) v d) (sym (get-applied base es q s)) ∙ sym (get-changed (applied base es) k v q))

-- what a path has, once more
pub changed-same : (files : FileMap) (k : List ℕ) (body : Option (List ℕ)) → body ≡ get files k → changed files k body ≡ files
changed-same files k body is = same_map paths_total one_path _ _ (λ q.
    get-changed files k body q
    ∙ elim (eq_by_cmp path_cmp q k) as (λ t. eq_by_cmp path_cmp q k ≡ t → cond t body (get files q) ≡ get files q) [
      | true ↦ λ t. is ∙ ap (λ x. get files x) (sym (one q k t))
      | false ↦ λ t. refl
    ] refl)

-- the path's body is among the changes already
pub owns_found : (base : FileMap) (es : List Change) (path : List ℕ) (place : ℕ) → AreSorted es → IsAt path es place → OwnsBody base es es path place
owns_found base es path place s at = record {
  sorted = s;
  found = at;
  body = λ d. sym (ap (λ o. unwrap_or o (get base path)) (find_at path es place d at));
  same = refl;
}

-- the base's body comes among the changes
pub owns_added : (base : FileMap) (es new : List Change) (path : List ℕ) (body : Option (List ℕ)) (place : ℕ) → AreSorted es → IsGap path es place → body ≡ get base path
    → new ≡ put path_cmp path body es → IsAt path new place → ((d : Change) → (get_or new place d).1 ≡ body) → OwnsBody base es new path place
owns_added base es new path body place s gap is made at there =
    let before : body_of base es path ≡ get base path = ap (λ o. unwrap_or o (get base path)) (find_gap path es place gap) in
    record {
      sorted = subst AreSorted (sym made) (put_sorted path body es s);
      found = at;
      body = λ d. there d ∙ is ∙ sym before;
      same = ap (applied base) made ∙ applied-put base es path body s ∙ changed-same (applied base es) path body (is ∙ sym before ∙ sym (get-applied base es path s));
    }

-- a body in the place of another
pub applied-set : (base : FileMap) (es : List Change) (path : List ℕ) (place : ℕ) (e : Change) (body : Option (List ℕ)) → AreSorted es → IsAt path es place → e ≡ get_or es place e
    → applied base (set es place (e.0, body)) ≡ changed (applied base es) path body
applied-set base es path place e body s at is =
    ap (λ x. applied base (set es place (x.0, body))) is ∙ ap (λ x. applied base x) (sym (put_at path body es place e at)) ∙ applied-put base es path body s

-- a body that is owned was edited
pub edited : (base : FileMap) (es new : List Change) (path : List ℕ) (place : ℕ) (e : Change) (b b' : List ℕ) (layers : Layers) (edit : List ℕ → List ℕ) (r : Result (Unit {0}) FileFault)
    → AreSorted es → (let l : Layers = record { base = base; files = applied base es } in l ≡ layers) → OwnsBody base es new path place → e ≡ get_or new place e → e.1 ≡ Some b
    → Becomes b b' r (sized (edit b))
    → Becomes layers (record { base = base; files = applied base (set new place (e.0, Some b')) }) r (result_map (with_file layers path) (sized (edit (unwrap_or (get layers.files path) []))))
edited base es new path place e b b' layers edit r s view own is body h =
    let first : Layers = record { base = base; files = applied base es } in
    let last : Layers = record { base = base; files = applied base (set new place (e.0, Some b')) } in
    let with_files : FileMap → Layers = λ m. record { base = base; files = m } in
    let have : unwrap_or (get (applied base es) path) [] ≡ b =
    ap (λ o. unwrap_or o []) (get-applied base es path s ∙ sym (own.body e) ∙ sym (ap (λ x. x.1) is) ∙ body) in
    let made : last ≡ with_file first path b' =
    ap with_files (applied-set base new path place e (Some b') own.sorted own.found is ∙ ap (λ m. insert m path b') own.same) in
    let kept : b' ≡ b → last ≡ first = λ same. ap with_files (ap (applied base) (set_same new place e (Some b') is (ap Some same ∙ sym body)) ∙ own.same) in
    subst (λ (l : Layers). Becomes l last r (result_map (with_file l path) (sized (edit (unwrap_or (get l.files path) []))))) view
    (subst (λ x. Becomes first last r (result_map (with_file first path) (sized (edit x)))) (sym have)
    (becomes_mapped (with_file first path) b b' first last r (sized (edit b)) h made kept))

pub owned_there : (base : FileMap) (es : List Change) (path : List ℕ) (layers : Layers) → AreSorted es → (let l : Layers = record { base = base; files = applied base es } in l ≡ layers)
    → IsSome (get layers.files path) → IsSome (body_of base es path)
owned_there base es path layers s view there = ap is_some (sym (get-applied base es path s) ∙ ap (λ (l : Layers). get l.files path) view) ∙ there

-- the owned body of a path that is there isn't none
pub never_none : (base : FileMap) (es new : List Change) (path : List ℕ) (place : ℕ) (e : Change) → IsSome (body_of base es path) → OwnsBody base es new path place → e ≡ get_or new place e → e.1 ≡ None → ⊥
never_none base es new path place e there own is none =
    let h : body_of base es path ≡ None = sym (own.body e) ∙ sym (ap (λ x. x.1) is) ∙ none in
    let f : is_some (body_of base es path) ≡ false = ap is_some h in cc
