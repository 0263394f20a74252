-- A total of files by a test of paths is decided by the files at the paths that pass.
use Rattle.std.proofs.Common.{◌≡◌, ℕ, Bool, true, false, cond, List, [], ◌∷◌, Option, None, Some, refl, sym, ap, ◌∙◌, arith}
use Rattle.std.specs.Prelude.{bytes_eq, sum_by}
use Rattle.std.specs.Cmp.Lexicographic.{bytes_decides}
use Rattle.std.specs.FinMap.{entries, entries_sorted, find, get, get-entries}
use Rattle.std.specs.FinMap.Entries.{find-where_key, is_sorted-where_key, same_entries, where_key}
use Rattle.std.specs.Option.{option_map_or}
use Rattle.std.proofs.lemmas.List.Sums.{sum_by-cons}
use Rattle.vr_files.proofs.EntryLemmas.{one_path, paths_total}
use Rattle.vr_files.specs.FileMaps.{FileMap, path_cmp}
use Rattle.vr_policy_check.specs.Rules.{CheckedData}
use Rattle.vr_core.specs.Quotas.{is_in, region, size_where, total_of, total_where}

module _ (test : List ℕ → Bool) where
  abbrev sizes : List (List ℕ × List ℕ) → ℕ
  sizes es = sum_by (size_where test) es

  -- the entries that pass are all that counts
  counted : (es : List (List ℕ × List ℕ)) → sizes (where_key path_cmp test es) ≡ sizes es
  counted [] = refl
  counted (e ∷ es) = by_test (test e.0) refl (counted es)
    where
      by_test : (b : Bool) → test e.0 ≡ b → sizes (where_key path_cmp test es) ≡ sizes es → sizes (cond b (e ∷ where_key path_cmp test es) (where_key path_cmp test es)) ≡ sizes (e ∷ es)
      by_test true t rest =
          let one = sum_by-cons (size_where test) e (where_key path_cmp test es) in
          let other = sum_by-cons (size_where test) e es in
          omega (arith, one, other, rest)
      by_test false t rest =
          let none : size_where test e ≡ 0 = rw t refl in
          let other = sum_by-cons (size_where test) e es in
          omega (arith, none, other, rest)

  passing : (files : FileMap) (path : List ℕ) → find path_cmp path (where_key path_cmp test (entries files)) ≡ cond (test path) (get files path) None
  passing files path =
      find-where_key path_cmp test path (λ other t. ap test (sym (one_path path other t))) (entries files)
      ∙ ap (λ found. cond (test path) found None) (sym (get-entries files path))

  module _ (files others : FileMap) (same : (path : List ℕ) → test path ≡ true → get others path ≡ get files path) where
    same_passing : (path : List ℕ) (b : Bool) → test path ≡ b → cond b (get others path) None ≡ cond b (get files path) None
    same_passing path true t = same path t
    same_passing path false t = refl

    same_total : total_where test others ≡ total_where test files
    same_total =
        let passed : where_key path_cmp test (entries others) ≡ where_key path_cmp test (entries files) =
        same_entries path_cmp paths_total one_path (where_key path_cmp test (entries others)) (where_key path_cmp test (entries files))
        (is_sorted-where_key path_cmp test (entries others) (entries_sorted others)) (is_sorted-where_key path_cmp test (entries files) (entries_sorted files)) (λ path.
        passing others path ∙ same_passing path (test path) refl ∙ sym (passing files path)) in
        sym (counted (entries others)) ∙ ap sizes passed ∙ counted (entries files)

module _ (policy : CheckedData) (name : List ℕ) where
  of_region : (path : List ℕ) (found : Option (List ℕ)) → option_map_or (bytes_eq name) found false ≡ true → found ≡ Some name
  of_region path None h = cc
  of_region path (Some other) h = ap Some (sym ((bytes_decides name other).0 h))

  -- the total of a region is decided by the files of the region
  pub same_total_of : (files others : FileMap) → ((path : List ℕ) → region policy path ≡ Some name → get others path ≡ get files path)
      → total_of policy others name ≡ total_of policy files name
  same_total_of files others same = same_total (is_in policy name) files others (λ path t. same path (of_region path (region policy path) t))
