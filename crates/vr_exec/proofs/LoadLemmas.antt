-- The programs of paths, as they are loaded one by one.
use Rattle.std.proofs.Common.{◌≡◌, ℕ, suc, ◌+◌, ◌<◌, Bool, true, false, not, Bor, List, [], ◌∷◌, ◌++◌, length, take, drop, get_or, Option, Some, None, All, Contains, sym, ap, ◌∙◌, subst}
use Rattle.std.specs.Prelude.{bytes_eq, find, is_some, IsSome}
use Rattle.std.specs.Option.{option_copied}
use Rattle.std.specs.Cmp.Lexicographic.{bytes_decides}
use Rattle.std.proofs.Math.Seq.{drop-cons}
use Rattle.std.proofs.lemmas.List.{take-append-drop, take_more}
use Rattle.std.proofs.lemmas.List.Elements.{All-nil, All-cons, All-head, All-append, All-contains, Contains-append_left, Contains-push}
use Rattle.vr_base.specs.declared.calls.Why.{Why}
use Rattle.vr_files.specs.FileMaps.{FileMap}
use Rattle.vr_pipe.specs.declared.trees.Tree.{Tree}
use Rattle.vr_pipe.specs.declared.trees.Tree.TheVariants.{Program, If, Feed, Then}
use Rattle.vr_pipe.specs.Trees.{pipe_tree, programs_of}
use Rattle.vr_pipe.proofs.TreeLemmas.{pipeline_program, pipeline_test, pipeline_choice, pipeline_feed, pipeline_then}
use Rattle.vr_rights.proofs.ZipLemmas.{All-left, All-right}
use Rattle.vr_exec.specs.declared.loading.Loaded.{Loaded}
use Rattle.vr_exec.specs.declared.loading.NotLoaded.{NotLoaded}
use Rattle.vr_exec.specs.declared.loading.NotLoaded.TheVariants.{Bad, OutOfMemory}
use Rattle.vr_exec.specs.Loaded.{IsAmong, IsLoaded, AreLoaded, IfBad, executable}
use Rattle.vr_exec.specs.Outcomes.{HasSomeProgram, HavePrograms, IsFirstBad}
use Rattle.vr_exec.specs.Programs.{HasProgram, HasNoProgram}
use Rattle.vr_exec.proofs.ListLemmas.{find_has, find_some}

module _ (pages : ℕ) (files : FileMap) where
  -- ---- one after the other

  pub none_loaded : AreLoaded pages files [] []
  none_loaded = record { are_programs = All-nil (IsLoaded pages files); all = All-nil (IsAmong []) }

  among_more : (programs : List Loaded) (more : Loaded) (path : List ℕ) → IsAmong programs path → IsAmong (programs ++ more ∷ []) path
  among_more programs more path (loaded, there, is) = (loaded, Contains-append_left programs (more ∷ []) loaded there, is)

  -- one more program
  pub loaded_more : (paths : List (List ℕ)) (programs : List Loaded) (path : List ℕ) (loaded : Loaded) → AreLoaded pages files paths programs → IsLoaded pages files loaded → loaded.path ≡ path
      → AreLoaded pages files (paths ++ path ∷ []) (programs ++ loaded ∷ [])
  loaded_more paths programs path loaded h is same = record {
    are_programs = All-append (IsLoaded pages files) programs (loaded ∷ []) h.are_programs (All-cons (IsLoaded pages files) loaded [] is (All-nil (IsLoaded pages files)));
    all = All-append (IsAmong (programs ++ loaded ∷ [])) paths (path ∷ []) (λ k d l. among_more programs loaded (get_or paths k d) (h.all k d l))
        (All-cons (IsAmong (programs ++ loaded ∷ [])) path [] (loaded, Contains-push programs loaded, same) (All-nil (IsAmong (programs ++ loaded ∷ []))));
  }

  -- what is found among the programs is one, and has the path
  pub found_loaded : (programs : List Loaded) (path : List ℕ) (found : Loaded) → All (IsLoaded pages files) programs → find (λ (l : Loaded). bytes_eq l.path path) programs ≡ Some found
      → IsLoaded pages files found × Contains programs found × (found.path ≡ path)
  found_loaded programs path found are h =
      let has = find_has (λ (l : Loaded). bytes_eq l.path path) programs found h in
      (All-contains (IsLoaded pages files) programs found are has.0, has.0, (bytes_decides found.path path).0 has.1)

  -- a path once more
  pub loaded_again : (paths : List (List ℕ)) (programs : List Loaded) (path : List ℕ) (found : Loaded) → AreLoaded pages files paths programs → find (λ (l : Loaded). bytes_eq l.path path) programs ≡ Some found
      → AreLoaded pages files (paths ++ path ∷ []) programs
  loaded_again paths programs path found h f =
      let is = found_loaded programs path found h.are_programs f in
      record {
        are_programs = h.are_programs;
        all = All-append (IsAmong programs) paths (path ∷ []) h.all (All-cons (IsAmong programs) path [] (found, is.1, is.2) (All-nil (IsAmong programs)));
      }

  -- ---- what is loaded

  pub have_programs : (paths : List (List ℕ)) (programs : List Loaded) → AreLoaded pages files paths programs → HavePrograms pages files paths
  have_programs paths programs h = λ k d l. by_path (get_or paths k d) (h.all k d l)
    where
      by_path : (path : List ℕ) → IsAmong programs path → HasSomeProgram pages files path
      by_path path (loaded, there, is) =
          let program = All-contains (IsLoaded pages files) programs loaded h.are_programs there in
          (executable loaded.tree program.opening, subst (λ p. HasProgram pages files p (executable loaded.tree program.opening)) is program.has)

  -- the first that is bad comes after those that are loaded
  pub first_bad : (paths : List (List ℕ)) (programs : List Loaded) (k : ℕ) (path : List ℕ) (why : Why) → k < length paths → path ≡ get_or paths k path
      → AreLoaded pages files (take k paths) programs → HasNoProgram pages files path why → IsFirstBad pages files paths path why
  first_bad paths programs k path why within is h bad = record {
    before = take k paths;
    after = drop (suc k) paths;
    place = sym (take-append-drop k paths) ∙ ap (λ ps. take k paths ++ ps) (drop-cons paths k path within ∙ ap (λ p. p ∷ drop (suc k) paths) (sym is));
    fine = have_programs (take k paths) programs h;
    bad = bad;
  }

  -- a path that is loaded is found
  pub path_found : (programs : List Loaded) (path : List ℕ) → AreLoaded pages files (path ∷ []) programs → IsSome (find (λ (l : Loaded). bytes_eq l.path path) programs)
  path_found programs path h = by_path (All-head (IsAmong programs) path [] h.all)
    where
      by_path : IsAmong programs path → IsSome (find (λ (l : Loaded). bytes_eq l.path path) programs)
      by_path (loaded, there, is) = find_some (λ (l : Loaded). bytes_eq l.path path) programs loaded there ((bytes_decides loaded.path path).1 is)

  -- ---- parts of the paths

  pub loaded_left : (paths others : List (List ℕ)) (programs : List Loaded) → AreLoaded pages files (paths ++ others) programs → AreLoaded pages files paths programs
  loaded_left paths others programs h = record { are_programs = h.are_programs; all = All-left (IsAmong programs) paths others h.all }

  pub loaded_right : (paths others : List (List ℕ)) (programs : List Loaded) → AreLoaded pages files (paths ++ others) programs → AreLoaded pages files others programs
  loaded_right paths others programs h = record { are_programs = h.are_programs; all = All-right (IsAmong programs) paths others h.all }

  -- ---- a step of the loop

  one_more : (paths : List (List ℕ)) (k : ℕ) (path : List ℕ) → k < length paths → path ≡ get_or paths k path → take (k + 1) paths ≡ take k paths ++ path ∷ []
  one_more paths k path within is = take_more paths k path within ∙ ap (λ p. take k paths ++ p ∷ []) (sym is)

  pub grown : (paths : List (List ℕ)) (k : ℕ) (path : List ℕ) (old new : List Loaded) (loaded : Loaded) → k < length paths → path ≡ get_or paths k path → AreLoaded pages files (take k paths) old
      → IsLoaded pages files loaded → loaded.path ≡ path → new ≡ old ++ loaded ∷ [] → AreLoaded pages files (take (k + 1) paths) new
  grown paths k path old new loaded within is h l same n =
      subst (λ ps. AreLoaded pages files ps new) (sym (one_more paths k path within is))
      (subst (λ (xs : List Loaded). AreLoaded pages files (take k paths ++ path ∷ []) xs) (sym n) (loaded_more (take k paths) old path loaded h l same))

  pub kept_same : (paths : List (List ℕ)) (k : ℕ) (path : List ℕ) (old among : List Loaded) (r : Option (Bor Loaded)) (b : Bool) → k < length paths → path ≡ get_or paths k path
      → AreLoaded pages files (take k paths) old → among ≡ old → option_copied r ≡ find (λ (l : Loaded). bytes_eq l.path path) among → is_some r ≡ not b → b ≡ false
      → AreLoaded pages files (take (k + 1) paths) old
  kept_same paths k path old among None b within is h same found asked answer = let clash : false ≡ true = asked ∙ ap not answer in cc
  kept_same paths k path old among (Some x) b within is h same found asked answer =
      subst (λ ps. AreLoaded pages files ps old) (sym (one_more paths k path within is))
      (loaded_again (take k paths) old path x.now h (sym (found ∙ ap (λ (ls : List Loaded). find (λ (l : Loaded). bytes_eq l.path path) ls) same)))

  -- ---- what is told of a file that is bad

  pub bad_told : (paths : List (List ℕ)) (programs : List Loaded) (k : ℕ) (path : List ℕ) (e : NotLoaded) → k < length paths → path ≡ get_or paths k path
      → AreLoaded pages files (take k paths) programs → IfBad e (λ at why. (at ≡ path) × HasNoProgram pages files path why) → IfBad e (IsFirstBad pages files paths)
  bad_told paths programs k path (Bad at why) within is h bad = subst (λ p. IsFirstBad pages files paths p why) (sym bad.0) (first_bad paths programs k path why within is h bad.1)
  bad_told paths programs k path OutOfMemory within is h bad = tt

  -- ---- parts of trees

  taken_of : (programs : List Loaded) (path : List ℕ) (taken : Tree) (other : Option Tree) → AreLoaded pages files (programs_of (pipe_tree (If path taken other))) programs
      → AreLoaded pages files (programs_of (pipe_tree taken)) programs
  taken_of programs path taken None h = subst (λ p. AreLoaded pages files (programs_of p) programs) (pipeline_test path taken) h
  taken_of programs path taken (Some other) h =
      loaded_left (programs_of (pipe_tree taken)) (programs_of (pipe_tree other)) programs (subst (λ p. AreLoaded pages files (programs_of p) programs) (pipeline_choice path taken other) h)

  as_part : (programs : List Loaded) (tree whole : Tree) → tree ≡ whole → AreLoaded pages files (programs_of (pipe_tree tree)) programs → AreLoaded pages files (programs_of (pipe_tree whole)) programs
  as_part programs tree whole is h = subst (λ (t : Tree). AreLoaded pages files (programs_of (pipe_tree t)) programs) is h

  pub taken_loaded : (programs : List Loaded) (tree : Tree) (path : List ℕ) (taken : Tree) (other : Option Tree) (part : Tree) → tree ≡ If path taken other → part ≡ taken
      → AreLoaded pages files (programs_of (pipe_tree tree)) programs → AreLoaded pages files (programs_of (pipe_tree part)) programs
  taken_loaded programs tree path taken other part is same h = as_part programs taken part (sym same) (taken_of programs path taken other (as_part programs tree (If path taken other) is h))

  pub other_loaded : (programs : List Loaded) (tree : Tree) (path : List ℕ) (taken other : Tree) (part : Tree) → tree ≡ If path taken (Some other) → part ≡ other
      → AreLoaded pages files (programs_of (pipe_tree tree)) programs → AreLoaded pages files (programs_of (pipe_tree part)) programs
  other_loaded programs tree path taken other part is same h =
      as_part programs other part (sym same) (loaded_right (programs_of (pipe_tree taken)) (programs_of (pipe_tree other)) programs
      (subst (λ p. AreLoaded pages files (programs_of p) programs) (pipeline_choice path taken other) (as_part programs tree (If path taken (Some other)) is h)))

  fed : (programs : List Loaded) (tree first second : Tree) → tree ≡ Feed first second → AreLoaded pages files (programs_of (pipe_tree tree)) programs
      → AreLoaded pages files (programs_of (pipe_tree first) ++ programs_of (pipe_tree second)) programs
  fed programs tree first second is h = subst (λ p. AreLoaded pages files (programs_of p) programs) (pipeline_feed first second) (as_part programs tree (Feed first second) is h)

  followed : (programs : List Loaded) (tree first second : Tree) → tree ≡ Then first second → AreLoaded pages files (programs_of (pipe_tree tree)) programs
      → AreLoaded pages files (programs_of (pipe_tree first) ++ programs_of (pipe_tree second)) programs
  followed programs tree first second is h = subst (λ p. AreLoaded pages files (programs_of p) programs) (pipeline_then first second) (as_part programs tree (Then first second) is h)

  pub first_fed : (programs : List Loaded) (tree first second part : Tree) → tree ≡ Feed first second → part ≡ first
      → AreLoaded pages files (programs_of (pipe_tree tree)) programs → AreLoaded pages files (programs_of (pipe_tree part)) programs
  first_fed programs tree first second part is same h =
      as_part programs first part (sym same) (loaded_left (programs_of (pipe_tree first)) (programs_of (pipe_tree second)) programs (fed programs tree first second is h))

  pub second_fed : (programs : List Loaded) (tree first second part : Tree) → tree ≡ Feed first second → part ≡ second
      → AreLoaded pages files (programs_of (pipe_tree tree)) programs → AreLoaded pages files (programs_of (pipe_tree part)) programs
  second_fed programs tree first second part is same h =
      as_part programs second part (sym same) (loaded_right (programs_of (pipe_tree first)) (programs_of (pipe_tree second)) programs (fed programs tree first second is h))

  pub first_followed : (programs : List Loaded) (tree first second part : Tree) → tree ≡ Then first second → part ≡ first
      → AreLoaded pages files (programs_of (pipe_tree tree)) programs → AreLoaded pages files (programs_of (pipe_tree part)) programs
  first_followed programs tree first second part is same h =
      as_part programs first part (sym same) (loaded_left (programs_of (pipe_tree first)) (programs_of (pipe_tree second)) programs (followed programs tree first second is h))

  pub second_followed : (programs : List Loaded) (tree first second part : Tree) → tree ≡ Then first second → part ≡ second
      → AreLoaded pages files (programs_of (pipe_tree tree)) programs → AreLoaded pages files (programs_of (pipe_tree part)) programs
  second_followed programs tree first second part is same h =
      as_part programs second part (sym same) (loaded_right (programs_of (pipe_tree first)) (programs_of (pipe_tree second)) programs (followed programs tree first second is h))

-- the programs of a run are loaded over the same files
pub loaded_over : (pages : ℕ) (files others : FileMap) (paths : List (List ℕ)) (programs : List Loaded) → others ≡ files → AreLoaded pages files paths programs → AreLoaded pages others paths programs
loaded_over pages files others paths programs same h = subst (λ (f : FileMap). AreLoaded pages f paths programs) (sym same) h

-- the program of a single path
pub program_loaded : (pages : ℕ) (files : FileMap) (programs : List Loaded) (tree : Tree) (path : List ℕ) → tree ≡ Program path
    → AreLoaded pages files (programs_of (pipe_tree tree)) programs → AreLoaded pages files (path ∷ []) programs
program_loaded pages files programs tree path is h =
    subst (λ p. AreLoaded pages files (programs_of p) programs) (ap pipe_tree is ∙ pipeline_program path) h
