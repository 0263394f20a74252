-- Files after one is made, replaced or taken out, and the words that let a program do so.
use Rattle.std.proofs.Common.{◌≡◌, ℕ, Bool, true, false, ◌||◌, ◌&&◌, cond, List, get_or, Some, None, IsTrue, Ordering, refl, ap, subst, sym, ◌∙◌, inl, inr}
use Rattle.std.proofs.lemmas.List.Elements.{All-get_or}
use Rattle.std.proofs.lemmas.Option.{slice_get_cases}
use Rattle.std.specs.FinMap.{get, insert, remove, get-insert, get-remove}
use Rattle.std.specs.Option.{unwrap_or}
use Rattle.std.specs.Ordering.{eq_by_cmp, is_eq}
use Rattle.std.specs.declared.cmp.Ordering.TheVariants.{Less, Equal, Greater}
use Rattle.vr_base.specs.Rights.{has_bit, word_on, fd_write, fd_filestat_set_size, path_create_file, path_filestat_get, path_filestat_set_size, path_open, path_unlink_file}
use Rattle.vr_files.proofs.EntryLemmas.{one_path, paths_total}
use Rattle.vr_files.specs.FileMaps.{FileMap, path_cmp}
use Rattle.vr_wasi_fs.specs.Agreement.{is_modifying, is_observing}
use Rattle.vr_wasi_calls.specs.Worlds.{World, IsAllowed, IsWorld, DescriptorFits, descriptor_at}
use Rattle.vr_wasi_calls.specs.declared.descriptors.Descriptor.TheVariants.{Closed, File}
use Rattle.vr_wasi_calls.specs.declared.descriptors.OpenFile.{OpenFile}

-- ---- files at a path

equal_from : (o : Ordering) → is_eq o ≡ true → o ≡ Equal
equal_from Equal h = refl
equal_from Less h = cc
equal_from Greater h = cc

true_or_false : (b : Bool) {C : Type 0} → (b ≡ true → C) → (b ≡ false → C) → C
true_or_false true yes_it yes_not = yes_it refl
true_or_false false yes_it yes_not = yes_not refl

chosen : {X : Type 0} (b : Bool) (x y : X) → b ≡ false → cond b x y ≡ y
chosen false x y h = refl
chosen true x y h = absurd cc

-- two paths of which one test holds and of the other one doesn't
apart : (test : List ℕ → Bool) (path other : List ℕ) → test path ≡ true → test other ≡ false
    → eq_by_cmp path_cmp other path ≡ false
apart test path other here there =
    true_or_false (eq_by_cmp path_cmp other path)
    (λ tied. let same : other ≡ path = one_path other path (equal_from
    (path_cmp other path) tied) in absurd (let clash : true ≡ false = sym here
    ∙ ap test (sym same) ∙ there in cc))
    (λ differ. differ)

-- making or replacing a file leaves the others
pub insert_leaves : (test : List ℕ → Bool) (files : FileMap) (path body other : List ℕ)
    → test path ≡ true → test other ≡ false → get (insert files path body) other ≡ get files other
insert_leaves test files path body other here there =
    get-insert paths_total files path body other
    ∙ chosen (eq_by_cmp path_cmp other path) (Some body) (get files other)
    (apart test path other here there)

pub remove_leaves : (test : List ℕ → Bool) (files : FileMap) (path other : List ℕ)
    → test path ≡ true → test other ≡ false → get (remove files path) other ≡ get files other
remove_leaves test files path other here there =
    get-remove paths_total files path other
    ∙ chosen (eq_by_cmp path_cmp other path) None (get files other)
    (apart test path other here there)

-- where two maps have the same file at a path they still have it
pub insert_same : (files others : FileMap) (path body other : List ℕ)
    → get others other ≡ get files other
    → get (insert others path body) other ≡ get (insert files path body) other
insert_same files others path body other same =
    get-insert paths_total others path body other
    ∙ ap (cond (eq_by_cmp path_cmp other path) (Some body)) same
    ∙ sym (get-insert paths_total files path body other)

pub remove_same : (files others : FileMap) (path other : List ℕ)
    → get others other ≡ get files other
    → get (remove others path) other ≡ get (remove files path) other
remove_same files others path other same =
    get-remove paths_total others path other ∙ ap (cond (eq_by_cmp path_cmp other path) None) same
    ∙ sym (get-remove paths_total files path other)

-- ---- words

first_of_four : (u o a b c d : Bool) → o ≡ true → a ≡ true → (u || (o && (a || b || c || d))) ≡ true
first_of_four true o a b c d opens is = refl
first_of_four false true true b c d opens is = refl
first_of_four false false a b c d opens is = absurd cc
first_of_four false true false b c d opens is = absurd cc

second_of_four : (u o a b c d : Bool) → o ≡ true → b ≡ true
    → (u || (o && (a || b || c || d))) ≡ true
second_of_four true o a b c d opens is = refl
second_of_four false true true b c d opens is = refl
second_of_four false true false true c d opens is = refl
second_of_four false false a b c d opens is = absurd cc
second_of_four false true false false c d opens is = absurd cc

third_of_four : (u o a b c d : Bool) → o ≡ true → c ≡ true → (u || (o && (a || b || c || d))) ≡ true
third_of_four true o a b c d opens is = refl
third_of_four false true true b c d opens is = refl
third_of_four false true false true c d opens is = refl
third_of_four false true false false true d opens is = refl
third_of_four false false a b c d opens is = absurd cc
third_of_four false true false false false d opens is = absurd cc

last_of_four : (u o a b c d : Bool) → o ≡ true → d ≡ true → (u || (o && (a || b || c || d))) ≡ true
last_of_four true o a b c d opens is = refl
last_of_four false true true b c d opens is = refl
last_of_four false true false true c d opens is = refl
last_of_four false true false false true d opens is = refl
last_of_four false true false false false true opens is = refl
last_of_four false false a b c d opens is = absurd cc
last_of_four false true false false false false opens is = absurd cc

-- what lets a program write, make, cut, size or take out a file lets it change the file
pub may_write : (word : ℕ) → IsTrue (has_bit word path_open) → IsTrue (has_bit word fd_write)
    → IsTrue (is_modifying word)
may_write word opens write = first_of_four (has_bit word path_unlink_file) (has_bit word path_open)
    (has_bit word fd_write) (has_bit word path_create_file) (has_bit word path_filestat_set_size)
    (has_bit word fd_filestat_set_size) opens write

pub may_make : (word : ℕ) → IsTrue (has_bit word path_open) → IsTrue (has_bit word path_create_file)
    → IsTrue (is_modifying word)
may_make word opens make = second_of_four (has_bit word path_unlink_file) (has_bit word path_open)
    (has_bit word fd_write) (has_bit word path_create_file) (has_bit word path_filestat_set_size)
    (has_bit word fd_filestat_set_size) opens make

pub may_cut : (word : ℕ) → IsTrue (has_bit word path_open)
    → IsTrue (has_bit word path_filestat_set_size) → IsTrue (is_modifying word)
may_cut word opens cut = third_of_four (has_bit word path_unlink_file) (has_bit word path_open)
    (has_bit word fd_write) (has_bit word path_create_file) (has_bit word path_filestat_set_size)
    (has_bit word fd_filestat_set_size) opens cut

pub may_size : (word : ℕ) → IsTrue (has_bit word path_open)
    → IsTrue (has_bit word fd_filestat_set_size) → IsTrue (is_modifying word)
may_size word opens size = last_of_four (has_bit word path_unlink_file) (has_bit word path_open)
    (has_bit word fd_write) (has_bit word path_create_file) (has_bit word path_filestat_set_size)
    (has_bit word fd_filestat_set_size) opens size

first_or : (a b : Bool) → a ≡ true → (a || b) ≡ true
first_or true b h = refl
first_or false b h = absurd cc

second_or : (a b : Bool) → b ≡ true → (a || b) ≡ true
second_or true b h = refl
second_or false b h = h

pub may_remove : (word : ℕ) → IsTrue (has_bit word path_unlink_file) → IsTrue (is_modifying word)
may_remove word unlink = first_or (has_bit word path_unlink_file) (has_bit word path_open &&
    (has_bit word fd_write || has_bit word path_create_file || has_bit word path_filestat_set_size
    || has_bit word fd_filestat_set_size)) unlink

-- what lets a program open a file, ask for its facts or take it out lets it learn of the file
pub sees_opened : (word : ℕ) → IsTrue (has_bit word path_open) → IsTrue (is_observing word)
sees_opened word opens =
    first_or (has_bit word path_open || has_bit word path_filestat_get)
    (has_bit word path_unlink_file)
    (first_or (has_bit word path_open) (has_bit word path_filestat_get) opens)

pub sees_facts : (word : ℕ) → IsTrue (has_bit word path_filestat_get) → IsTrue (is_observing word)
sees_facts word facts =
    first_or (has_bit word path_open || has_bit word path_filestat_get)
    (has_bit word path_unlink_file)
    (second_or (has_bit word path_open) (has_bit word path_filestat_get) facts)

pub sees_removed : (word : ℕ) → IsTrue (has_bit word path_unlink_file) → IsTrue (is_observing word)
sees_removed word unlink = second_or (has_bit word path_open || has_bit word path_filestat_get)
    (has_bit word path_unlink_file) unlink

-- ---- open files

-- an open file's descriptor is allowed
pub open_allowed : (w : World) (fd : ℕ) (file : OpenFile) → IsWorld w
    → descriptor_at w fd ≡ File file → IsAllowed (word_on file.path w.grants) file.base
open_allowed w fd file is at = elim (slice_get_cases w.descriptors fd).1 [
  | inl (d, lt, gives, same) ↦
      let shown : d ≡ File file = ap (λ o. unwrap_or o Closed) (sym gives) ∙ at in
      let fits : DescriptorFits w.grants (get_or w.descriptors fd d) = All-get_or
      (DescriptorFits w.grants) w.descriptors fd d lt is.allowed in
      subst (DescriptorFits w.grants) (same ∙ shown) fits
  | inr (past, gives) ↦ absurd (let shown : Closed ≡ File file = ap (λ o. unwrap_or o Closed)
      (sym gives) ∙ at in cc)
]
