-- What was read keeps the limits on the sizes of lists and of memory.
use Rattle.std.proofs.Common.{◌≡◌, ℕ, suc, ◌≤◌, ◌-◌, ◌*◌, ◌^◌, min, List, [], ◌∷◌, length, arith, refl, ap, subst, Bool, true, false, cond, Option, Some, None, Result, Ok, Err}
use Rattle.std.proofs.lemmas.Bool.{ltb-false}
use Rattle.std.proofs.lemmas.List.Elements.{All-nil, All-cons}
use Rattle.std.specs.List.{All}
use Rattle.serde_json.specs.Data.{Data, Items, no_items, item, Members}
use Rattle.serde_json.specs.Events.{items_len}
use Rattle.vr_base.specs.Checks.{◌>>=◌}
use Rattle.vr_policy_read.specs.Faults.{answer_at, kind_answer}
use Rattle.vr_policy_read.specs.Limits.{most_pages}
use Rattle.vr_policy_read.specs.Members.{object_in, list_in, entry_in, entries_from, entries_in, member_value, required_value, optional_value, number_in}
use Rattle.vr_policy_read.specs.Policies.{optional_entries, grant_name_in, grant_in, grants_in, id_in, identity_in, program_in, pages_of, pages_in}
use Rattle.vr_policy_read.specs.PolicyData.{IsShort}
use Rattle.vr_policy_read.specs.declared.entries.Identity.{Identity}
use Rattle.vr_policy_read.specs.declared.entries.Program.{Program}
use Rattle.vr_policy_read.specs.declared.faults.Member.{Member}
use Rattle.vr_policy_read.specs.declared.faults.Member.TheVariants.{FileRights, ProgramFileName, MaxMemory}
use Rattle.vr_policy_read.specs.declared.faults.ReadFault.{ReadFault}
use Rattle.vr_policy_read.specs.declared.faults.ReadKind.{ReadKind}

-- a reading that gave a value gave one at each of its two steps
ok_steps : {A B E : Type 0} (r : Result A E) (f : A → Result B E) (y : B) → (r >>= f) ≡ Ok y → (x : A) × (r ≡ Ok x) × (f x ≡ Ok y)
ok_steps (Ok x) f y e = (x, refl, e)
ok_steps (Err fault) f y e = cc

ok_without_index : {A : Type 0} (at : ℕ) (r : Result A ReadKind) (x : A) → answer_at at r ≡ Ok x → r ≡ Ok x
ok_without_index at (Ok x) y e = cc
ok_without_index at (Err kind) y e = cc

ok_of_kind : {A : Type 0} (r : Result A ReadFault) (x : A) → kind_answer r ≡ Ok x → r ≡ Ok x
ok_of_kind (Ok x) y e = cc
ok_of_kind (Err fault) y e = cc

-- where the test leads to a fault, a value came from the other side
ok_past_test : {A E : Type 0} (b : Bool) (fault : E) (r : Result A E) (x : A) → cond b (Err fault) r ≡ Ok x → (b ≡ false) × (r ≡ Ok x)
ok_past_test true fault r x e = cc
ok_past_test false fault r x e = (refl, e)

module _ {A : Type 0} (list : Member) (read : Members → Result A ReadKind) where
  -- one entry of the list for each item
  length-entries : (k : ℕ) (ds : Items) (xs : List A) → entries_from k list read ds ≡ Ok xs → length xs ≡ items_len ds
  length-entries k no_items xs e = let none : [] ≡ xs = cc in rw (← none) refl
  length-entries k (item d ds) xs e =
      let first = ok_steps (answer_at k (entry_in list read d)) _ xs e in
      let rest = ok_steps (entries_from (suc k) list read ds) _ xs first.2 in
      let cons : first.0 ∷ rest.0 ≡ xs = cc in
      rw (← cons) (ap suc (length-entries (suc k) ds rest.0 rest.1))

  -- what holds of whatever is read holds of each entry
  All-entries : (P : A → Type 0) → ((ms : Members) (x : A) → read ms ≡ Ok x → P x) → (k : ℕ) (ds : Items) (xs : List A) → entries_from k list read ds ≡ Ok xs → All P xs
  All-entries P each k no_items xs e = let none : [] ≡ xs = cc in subst (All P) none (All-nil P)
  All-entries P each k (item d ds) xs e =
      let first = ok_steps (answer_at k (entry_in list read d)) _ xs e in
      let rest = ok_steps (entries_from (suc k) list read ds) _ xs first.2 in
      let cons : first.0 ∷ rest.0 ≡ xs = cc in
      let object = ok_steps (object_in list d) read first.0 (ok_without_index k _ _ first.1) in
      subst (All P) cons (All-cons P first.0 rest.0 (each object.0 first.0 object.2) (All-entries P each (suc k) ds rest.0 rest.1))

  entries_of_list : (d : Data) (xs : List A) → entries_in list read d ≡ Ok xs → (ds : Items) × (items_len ds ≤ 1024) × (entries_from 0 list read ds ≡ Ok xs)
  entries_of_list d xs e =
      let entries = ok_steps (answer_at 0 (list_in list d)) _ xs e in
      let short = ok_past_test _ _ _ xs entries.2 in
      (entries.0, ltb-false _ _ short.0, short.1)

  pub few_entries : (d : Data) (xs : List A) → entries_in list read d ≡ Ok xs → IsShort xs
  few_entries d xs e =
      let entries = entries_of_list d xs e in
      rw (length-entries 0 entries.0 xs entries.2) entries.1

  pub All-list : (P : A → Type 0) → ((ms : Members) (x : A) → read ms ≡ Ok x → P x) → (d : Data) (xs : List A) → entries_in list read d ≡ Ok xs → All P xs
  All-list P each d xs e = let entries = entries_of_list d xs e in All-entries P each 0 entries.0 xs entries.2

  few_or_none : (o : Option Data) (xs : List A) → optional_value [] (entries_in list read) o ≡ Ok xs → IsShort xs
  few_or_none None xs e = let none : [] ≡ xs = cc in rw (← none) (omega arith)
  few_or_none (Some d) xs e = few_entries d xs e

  pub few_optional : (top : Members) (xs : List A) → optional_entries list read top ≡ Ok xs → IsShort xs
  few_optional top xs e = few_or_none (member_value list top) xs e

  All_or_none : (P : A → Type 0) → ((ms : Members) (x : A) → read ms ≡ Ok x → P x) → (o : Option Data) (xs : List A) → optional_value [] (entries_in list read) o ≡ Ok xs → All P xs
  All_or_none P each None xs e = let none : [] ≡ xs = cc in subst (All P) none (All-nil P)
  All_or_none P each (Some d) xs e = All-list P each d xs e

  pub All-optional : (P : A → Type 0) → ((ms : Members) (x : A) → read ms ≡ Ok x → P x) → (top : Members) (xs : List A) → optional_entries list read top ≡ Ok xs → All P xs
  All-optional P each top xs e = All_or_none P each (member_value list top) xs e

few_grants : (ms : Members) (grants : List (List ℕ × ℕ)) → grants_in ms ≡ Ok grants → IsShort grants
few_grants ms grants e =
    let value = ok_steps (required_value FileRights ms) _ grants e in
    few_entries FileRights grant_in value.0 grants (ok_of_kind _ grants value.2)

pub few_grants_of_identity : (ms : Members) (identity : Identity) → identity_in ms ≡ Ok identity → IsShort identity.grants
few_grants_of_identity ms identity e =
    let id = ok_steps (id_in ms) _ identity e in
    let grants = ok_steps (grants_in ms) _ identity id.2 in
    let same : grants.0 ≡ identity.grants = cc in
    rw (← same) (few_grants ms grants.0 grants.1)

pub few_grants_of_program : (ms : Members) (program : Program) → program_in ms ≡ Ok program → IsShort program.grants
few_grants_of_program ms program e =
    let name = ok_steps (grant_name_in ProgramFileName ms) _ program e in
    let grants = ok_steps (grants_in ms) _ program name.2 in
    let same : grants.0 ≡ program.grants = cc in
    rw (← same) (few_grants ms grants.0 grants.1)

few_pages_at : (o : Option Data) (pages : ℕ) → optional_value most_pages (λ d. number_in (2 ^ 64 - 1) MaxMemory d >>= λ mib. Ok (pages_of mib)) o ≡ Ok pages → pages ≤ most_pages
few_pages_at None pages e = let all : 1024 ≡ pages = cc in omega arith
few_pages_at (Some d) pages e =
    let mib = ok_steps (number_in (2 ^ 64 - 1) MaxMemory d) _ pages e in
    let least : min 1024 (16 * mib.0) ≡ pages = cc in
    omega arith

pub few_pages : (ms : Members) (pages : ℕ) → pages_in ms ≡ Ok pages → pages ≤ most_pages
few_pages ms pages e = few_pages_at (member_value MaxMemory ms) pages e
