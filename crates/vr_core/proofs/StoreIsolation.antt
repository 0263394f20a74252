-- Reads, writes and appends are isolated.
use Rattle.std.proofs.Common.{◌≡◌, ℕ, Bool, true, false, cond, List, [], ◌++◌, length, get_or, Option, None, Some, Ok, Err, refl, sym, ap, ◌∙◌, subst}
use Rattle.std.specs.Prelude.{unwrap_or}
use Rattle.std.specs.FinMap.{get, get-insert, insert}
use Rattle.std.specs.Option.{option_map_or}
use Rattle.std.specs.Ordering.{eq_by_cmp}
use Rattle.vr_base.specs.Checks.{◌>>=◌, ◌>>◌, or_fault, unless_fault}
use Rattle.vr_base.specs.Rights.{append_rights, fd_read, fd_seek, fd_write, has_bit, read_rights, word_on, write_rights}
use Rattle.vr_base.specs.declared.calls.Reply.{Reply}
use Rattle.vr_base.specs.declared.calls.Reply.TheVariants.{Denied, NoSuchFile, Read, Stored}
use Rattle.vr_files.proofs.EntryLemmas.{paths_total}
use Rattle.vr_files.specs.FileMaps.{FileMap, path_cmp}
use Rattle.vr_policy_check.specs.Rules.{CheckedData}
use Rattle.vr_policy_read.specs.declared.entries.Identity.{Identity}
use Rattle.vr_rights.proofs.RegionLemmas.{place_is}
use Rattle.vr_rights.specs.Quotas.{quota_of}
use Rattle.vr_rights.specs.Regions.{place_of}
use Rattle.vr_core.specs.Isolation.{IsClosedFor}
use Rattle.vr_core.specs.Machine.{Checked, Effect, Origin, append_effect, body_at, bytes_at, effect, effect_of, files_with, identity_of, path_for, path_named, quota_check, read_effect, rights_check, size_check, write_effect}
use Rattle.vr_core.specs.Quotas.{region, region_names, total_fault, total_of}
use Rattle.vr_core.proofs.ClosedLemmas.{AgreeWhere, appends_inside, in_regions, number_of, numbered, reads_inside, weighs_inside, writes_inside}
use Rattle.vr_core.proofs.OrderLemmas.{same_name}
use Rattle.vr_core.proofs.RegionLemmas.{own_regions}
use Rattle.vr_core.proofs.SameTotals.{same_total_of}

-- ---- the rights that were passed

module _ (identity : Identity) (path : List ℕ) where
  may_read : rights_check identity path read_rights ≡ Ok tt → has_bit (word_on path identity.grants) fd_read ≡ true
  may_read h = by_bit (has_bit (word_on path identity.grants) fd_read) refl
    where
      by_bit : (b : Bool) → has_bit (word_on path identity.grants) fd_read ≡ b → b ≡ true
      by_bit true e = refl
      by_bit false e = let refused : rights_check identity path read_rights ≡ Err (Denied path fd_read) = rw e refl in cc

  may_write : rights_check identity path write_rights ≡ Ok tt → has_bit (word_on path identity.grants) fd_write ≡ true
  may_write h = by_bit (has_bit (word_on path identity.grants) fd_write) refl
    where
      by_bit : (b : Bool) → has_bit (word_on path identity.grants) fd_write ≡ b → b ≡ true
      by_bit true e = refl
      by_bit false e = let refused : rights_check identity path write_rights ≡ Err (Denied path fd_write) = rw e refl in cc

  may_append : rights_check identity path append_rights ≡ Ok tt
      → (has_bit (word_on path identity.grants) fd_seek ≡ true) × (has_bit (word_on path identity.grants) fd_write ≡ true)
  may_append h = by_bits (has_bit (word_on path identity.grants) fd_seek) (has_bit (word_on path identity.grants) fd_write) refl refl
    where
      by_bits : (a b : Bool) → has_bit (word_on path identity.grants) fd_seek ≡ a → has_bit (word_on path identity.grants) fd_write ≡ b → (a ≡ true) × (b ≡ true)
      by_bits true true e f = (refl, refl)
      by_bits true false e f = let refused : rights_check identity path append_rights ≡ Err (Denied path fd_write) = rw (e, f) refl in cc
      by_bits false b e f = let refused : rights_check identity path append_rights ≡ Err (Denied path fd_seek) = rw e refl in cc

-- The identity that calls has the rights on the path of the name.
record Passed (policy : CheckedData) (who : ℕ) (path : List ℕ) (needed : ℕ) : Type 0 where
  identity : Identity
  called : identity_of policy who ≡ Ok identity
  may : rights_check identity path needed ≡ Ok tt

passed : (policy : CheckedData) (who : ℕ) (name : List ℕ) (needed : ℕ) (path : List ℕ) → path_for policy who name needed ≡ Ok path → Passed policy who path needed
passed policy who name needed path h = by_name (path_named name) h
  where
    by_rights : (identity : Identity) (at : List ℕ) (answer : Checked (Unit {0})) → identity_of policy who ≡ Ok identity → rights_check identity at needed ≡ answer
        → (answer >> Ok at) ≡ Ok path → Passed policy who path needed
    by_rights identity at (Ok done) called e k =
        let same : at ≡ path = cc in record { identity = identity; called = called; may = subst (λ p. rights_check identity p needed ≡ Ok tt) same e }
    by_rights identity at (Err refusal) called e k = cc

    by_identity : (at : List ℕ) (answer : Checked Identity) → identity_of policy who ≡ answer
        → (answer >>= (λ identity. rights_check identity at needed >> Ok at)) ≡ Ok path → Passed policy who path needed
    by_identity at (Ok identity) e k = by_rights identity at (rights_check identity at needed) e refl k
    by_identity at (Err refusal) e k = cc

    by_name : (answer : Checked (List ℕ)) → (answer >>= (λ at. identity_of policy who >>= (λ identity. rights_check identity at needed >> Ok at))) ≡ Ok path
        → Passed policy who path needed
    by_name (Ok at) k = by_identity at (identity_of policy who) refl k
    by_name (Err refusal) k = cc

-- ---- reads

read_reply : List ℕ → Option (List ℕ) → Reply
read_reply path None = NoSuchFile path
read_reply path (Some body) = Read body

abbrev read_by : FileMap → Checked (List ℕ) → Effect
read_by files asked = effect_of files ((asked >>= body_at files) >>= (λ body. Ok (effect (Read body) files)))

replied : (files : FileMap) (path : List ℕ) (found : Option (List ℕ))
    → (effect_of files (or_fault (NoSuchFile path) found >>= (λ body. Ok (effect (Read body) files)))).reply ≡ read_reply path found
unfolding read_reply
replied files path None = refl
replied files path (Some body) = refl

read_changes_nothing : (files : FileMap) (body : Checked (List ℕ)) → (effect_of files (body >>= (λ bytes. Ok (effect (Read bytes) files)))).files ≡ files
read_changes_nothing files (Ok bytes) = refl
read_changes_nothing files (Err refusal) = refl

-- a read changes no file
pub read_stays : (origin : Origin) (files : FileMap) (who : ℕ) (name : List ℕ) → (effect_of files (read_effect origin files who name)).files ≡ files
read_stays origin files who name = read_changes_nothing files (path_for origin.policy who name read_rights >>= body_at files)

read_same : (files others : FileMap) (asked : Checked (List ℕ)) → ((path : List ℕ) → asked ≡ Ok path → get others path ≡ get files path) → (read_by others asked).reply ≡ (read_by files asked).reply
read_same files others (Ok path) same = replied others path (get others path) ∙ ap (read_reply path) (same path refl) ∙ sym (replied files path (get files path))
read_same files others (Err refusal) same = refl

-- ---- what is stored

-- the files after a body was kept at a path, by what the checks of it answer
abbrev by_verdict : List ℕ → List ℕ → FileMap → Checked (Unit {0}) → Effect
by_verdict path body files (Ok done) = effect Stored (insert files path body)
by_verdict path body files (Err refusal) = effect refusal files

abbrev verdict : CheckedData → List ℕ → List ℕ → FileMap → Checked (Unit {0})
verdict policy path body files = size_check (length body) >> quota_check policy files (insert files path body) path

abbrev store_at : Origin → FileMap → List ℕ → List ℕ → Effect
store_at origin files path body = effect_of files (files_with origin files path body >>= (λ after. Ok (effect Stored after)))

abbrev store_by : Origin → FileMap → Checked (List ℕ) → (List ℕ → List ℕ) → Effect
store_by origin files asked body = effect_of files (asked >>= (λ path. files_with origin files path (body path) >>= (λ after. Ok (effect Stored after))))

judged : (path body : List ℕ) (files : FileMap) (size quota : Checked (Unit {0}))
    → effect_of files ((size >> (quota >> Ok (insert files path body))) >>= (λ after. Ok (effect Stored after))) ≡ by_verdict path body files (size >> quota)
judged path body files (Ok done) (Ok done') = refl
judged path body files (Ok done) (Err refusal) = refl
judged path body files (Err refusal) quota = refl

store_is : (origin : Origin) (files : FileMap) (path body : List ℕ) → store_at origin files path body ≡ by_verdict path body files (verdict origin.policy path body files)
store_is origin files path body = judged path body files (size_check (length body)) (quota_check origin.policy files (insert files path body) path)

judged_reply : (path body : List ℕ) (files others : FileMap) (answer : Checked (Unit {0})) → (by_verdict path body others answer).reply ≡ (by_verdict path body files answer).reply
judged_reply path body files others (Ok done) = refl
judged_reply path body files others (Err refusal) = refl

inserted : (files others : FileMap) (path body at : List ℕ) → get others at ≡ get files at → get (insert others path body) at ≡ get (insert files path body) at
inserted files others path body at same =
    get-insert paths_total others path body at ∙ ap (λ (o : Option (List ℕ)). cond (eq_by_cmp path_cmp at path) (Some body) o) same ∙ sym (get-insert paths_total files path body at)

judged_files : (path body : List ℕ) (files others : FileMap) (at : List ℕ) → get others at ≡ get files at → (answer : Checked (Unit {0}))
    → get (by_verdict path body others answer).files at ≡ get (by_verdict path body files answer).files at
judged_files path body files others at same (Ok done) = inserted files others path body at same
judged_files path body files others at same (Err refusal) = same

-- ---- the quota of a region

module _ (policy : CheckedData) (path body : List ℕ) (files others : FileMap) where
  -- where the region has a quota, the files of it are the same
  abbrev SameWeighed : Type 0
  SameWeighed = (name : List ℕ) (quota : ℕ) → region policy path ≡ Some name → quota_of name policy.policy.quotas ≡ Some quota
      → (at : List ℕ) → region policy at ≡ Some name → get others at ≡ get files at

  same_quota : SameWeighed → quota_check policy others (insert others path body) path ≡ quota_check policy files (insert files path body) path
  same_quota same = by_region (region policy path) refl
    where
      by_quota : (name : List ℕ) (quota : Option ℕ) → region policy path ≡ Some name → quota_of name policy.policy.quotas ≡ quota
          → unless_fault (total_fault quota name (total_of policy others name) (total_of policy (insert others path body) name)) (tt {0})
          ≡ unless_fault (total_fault quota name (total_of policy files name) (total_of policy (insert files path body) name)) (tt {0})
      by_quota name None e q = refl
      by_quota name (Some quota) e q =
          let alike = same name quota e q in
          let old = same_total_of policy name files others alike in
          let new = same_total_of policy name (insert files path body) (insert others path body) (λ at there. inserted files others path body at (alike at there)) in
          rw (old, new) refl

      by_region : (found : Option (List ℕ)) → region policy path ≡ found → quota_check policy others (insert others path body) path ≡ quota_check policy files (insert files path body) path
      by_region None e = rw e refl
      by_region (Some name) e = rw e (by_quota name (quota_of name policy.policy.quotas) e refl)

  same_verdict : SameWeighed → verdict policy path body others ≡ verdict policy path body files
  same_verdict same = ap (λ (answer : Checked (Unit {0})). size_check (length body) >> answer) (same_quota same)

-- the paths of one region are inside together
same_inside : (policy : CheckedData) (regions : ℕ → Bool) (path at name : List ℕ) → region policy path ≡ Some name → region policy at ≡ Some name
    → in_regions policy regions path ≡ true → in_regions policy regions at ≡ true
same_inside policy regions path at name e f inside =
    let ordered = (own_regions policy).ordered in
    let n = number_of policy path name e in
    let m = number_of policy at name f in
    let first = numbered policy path n.0 n.1 in
    let second = numbered policy at m.0 m.1 in
    let both : ◌≡◌ {A = Option (List ℕ)} (Some (get_or (region_names policy) n.0 [])) (Some (get_or (region_names policy) m.0 [])) = sym first.1 ∙ e ∙ sym f ∙ second.1 in
    let names : get_or (region_names policy) n.0 [] ≡ get_or (region_names policy) m.0 [] = cc in
    let at_first = place_is (region_names policy) n.0 ordered first.0 in
    let at_second = place_is (region_names policy) m.0 ordered second.0 in
    let numbers : ◌≡◌ {A = Option ℕ} (Some n.0) (Some m.0) = sym at_first ∙ ap (place_of (region_names policy)) names ∙ at_second in
    ap (λ (o : Option ℕ). option_map_or regions o false) (m.1 ∙ sym numbers ∙ sym n.1) ∙ inside

-- ---- over a closed pair

module _ (policy : CheckedData) (regions : ℕ → Bool) where
  abbrev inside : List ℕ → Bool
  inside path = in_regions policy regions path

  -- a file that is kept outside changes none inside
  insert_outside : (files : FileMap) (path body at : List ℕ) → inside path ≡ false → inside at ≡ true → get (insert files path body) at ≡ get files at
  insert_outside files path body at out in_it = get-insert paths_total files path body at ∙ by_test (eq_by_cmp path_cmp at path) refl
    where
      by_test : (b : Bool) → eq_by_cmp path_cmp at path ≡ b → cond b (Some body) (get files at) ≡ get files at
      by_test true t =
          let same : at ≡ path = same_name at path t in
          let clash : true ≡ false = sym in_it ∙ ap inside same ∙ out in
          absurd (let no : ⊥ = cc in no)
      by_test false t = refl

  judged_outside : (files : FileMap) (path body at : List ℕ) → inside path ≡ false → inside at ≡ true → (answer : Checked (Unit {0}))
      → get (by_verdict path body files answer).files at ≡ get files at
  judged_outside files path body at out in_it (Ok done) = insert_outside files path body at out in_it
  judged_outside files path body at out in_it (Err refusal) = refl

  store_outside : (origin : Origin) (files : FileMap) (path body at : List ℕ) → inside path ≡ false → inside at ≡ true → get (store_at origin files path body).files at ≡ get files at
  store_outside origin files path body at out in_it =
      ap (λ (e : Effect). get e.files at) (store_is origin files path body) ∙ judged_outside files path body at out in_it (verdict origin.policy path body files)

module _ (origin : Origin) (regions : ℕ → Bool) (files others : FileMap) (agree : AgreeWhere (in_regions origin.policy regions) files others) where
  abbrev within : List ℕ → Bool
  within path = in_regions origin.policy regions path

  -- a region of which one path is inside has the same files
  weighed_inside : (path body : List ℕ) → within path ≡ true → SameWeighed origin.policy path body files others
  weighed_inside path body in_it name quota e q at there = agree at (same_inside origin.policy regions path at name e there in_it)

  -- ---- one path

  reply_alike : (path body : List ℕ) → SameWeighed origin.policy path body files others → (store_at origin others path body).reply ≡ (store_at origin files path body).reply
  reply_alike path body same =
      ap (λ (e : Effect). e.reply) (store_is origin others path body ∙ ap (by_verdict path body others) (same_verdict origin.policy path body files others same))
      ∙ judged_reply path body files others (verdict origin.policy path body files)
      ∙ ap (λ (e : Effect). e.reply) (sym (store_is origin files path body))

  files_alike : (path body at : List ℕ) → SameWeighed origin.policy path body files others → get others at ≡ get files at
      → get (store_at origin others path body).files at ≡ get (store_at origin files path body).files at
  files_alike path body at same alike =
      ap (λ (e : Effect). get e.files at) (store_is origin others path body ∙ ap (by_verdict path body others) (same_verdict origin.policy path body files others same))
      ∙ judged_files path body files others at alike (verdict origin.policy path body files)
      ∙ ap (λ (e : Effect). get e.files at) (sym (store_is origin files path body))

  -- ---- a call

  module _ (asked : Checked (List ℕ)) (body twin : List ℕ → List ℕ) (same_body : (path : List ℕ) → within path ≡ true → twin path ≡ body path) where
    store_agrees : AgreeWhere within (store_by origin files asked body).files (store_by origin others asked twin).files
    store_agrees at in_it = by_path asked
      where
        by_place : (path : List ℕ) (b : Bool) → within path ≡ b → get (store_at origin others path (twin path)).files at ≡ get (store_at origin files path (body path)).files at
        by_place path true e =
            ap (λ (bytes : List ℕ). get (store_at origin others path bytes).files at) (same_body path e)
            ∙ files_alike path (body path) at (weighed_inside path (body path) e) (agree at in_it)
        by_place path false e =
            store_outside origin.policy regions origin others path (twin path) at e in_it ∙ agree at in_it ∙ sym (store_outside origin.policy regions origin files path (body path) at e in_it)

        by_path : (a : Checked (List ℕ)) → get (store_by origin others a twin).files at ≡ get (store_by origin files a body).files at
        by_path (Ok path) = by_place path (within path) refl
        by_path (Err refusal) = agree at in_it

    store_answers : ((path : List ℕ) → asked ≡ Ok path → (twin path ≡ body path) × SameWeighed origin.policy path (body path) files others)
        → (store_by origin others asked twin).reply ≡ (store_by origin files asked body).reply
    store_answers same = by_path asked same
      where
        by_path : (a : Checked (List ℕ)) → ((path : List ℕ) → a ≡ Ok path → (twin path ≡ body path) × SameWeighed origin.policy path (body path) files others)
            → (store_by origin others a twin).reply ≡ (store_by origin files a body).reply
        by_path (Ok path) h =
            let s = h path refl in
            ap (λ (bytes : List ℕ). (store_at origin others path bytes).reply) s.0 ∙ reply_alike path (body path) s.1
        by_path (Err refusal) h = refl

-- a call whose path is outside changes nothing inside
store_stays : (origin : Origin) (regions : ℕ → Bool) (files : FileMap) (asked : Checked (List ℕ)) (body : List ℕ → List ℕ)
    → ((path : List ℕ) → asked ≡ Ok path → in_regions origin.policy regions path ≡ false)
    → AgreeWhere (in_regions origin.policy regions) files (store_by origin files asked body).files
store_stays origin regions files asked body outside at in_it = by_path asked outside
  where
    by_path : (a : Checked (List ℕ)) → ((path : List ℕ) → a ≡ Ok path → in_regions origin.policy regions path ≡ false) → get (store_by origin files a body).files at ≡ get files at
    by_path (Ok path) h = store_outside origin.policy regions origin files path (body path) at (h path refl) in_it
    by_path (Err refusal) h = refl

-- ---- each call

module _ (origin : Origin) (caller : ℕ) (ids regions : ℕ → Bool) (closed : IsClosedFor origin.policy caller ids regions) (files : FileMap) (who : ℕ) (name : List ℕ) where
  abbrev inner : List ℕ → Bool
  inner path = in_regions origin.policy regions path

  -- who is none of the identities writes nothing inside
  outside_of : (needed : ℕ) → ((identity : Identity) (path : List ℕ) → rights_check identity path needed ≡ Ok tt → has_bit (word_on path identity.grants) fd_write ≡ true)
      → ids who ≡ false → (path : List ℕ) → path_for origin.policy who name needed ≡ Ok path → inner path ≡ false
  outside_of needed writes out path asked = by_test (inner path) refl
    where
      by_test : (b : Bool) → inner path ≡ b → b ≡ false
      by_test true e =
          let p = passed origin.policy who name needed path asked in
          let one = writes_inside origin.policy caller ids regions closed who p.identity p.called path (writes p.identity path p.may) e in
          let clash : true ≡ false = sym one ∙ out in
          absurd (let no : ⊥ = cc in no)
      by_test false e = refl

  pub write_stays : (body : List ℕ) → ids who ≡ false → AgreeWhere inner files (effect_of files (write_effect origin files who name body)).files
  write_stays body out = store_stays origin regions files (path_for origin.policy who name write_rights) (λ path. body) (outside_of write_rights may_write out)

  pub append_stays : (piece : List ℕ) → ids who ≡ false → AgreeWhere inner files (effect_of files (append_effect origin files who name piece)).files
  append_stays piece out = store_stays origin regions files (path_for origin.policy who name append_rights) (λ path. bytes_at files path ++ piece)
      (outside_of append_rights (λ identity path may. (may_append identity path may).1) out)

  module _ (others : FileMap) (agree : AgreeWhere inner files others) where
    pub read_answers : who ≡ caller → (effect_of others (read_effect origin others who name)).reply ≡ (effect_of files (read_effect origin files who name)).reply
    read_answers is = read_same files others (path_for origin.policy who name read_rights) (λ path asked.
        let p = passed origin.policy who name read_rights path asked in
        let called = subst (λ w. identity_of origin.policy w ≡ Ok p.identity) is p.called in
        agree path (reads_inside origin.policy caller ids regions closed p.identity called path (may_read p.identity path p.may)))

    pub write_agrees : (body : List ℕ) → AgreeWhere inner (effect_of files (write_effect origin files who name body)).files (effect_of others (write_effect origin others who name body)).files
    write_agrees body = store_agrees origin regions files others agree (path_for origin.policy who name write_rights) (λ path. body) (λ path. body) (λ path in_it. refl)

    pub write_answers : (body : List ℕ) → who ≡ caller → (effect_of others (write_effect origin others who name body)).reply ≡ (effect_of files (write_effect origin files who name body)).reply
    write_answers body is =
        store_answers origin regions files others agree (path_for origin.policy who name write_rights) (λ path. body) (λ path. body) (λ path in_it. refl) (λ path asked.
        let p = passed origin.policy who name write_rights path asked in
        let called = subst (λ w. identity_of origin.policy w ≡ Ok p.identity) is p.called in (
          refl,
          λ region_name quota e q at there.
              let in_it = weighs_inside origin.policy caller ids regions closed p.identity called path region_name quota e q (may_write p.identity path p.may) in
              agree at (same_inside origin.policy regions path at region_name e there in_it),
        ))

    appended : (piece path : List ℕ) → inner path ≡ true → (bytes_at others path ++ piece) ≡ (bytes_at files path ++ piece)
    appended piece path in_it = ap (λ (found : Option (List ℕ)). unwrap_or found [] ++ piece) (agree path in_it)

    pub append_agrees : (piece : List ℕ) → AgreeWhere inner (effect_of files (append_effect origin files who name piece)).files (effect_of others (append_effect origin others who name piece)).files
    append_agrees piece =
        store_agrees origin regions files others agree (path_for origin.policy who name append_rights) (λ path. bytes_at files path ++ piece) (λ path. bytes_at others path ++ piece) (appended piece)

    pub append_answers : (piece : List ℕ) → who ≡ caller → (effect_of others (append_effect origin others who name piece)).reply ≡ (effect_of files (append_effect origin files who name piece)).reply
    append_answers piece is =
        store_answers origin regions files others agree (path_for origin.policy who name append_rights) (λ path. bytes_at files path ++ piece) (λ path. bytes_at others path ++ piece) (appended piece) (λ path asked.
        let p = passed origin.policy who name append_rights path asked in
        let called = subst (λ w. identity_of origin.policy w ≡ Ok p.identity) is p.called in
        let may = may_append p.identity path p.may in
        let in_it = appends_inside origin.policy caller ids regions closed p.identity called path may.0 may.1 in
        (appended piece path in_it, weighed_inside origin regions files others agree path (bytes_at files path ++ piece) in_it))
