-- Bytes are one program at most, and are none for one reason.
use Rattle.std.proofs.Common.{◌≡◌, ℕ, List, Some, Result, Ok, Err, sym, ap, ◌∙◌, subst}
use Rattle.std.specs.FinMap.{get}
use Rattle.vr_base.specs.declared.calls.Why.{Why}
use Rattle.vr_base.specs.declared.calls.Why.TheVariants.{Decode, Invalid, Link}
use Rattle.vr_files.specs.FileMaps.{FileMap}
use Rattle.vr_wasi_calls.specs.Functions.{finds}
use Rattle.vr_wasm_ast.specs.declared.tree.Module.{Module}
use Rattle.vr_wasm_decode.specs.declared.fault.DecodeFault.{DecodeFault}
use Rattle.vr_wasm_decode.specs.Faults as decoding
use Rattle.vr_wasm_decode.specs.Modules.{module_of}
use Rattle.vr_wasm_decode.proofs.ModuleLemmas.{module_again, one_module}
use Rattle.vr_wasm_link.specs.declared.faults.LinkFault.{LinkFault}
use Rattle.vr_wasm_link.specs.Faults as linking
use Rattle.vr_wasm_link.specs.Opening.{Opening, opening_of}
use Rattle.vr_wasm_valid.specs.declared.answer.Invalid.TheVariants as refusals
use Rattle.vr_wasm_valid.specs.Context.{spaces_of}
use Rattle.vr_wasm_valid.specs.Parts.{Component, Placed, FirstRefused, IsFirstRefused, IsTyped, IsTypedIn, components}
use Rattle.vr_wasm_valid.proofs.AnswerLemmas.{untyped}
use Rattle.vr_exec.specs.Programs.{Executable, IsProgram, IsNoProgram, HasProgram, HasNoProgram}
use Rattle.vr_exec.proofs.ListLemmas.{first_failing}

one_value : {A E : Type 0} (a b : A) → ◌≡◌ {A = Result A E} (Ok a) (Ok b) → a ≡ b
one_value a b e = cc

one_fault : {A E : Type 0} (a b : E) → ◌≡◌ {A = Result A E} (Err a) (Err b) → a ≡ b
one_fault a b e = cc

no_fault : {A E : Type 0} (a : A) (b : E) → ◌≡◌ {A = Result A E} (Ok a) (Err b) → ⊥
no_fault a b e = cc

one_there : {A : Type 0} (a b : A) → Some a ≡ Some b → a ≡ b
one_there a b e = cc

-- ---- a module has one component that is refused first

one_refused : (T : Component → Type 0) (all : List Placed) (part index part' index' : ℕ) → FirstRefused T all part index → FirstRefused T all part' index'
    → (part ≡ part') × (index ≡ index')
one_refused T all part index part' index' h k =
    let P : Placed → Type 0 = λ (c : Placed). T c.what in
    let x : Placed = record { part = part; index = index; what = h.refused } in
    let y : Placed = record { part = part'; index = index'; what = k.refused } in
    let same : x ≡ y = first_failing P h.before k.before h.after k.after x y (sym h.split ∙ k.split) h.typed_before k.typed_before h.not_typed k.not_typed in
    (ap (λ (c : Placed). c.part) same, ap (λ (c : Placed). c.index) same)

refused_or_typed : (tree : Module) (part index : ℕ) → IsFirstRefused tree part index → IsTyped tree → ⊥
refused_or_typed tree part index h typed = untyped (IsTypedIn (spaces_of tree) tree) (components tree) (refusals.Part part index) h typed

-- ---- bytes

one_executable : (p q : Executable) → p.tree ≡ q.tree → p.opening ≡ q.opening → p ≡ q
one_executable p q tree opening = λ i. record { tree = tree i; opening = opening i }

one_program : (pages : ℕ) (bytes : List ℕ) (p q : Executable) → IsProgram pages bytes p → IsProgram pages bytes q → p ≡ q
one_program pages bytes p q h k =
    let tree : p.tree ≡ q.tree = one_module bytes p.tree q.tree h.spelled k.spelled in
    let opens : ◌≡◌ {A = Result Opening LinkFault} (Ok p.opening) (Ok q.opening) = sym h.linked ∙ ap (λ (t : Module). opening_of finds t pages) tree ∙ k.linked in
    one_executable p q tree (one_value p.opening q.opening opens)

decoded_or_not : (bytes : List ℕ) (tree : Module) (fault : DecodeFault) → module_of bytes ≡ Ok tree → module_of bytes ≡ Err fault → ⊥
decoded_or_not bytes tree fault h k = no_fault {E = DecodeFault} tree fault (sym h ∙ k)

program_or_not : (pages : ℕ) (bytes : List ℕ) (plan : Executable) (why : Why) → IsProgram pages bytes plan → IsNoProgram pages bytes why → ⊥
program_or_not pages bytes plan (Decode kind at) h k = decoded_or_not bytes plan.tree k.fault (module_again bytes plan.tree h.spelled) k.found
program_or_not pages bytes plan (Invalid part index) h k =
    refused_or_typed k.tree part index k.refused (subst IsTyped (one_module bytes plan.tree k.tree h.spelled k.spelled) h.typed)
program_or_not pages bytes plan (Link kind index) h k =
    no_fault plan.opening k.fault (sym h.linked ∙ ap (λ (t : Module). opening_of finds t pages) (one_module bytes plan.tree k.tree h.spelled k.spelled) ∙ k.found)

one_reason : (pages : ℕ) (bytes : List ℕ) (a b : Why) → IsNoProgram pages bytes a → IsNoProgram pages bytes b → a ≡ b
one_reason pages bytes (Decode kind at) (Decode kind' at') h k =
    let same : h.fault ≡ k.fault = one_fault {A = Module} h.fault k.fault (sym h.found ∙ k.found) in
    let kinds : kind ≡ kind' = h.kind_is ∙ ap (λ (f : DecodeFault). decoding.number_of f.kind) same ∙ sym k.kind_is in
    let places : at ≡ at' = h.at_is ∙ ap (λ (f : DecodeFault). f.at) same ∙ sym k.at_is in
    cc
one_reason pages bytes (Decode kind at) (Invalid part index) h k = absurd (decoded_or_not bytes k.tree h.fault (module_again bytes k.tree k.spelled) h.found)
one_reason pages bytes (Decode kind at) (Link kind' index) h k = absurd (decoded_or_not bytes k.tree h.fault (module_again bytes k.tree k.spelled) h.found)
one_reason pages bytes (Invalid part index) (Decode kind at) h k = absurd (decoded_or_not bytes h.tree k.fault (module_again bytes h.tree h.spelled) k.found)
one_reason pages bytes (Invalid part index) (Invalid part' index') h k =
    let P : Module → Type 0 = λ (t : Module). IsFirstRefused t part index in
    let both : (part ≡ part') × (index ≡ index') =
    one_refused (IsTypedIn (spaces_of k.tree) k.tree) (components k.tree) part index part' index' (subst P (one_module bytes h.tree k.tree h.spelled k.spelled) h.refused) k.refused in
    cc
one_reason pages bytes (Invalid part index) (Link kind index') h k =
    absurd (refused_or_typed h.tree part index h.refused (subst IsTyped (one_module bytes k.tree h.tree k.spelled h.spelled) k.typed))
one_reason pages bytes (Link kind index) (Decode kind' at) h k = absurd (decoded_or_not bytes h.tree k.fault (module_again bytes h.tree h.spelled) k.found)
one_reason pages bytes (Link kind index) (Invalid part index') h k =
    absurd (refused_or_typed k.tree part index' k.refused (subst IsTyped (one_module bytes h.tree k.tree h.spelled k.spelled) h.typed))
one_reason pages bytes (Link kind index) (Link kind' index') h k =
    let same : h.fault ≡ k.fault =
    one_fault {A = Opening} h.fault k.fault (sym h.found ∙ ap (λ (t : Module). opening_of finds t pages) (one_module bytes h.tree k.tree h.spelled k.spelled) ∙ k.found) in
    let kinds : kind ≡ kind' = h.kind_is ∙ ap (λ (f : LinkFault). linking.number_of f.kind) same ∙ sym k.kind_is in
    let places : index ≡ index' = h.index_is ∙ ap (λ (f : LinkFault). f.index) same ∙ sym k.index_is in
    cc

-- ---- files

same_bytes : (files : FileMap) (path a b : List ℕ) → get files path ≡ Some a → get files path ≡ Some b → a ≡ b
same_bytes files path a b h k = one_there a b (sym h ∙ k)

pub has_one_program : (pages : ℕ) (files : FileMap) (path : List ℕ) (p q : Executable) → HasProgram pages files path p → HasProgram pages files path q → p ≡ q
has_one_program pages files path p q h k =
    let P : List ℕ → Type 0 = λ bytes. IsProgram pages bytes p in
    one_program pages k.bytes p q (subst P (same_bytes files path h.bytes k.bytes h.there k.there) h.is_program) k.is_program

pub has_program_or_not : (pages : ℕ) (files : FileMap) (path : List ℕ) (plan : Executable) (why : Why) → HasProgram pages files path plan → HasNoProgram pages files path why → ⊥
has_program_or_not pages files path plan why h k =
    let P : List ℕ → Type 0 = λ bytes. IsProgram pages bytes plan in
    program_or_not pages k.bytes plan why (subst P (same_bytes files path h.bytes k.bytes h.there k.there) h.is_program) k.is_none

pub has_one_reason : (pages : ℕ) (files : FileMap) (path : List ℕ) (a b : Why) → HasNoProgram pages files path a → HasNoProgram pages files path b → a ≡ b
has_one_reason pages files path a b h k =
    let P : List ℕ → Type 0 = λ bytes. IsNoProgram pages bytes a in
    one_reason pages k.bytes a b (subst P (same_bytes files path h.bytes k.bytes h.there k.there) h.is_none) k.is_none
