-- What follows where no check finds a link fault.
use Rattle.std.proofs.Common.{◌≡◌, ℕ, ◌*◌, ◌≤◌, List, [], ◌∷◌, Option, None, Some, Result, Ok, Err, Bool, true, false, refl, sym, subst, ap, cond, ◌∙◌}
use Rattle.std.specs.Prelude.{IsErrAnd, find, nat_lt}
use Rattle.std.specs.List.{position_from}
use Rattle.std.proofs.lemmas.Bool.{ltb-false}
use Rattle.vr_wasm_ast.specs.declared.tree.Export.{Export}
use Rattle.vr_wasm_ast.specs.declared.tree.Module.{Module}
use Rattle.vr_wasm_ast.specs.Checks.{Tells, ◌>>=◌}
use Rattle.vr_wasm_num.specs.declared.memory.TheConstants.{PAGE_SIZE}
use Rattle.vr_wasm_link.specs.declared.faults.LinkFault.{LinkFault}
use Rattle.vr_wasm_link.specs.declared.faults.LinkKind.{LinkKind}
use Rattle.vr_wasm_link.specs.declared.faults.LinkKind.TheVariants as kinds
use Rattle.vr_wasm_link.specs.declared.fitting.TheConstants.{MAX_TABLE}
use Rattle.vr_wasm_link.specs.Constants.{global_values}
use Rattle.vr_wasm_link.specs.Faults.{LinksTo, fault, none_at, told_by}
use Rattle.vr_wasm_link.specs.Opening.{Finds, Opening, callees, element_overruns, elements_fit, imports_found, index_or_fault, is_main, is_missing, least_size, main_of, opening_of, opening_with, segment_overruns, sizes_fit, within}

-- ---- one check after the other

-- a chain of checks that ends well has passed its first one
chained : {A B E : Type 0} (first : Result A E) (rest : A → Result B E) (y : B) → first >>= rest ≡ Ok y
    → (x : A) × (first ≡ Ok x) × (rest x ≡ Ok y)
chained (Ok x) rest y is = (x, refl, is)
chained (Err e) rest y is = let never : ⊥ = cc is in absurd never

none_found : (kind : LinkKind) (found : Option ℕ) (u : Unit {0}) → none_at kind found ≡ Ok u → found ≡ None
none_found kind None u is = refl
none_found kind (Some place) u is = let never : ⊥ = cc is in absurd never

small : (refused : LinkFault) (limit size : ℕ) (u : Unit {0}) (b : Bool) → nat_lt limit size ≡ b
    → within refused limit size ≡ Ok u → size ≤ limit
small refused limit size u true e is =
    let P : Bool → Type 0 = λ b. cond b (Err refused) (Ok tt) ≡ Ok u in
    let refuses : Err refused ≡ Ok u = subst P e is in
    let never : ⊥ = cc refuses in absurd never
small refused limit size u false e is = ltb-false limit size e

-- ---- where it begins

first_or_later : {X : Type 0} (p : X → Bool) (y : X) (ys : List X) (x : X) (b : Bool) → p y ≡ b
    → cond b (Some y) (find p ys) ≡ Some x → (find p ys ≡ Some x → p x ≡ true) → p x ≡ true
first_or_later p y ys x true e is later = let same : y ≡ x = cc is in ap p (sym same) ∙ e
first_or_later p y ys x false e is later = later is

pub found_passes : {X : Type 0} (p : X → Bool) (xs : List X) (x : X) → find p xs ≡ Some x → p x ≡ true
found_passes p [] x is = let never : ⊥ = cc is in absurd never
found_passes p (y ∷ ys) x is = first_or_later p y ys x (p y) refl is (λ later. found_passes p ys x later)

index_there : (o : Option Export) (main : ℕ) → index_or_fault o ≡ Ok main
    → (e : Export) × (o ≡ Some e) × (e.index ≡ main)
index_there None main is = let never : ⊥ = cc is in absurd never
index_there (Some e) main is = (e, refl, cc is)

-- ---- all checks

-- what is known of a module that has no link fault
pub record Passes (finds : Finds) (m : Module) (pages : ℕ) (o : Opening)
    : Type 0 where
  pub imports : position_from (is_missing finds m.types) 0 m.imports ≡ None
  pub export : Export
  pub is_main : is_main (callees finds m) export ≡ true
  pub memory : least_size m.memories ≤ pages
  pub table : least_size m.tables ≤ MAX_TABLE
  pub elements : position_from (element_overruns (global_values m.globals) (least_size m.tables)) 0 m.elements
      ≡ None
  pub segments : position_from (segment_overruns (global_values m.globals) (least_size m.memories * PAGE_SIZE)) 0
      m.segments ≡ None
  pub opens : o ≡ opening_with finds m pages export.index

pub record SizesFit (m : Module) (pages : ℕ) : Type 0 where
  pub memory : least_size m.memories ≤ pages
  pub table : least_size m.tables ≤ MAX_TABLE
  pub elements : position_from (element_overruns (global_values m.globals) (least_size m.tables)) 0 m.elements
      ≡ None
  pub segments : position_from (segment_overruns (global_values m.globals) (least_size m.memories * PAGE_SIZE)) 0
      m.segments ≡ None

sizes_passed : (m : Module) (pages : ℕ) (u : Unit {0}) → sizes_fit m pages ≡ Ok u → SizesFit m pages
sizes_passed m pages u is =
    let first = chained (within (fault kinds.Memory 0) pages (least_size m.memories)) _ u is in
    let second = chained (within (fault kinds.Table 0) MAX_TABLE (least_size m.tables)) _ u first.2 in
    let third = chained (elements_fit m) _ u second.2 in
    record {
      memory = small (fault kinds.Memory 0) pages (least_size m.memories) first.0
          (nat_lt pages (least_size m.memories)) refl first.1;
      table = small (fault kinds.Table 0) MAX_TABLE (least_size m.tables) second.0
          (nat_lt MAX_TABLE (least_size m.tables)) refl second.1;
      elements = none_found kinds.Element _ third.0 third.1;
      segments = none_found kinds.Data _ u third.2;
    }

pub passes : (finds : Finds) (m : Module) (pages : ℕ) (o : Opening)
    → opening_of finds m pages ≡ Ok o → Passes finds m pages o
passes finds m pages o is =
    let first = chained (imports_found finds m) _ o is in
    let second = chained (main_of (callees finds m) m.exports) _ o first.2 in
    let third = chained (sizes_fit m pages) _ o second.2 in
    let main = index_there (find (is_main (callees finds m)) m.exports) second.0 second.1 in
    let sizes = sizes_passed m pages third.0 third.1 in
    let same : opening_with finds m pages second.0 ≡ o = cc third.2 in
    record {
      imports = none_found kinds.Import _ first.0 first.1;
      export = main.0;
      is_main = found_passes (is_main (callees finds m)) m.exports main.0 main.1;
      memory = sizes.memory;
      table = sizes.table;
      elements = sizes.elements;
      segments = sizes.segments;
      opens = sym same ∙ ap (opening_with finds m pages) (sym main.2);
    }

-- ---- what a link fault tells

tells_itself : {A : Type 0} (kind : LinkKind) (index : ℕ) (answer : Result A LinkFault)
    → answer ≡ Err (fault kind index) → Tells (told_by kind index) answer
tells_itself kinds.Import index answer is = is
tells_itself kinds.NoStart index answer is = is
tells_itself kinds.Memory index answer is = is
tells_itself kinds.Table index answer is = is
tells_itself kinds.Element index answer is = is
tells_itself kinds.Data index answer is = is
tells_itself kinds.OutOfMemory index answer is = tt

-- the sizes don't fit, after all that is looked at before
pub sizes_refused : {A : Type 0} (r : Result A LinkFault) (view : A → Opening)
    (finds : Finds) (m : Module) (pages main : ℕ) (f : LinkFault) (u : Unit {0})
    → IsErrAnd r (λ e. e ≡ f) → imports_found finds m ≡ Ok u → main_of (callees finds m) m.exports ≡ Ok main
    → sizes_fit m pages ≡ Err f → LinksTo view r (opening_of finds m pages)
sizes_refused (Ok x) view finds m pages main f u is found begins refused = absurd is
sizes_refused (Err e) view finds m pages main f u is found begins refused =
    let answer : opening_of finds m pages ≡ Err f =
    ap (λ r. r >>= λ _. (main_of (callees finds m) m.exports >>= λ main. (sizes_fit m pages >>= λ _.
    Ok (opening_with finds m pages main)))) found
    ∙ ap (λ r. r >>= λ main. (sizes_fit m pages >>= λ _. Ok (opening_with finds m pages main))) begins
    ∙ ap (λ r. r >>= λ _. Ok (opening_with finds m pages main)) refused in
    tells_itself e.kind e.index (opening_of finds m pages) (answer ∙ ap Err (sym is))
