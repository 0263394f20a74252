-- The table, the memory and the globals before the first step.
use Rattle.std.proofs.Common.{◌≡◌, ℕ, suc, ◌+◌, ◌*◌, ◌%◌, ◌<◌, ◌≤◌, List, [], ◌∷◌, ◌++◌, Option, None, Some, Bool, true, false, length, map, take, drop, get_or, refl, sym, subst, ap, ◌∙◌, append_assoc, arith, drop-cons, length-append, length-drop}
use Rattle.std.specs.Prelude.{All, IfSome, ◌^◌, ℤ, pos, negsuc, fold, if◌then◌else◌, min, slice_set, unwrap_or}
use Rattle.std.specs.List.{position_from}
use Rattle.std.proofs.lemmas.Bool.{lt-ltb, ltb-false}
use Rattle.std.proofs.lemmas.List.{length-map, length-take, map-append, set_at, take_more}
use Rattle.std.proofs.lemmas.List.Elements.{All-append, All-drop, All-map, All-take}
use Rattle.std.proofs.lemmas.Nat.{mod_below, pow_pos}
use Rattle.std.proofs.Math.ListN.{length-replicate}
use Rattle.std.proofs.Math.Nat.{mul-mod_left}
use Rattle.vr_wasm_ast.specs.declared.instr.Instr.{Instr}
use Rattle.vr_wasm_ast.specs.declared.tree.Element.{Element}
use Rattle.vr_wasm_ast.specs.declared.tree.GlobalDef.{GlobalDef}
use Rattle.vr_wasm_ast.specs.declared.tree.GlobalType.{GlobalType}
use Rattle.vr_wasm_ast.specs.declared.tree.Limits.{Limits}
use Rattle.vr_wasm_ast.specs.declared.tree.Segment.{Segment}
use Rattle.vr_wasm_ast.specs.declared.tree.ValType.{ValType}
use Rattle.vr_wasm_ast.specs.declared.tree.ValType.TheVariants.{I32, I64}
use Rattle.vr_wasm_ast.specs.Instructions.{Instruction, i32_const, i64_const, instruction_of, instructions_of}
use Rattle.vr_wasm_num.specs.declared.memory.TheConstants.{PAGE_SIZE}
use Rattle.vr_wasm_num.specs.Memory.{Contents, IsPaged, with_piece}
use Rattle.vr_wasm_steps.specs.Store.{are_of, is_of}
use Rattle.vr_wasm_num.specs.Integers.{unsigned}
use Rattle.vr_wasm_valid.specs.declared.limits.TheConstants.{MOST_PAGES}
use Rattle.vr_wasm_valid.specs.Constant.{constant_type_of}
use Rattle.vr_wasm_valid.specs.Parts.{IsConstantExpression, MemoryFits}
use Rattle.vr_wasm_valid.proofs.ValidLemmas.{constant_of}
use Rattle.vr_wasm_link.specs.Constants.{constant_value, global_values, instruction_value}
use Rattle.vr_wasm_link.specs.Opening.{element_offset, least_size, most_pages, segment_offset, segment_overruns, with_element, with_segment, zeros}
use Rattle.vr_wasm_link.proofs.PlaceLemmas.{none_first}

-- ---- the table

-- one more function is put into the table
pub put_more : (old table : List (Option ℕ)) (start : ℕ) (functions : List ℕ) (i : ℕ) → i < length functions
    → start + length functions ≤ length old
    → table ≡ take start old ++ map Some (take i functions) ++ drop (start + i) old
    → slice_set table (start + i) (Some (get_or functions i 0))
    ≡ take start old ++ map Some (take (i + 1) functions) ++ drop (start + (i + 1)) old
put_more old table start functions i within fits so_far =
    let v : Option ℕ = Some (get_or functions i 0) in
    let before = take start old ++ map Some (take i functions) in
    let there : start + i < length old = omega arith in
    let front : length before ≡ start + i =
    simp (length-append, length-map, length-take) (omega arith) in
    let next : drop (start + i) old ≡ get_or old (start + i) None ∷ drop (suc (start + i)) old =
    drop-cons old (start + i) None there in
    let place : suc (start + i) ≡ start + (i + 1) = omega arith in
    let more : map Some (take (i + 1) functions) ≡ map Some (take i functions) ++ v ∷ [] =
    ap (map Some) (take_more functions i 0 within) ∙ map-append Some (take i functions) (get_or functions i 0 ∷ []) in
    ap (λ t. slice_set t (start + i) v) (so_far ∙ ap (λ rest. before ++ rest) next)
    ∙ set_at before (get_or old (start + i) None) (drop (suc (start + i)) old) v (start + i) front
    ∙ ap (λ n. before ++ v ∷ drop n old) place
    ∙ sym (append_assoc before (v ∷ []) (drop (start + (i + 1)) old))
    ∙ ap (λ ys. ys ++ drop (start + (i + 1)) old) (append_assoc (take start old) (map Some (take i functions)) (v ∷ []))
    ∙ ap (λ ys. take start old ++ ys ++ drop (start + (i + 1)) old) (sym more)

-- what holds of no entry and of each function of the segments holds of each entry after they are written
pub table_fits : (n : ℕ) (globals : List ℕ) (elements : List Element) (table : List (Option ℕ))
    → All (λ (entry : Option ℕ). IfSome entry (λ f. f < n)) table
    → All (λ (e : Element). All (λ f. f < n) e.functions) elements
    → All (λ (entry : Option ℕ). IfSome entry (λ f. f < n)) (fold (with_element globals) table elements)
table_fits n globals [] table fit each = fit
table_fits n globals (e ∷ es) table fit each =
    let P : Option ℕ → Type 0 = λ entry. IfSome entry (λ f. f < n) in
    let at = element_offset globals e in
    let after = at + length e.functions in
    let written = All-append P (take at table ++ map Some e.functions) (drop after table)
    (All-append P (take at table) (map Some e.functions) (All-take P at table fit)
    (All-map P (λ (f : ℕ). Some f) e.functions (each 0 e (omega arith))))
    (All-drop P after table fit) in
    table_fits n globals es (with_element globals table e) written (λ k d within. each (suc k) d (omega arith))

-- ---- the memory

piece_size : (m : Contents) (at : ℕ) (piece : List ℕ) → at + length piece ≤ length m.bytes
    → length (with_piece m at piece).bytes ≡ length m.bytes
piece_size m at piece fits = simp (length-append, length-take, length-drop) (omega arith)

-- the segments that fit change neither the size nor the most pages
pub segments_written : (globals : List ℕ) (size : ℕ) (segments : List Segment) (from : ℕ) (memory : Contents)
    → position_from (segment_overruns globals size) from segments ≡ None → length memory.bytes ≡ size
    → (length (fold (with_segment globals) memory segments).bytes ≡ size)
    × ((fold (with_segment globals) memory segments).most ≡ memory.most)
segments_written globals size [] from memory none same = (same, refl)
segments_written globals size (s ∷ ss) from memory none same =
    let parts = none_first (segment_overruns globals size) s ss from (segment_overruns globals size s) refl none in
    let at = segment_offset globals s in
    let fits = ltb-false size (at + length s.bytes) parts.0 in
    let within : at + length s.bytes ≤ length memory.bytes = omega arith in
    segments_written globals size ss (from + 1) (with_segment globals memory s) parts.1
    (piece_size memory at s.bytes within ∙ same)

-- the memory has whole pages, and no more than it may have
pub memory_paged : (globals : List ℕ) (segments : List Segment) (least most : ℕ)
    → position_from (segment_overruns globals (least * PAGE_SIZE)) 0 segments ≡ None → least ≤ most
    → most ≤ 1024 → IsPaged (fold (with_segment globals) (zeros least most) segments)
memory_paged globals segments least most none fits few =
    let w = segments_written globals (least * PAGE_SIZE) segments 0 (zeros least most) none
    (length-replicate (least * PAGE_SIZE) 0) in
    record {
      pages = ap (λ n. n % PAGE_SIZE) w.0 ∙ mul-mod_left least PAGE_SIZE;
      within = omega (arith, w.0, w.1);
      few = omega (arith, w.1);
    }

least_below : (least pages : ℕ) (most : Option ℕ) → least ≤ pages
    → IfSome most (λ n. (least ≤ n) × (n ≤ MOST_PAGES)) → least ≤ min pages (unwrap_or most pages)
least_below least pages None small fits = omega arith
least_below least pages (Some n) small fits = omega (arith, fits.0)

-- the least size is no more than the most pages, and these are no more than the run's
pub least_fits : (pages : ℕ) (memories : List Limits) → least_size memories ≤ pages → All MemoryFits memories
    → least_size memories ≤ most_pages pages memories
least_fits pages [] small fit = omega arith
least_fits pages (l ∷ ls) small fit = least_below l.min pages l.max small (fit 0 l (omega arith)).1

pub most_few : (pages : ℕ) (memories : List Limits) → most_pages pages memories ≤ pages
most_few pages [] = omega arith
most_few pages (l ∷ ls) = omega arith

-- ---- the globals

unsigned_below : (n : ℕ) (z : ℤ) → unsigned n z < 2 ^ n
unsigned_below n (pos i) = mod_below i (2 ^ n) (pow_pos n)
unsigned_below n (negsuc i) = let positive : 0 < 2 ^ n = pow_pos n in omega arith

-- the value of a constant is a number of its type
value_typed : (wanted : ValType) (i : Instruction) → constant_type_of [] i ≡ Some wanted
    → is_of wanted (instruction_value [] i) ≡ true
value_typed wanted (i32_const z) is =
    let same : I32 ≡ wanted = cc is in
    let P : ValType → Type 0 = λ t. is_of t (unsigned 32 z) ≡ true in
    subst P same (lt-ltb (unsigned 32 z) (2 ^ 32) (unsigned_below 32 z))
value_typed wanted (i64_const z) is =
    let same : I64 ≡ wanted = cc is in
    let P : ValType → Type 0 = λ t. is_of t (unsigned 64 z) ≡ true in
    subst P same (lt-ltb (unsigned 64 z) (2 ^ 64) (unsigned_below 64 z))
value_typed wanted i is = let never : ⊥ = cc is in absurd never

both_of : (t : ValType) (ts : List ValType) (v : ℕ) (vs : List ℕ) → is_of t v ≡ true → are_of ts vs ≡ true
    → are_of (t ∷ ts) (v ∷ vs) ≡ true
both_of t ts v vs first rest =
    let P : Bool → Type 0 = λ b. (if b then are_of ts vs else false) ≡ true in subst P (sym first) rest

-- each global has a number of its type
pub globals_typed : (globals : List GlobalDef)
    → All (λ (g : GlobalDef). IsConstantExpression [] g.sort.value (instructions_of g.init)) globals
    → are_of (map (λ (g : GlobalType). g.value) (map (λ (g : GlobalDef). g.sort) globals)) (global_values globals)
    ≡ true
globals_typed [] fit = refl
globals_typed (g ∷ gs) fit =
    let one = constant_of [] g.sort.value g.init (fit 0 g (omega arith)) in
    let value = ap (λ (is : List Instr). is_of g.sort.value (constant_value [] (instructions_of is))) one.1 in
    both_of g.sort.value (map (λ (h : GlobalType). h.value) (map (λ (h : GlobalDef). h.sort) gs))
    (constant_value [] (instructions_of g.init)) (global_values gs)
    (value ∙ value_typed g.sort.value (instruction_of one.0) one.2)
    (globals_typed gs (λ k d within. fit (suc k) d (omega arith)))
