-- A module that bytes spell meets the limits.
use Rattle.std.proofs.Common.{◌≡◌, ℕ, zero, suc, ◌+◌, ◌-◌, ◌<◌, ◌≤◌, Bool, true, false, cond, eqb, List, [], ◌∷◌, length, replicate, Option, Some, None, inl, inr, refl, sym, ap, subst, ◌∙◌, arith, length-append}
use Rattle.std.specs.Prelude.{is_some}
use Rattle.std.specs.List.{AllByRecursion, cons_option, sum_by}
use Rattle.std.proofs.Math.ListN.{length-replicate}
use Rattle.std.proofs.lemmas.List.Elements.{All-from_recursion}
use Rattle.std.proofs.lemmas.List.Concat.{flat_map-cons}
use Rattle.std.proofs.lemmas.List.Sums.{sum_by-cons}
use Rattle.vr_wasm_ast.specs.declared.instr.Instr.{Instr}
use Rattle.vr_wasm_ast.specs.declared.instr.Instr.TheVariants.{MemoryCopy, MemoryFill, Unreachable, Nop, Block, Loop, If, Br, BrIf, BrTable, Return, Call, CallIndirect, Drop, Select, LocalGet, LocalSet, LocalTee, GlobalGet, GlobalSet, Load, Store, MemorySize, MemoryGrow, I32Const, I64Const, Numeric}
use Rattle.vr_wasm_ast.specs.declared.tree.ValType.{ValType}
use Rattle.vr_wasm_ast.specs.declared.tree.FuncType.{FuncType}
use Rattle.vr_wasm_ast.specs.declared.tree.GlobalDef.{GlobalDef}
use Rattle.vr_wasm_ast.specs.declared.tree.Import.{Import}
use Rattle.vr_wasm_ast.specs.declared.tree.Element.{Element}
use Rattle.vr_wasm_ast.specs.declared.tree.Code.{Code}
use Rattle.vr_wasm_ast.specs.declared.tree.Segment.{Segment}
use Rattle.vr_wasm_ast.specs.declared.tree.Module.{Module}
use Rattle.vr_wasm_ast.specs.declared.sections.Progress.{Progress}
use Rattle.vr_wasm_ast.specs.declared.sections.Section.{Section}
use Rattle.vr_wasm_ast.specs.declared.sections.Section.TheVariants.{Types, Imports, Functions, Tables, Memories, Globals, Exports, Start, Elements, DataCount, Codes, Segments}
use Rattle.vr_wasm_ast.specs.Instructions.{Instruction, Instructions, instruction_of, instructions_of}
use Rattle.vr_wasm_ast.specs.Instructions as data_of
use Rattle.vr_wasm_ast.specs.Opcodes.{load_of, store_of, numeric_of}
use Rattle.vr_wasm_ast.specs.Bytes.{end_byte}
use Rattle.vr_wasm_ast.specs.Forms.{Form, then_nothing, then_zero, then_index, then_labels, then_type, then_access, then_s32, then_s64, then_number, form_of, when}
use Rattle.vr_wasm_ast.specs.Sections.{rank_of}
use Rattle.vr_wasm_ast.specs.Imports.{imported_functions, function_of}
use Rattle.vr_wasm_ast.specs.Limits.{most_items, most_params, most_results, most_locals, nesting, nesting_of, TablesWithin, TableWithin, CodeWithin, TypeWithin, GlobalWithin, ElementWithin, BodyWithin, SegmentWithin, MeetsLimits, HasCodeForEach}
use Rattle.vr_wasm_ast.specs.Grammar.{gives, byte_then, many}
use Rattle.vr_wasm_ast.specs.Modules as grammar
use Rattle.vr_wasm_ast.specs.Modules.{Spells, nothing, plain, block, loop, if_only, if_else, IsSections, none, left_out, next, IsModule, imported_count, each_local, empty_module}
use Rattle.vr_wasm_ast.proofs.InstructionLemmas as lemmas

-- ---- vectors

many_length : {A : Type 0} (R : List ℕ → A → Type 0) (n : ℕ) (text : List ℕ) (items : List A) → many n R text items → length items ≡ n
many_length R zero text items h = ap length h.1
many_length R (suc n) text items h =
    let o = h.second in
    ap length o.second.1 ∙ ap suc (many_length R n o.prefix o.value o.first)

many_all : {A : Type 0} (R : List ℕ → A → Type 0) (P : A → Type 0) → ((text : List ℕ) (a : A) → R text a → P a) → (n : ℕ) (text : List ℕ) (items : List A) → many n R text items → AllByRecursion P items
many_all R P each zero text items h = subst (λ (xs : List _). AllByRecursion P xs) (sym h.1) tt
many_all R P each (suc n) text items h =
    let o = h.second in
    subst (λ (xs : List _). AllByRecursion P xs) (sym o.second.1) (each h.prefix h.value h.first, many_all R P each n o.prefix o.value o.first)

-- a count is at most its limit
counted : (limit : ℕ) (text : List ℕ) (n : ℕ) → grammar.count limit text n → n ≤ limit
counted limit text n h = subst (λ (k : ℕ). k ≤ limit) (sym h.second.1.1) h.second.0

vector_length : {A : Type 0} (R : List ℕ → A → Type 0) (limit : ℕ) (text : List ℕ) (items : List A) → grammar.vector limit R text items → length items ≤ limit
vector_length R limit text items h = omega (arith, many_length R h.value h.suffix items h.second, counted limit h.prefix h.value h.first)

vector_all : {A : Type 0} (R : List ℕ → A → Type 0) (P : A → Type 0) → ((text : List ℕ) (a : A) → R text a → P a) → (limit : ℕ) (text : List ℕ) (items : List A) → grammar.vector limit R text items → AllByRecursion P items
vector_all R P each limit text items h = many_all R P each h.value h.suffix items h.second

-- ---- instructions

-- it has no block in it, and its table is within the limit
Flat : Instr → Type 0
Flat i = (nesting_of (instruction_of i) ≡ 0) × TableWithin most_items (instruction_of i)

flat : (i : Instr) (c : Instruction) → instruction_of i ≡ c → nesting_of c ≡ 0 → TableWithin most_items c → Flat i
unfolding Flat
flat i c e no_block table = (ap nesting_of e ∙ no_block, subst (λ (d : Instruction). TableWithin most_items d) (sym e) table)

FlatForm : Form → Type 0
FlatForm (then_nothing i) = Flat i
FlatForm (then_zero i) = Flat i
FlatForm (then_index f) = (n : ℕ) → Flat (f n)
FlatForm then_labels = Unit {0}
FlatForm then_type = Unit {0}
FlatForm (then_access f) = (a b : ℕ) → Flat (f a b)
FlatForm then_s32 = Unit {0}
FlatForm then_s64 = Unit {0}
FlatForm then_number = Unit {0}

zero_is : {A : Type 0} (i : A) (text : List ℕ) (a : A) → grammar.zero_byte i text a → a ≡ i
zero_is i [] a h = absurd h
zero_is i (b ∷ text) a h = h.1.1

range_flat : (n : ℕ) (text : List ℕ) (i : Instr) → grammar.range_operands n text i → Flat i
range_flat n [] i (inl h) = absurd h.1
range_flat n (b ∷ text) i (inl h) = subst Flat (sym (zero_is MemoryCopy text i h.1.1)) (flat MemoryCopy data_of.memory_copy lemmas.instruction_of-MemoryCopy refl tt)
range_flat n text i (inr h) = subst Flat (sym (zero_is MemoryFill text i h.1)) (flat MemoryFill data_of.memory_fill lemmas.instruction_of-MemoryFill refl tt)

operands_flat : (form : Form) → FlatForm form → (text : List ℕ) (i : Instr) → grammar.operands form text i → Flat i
unfolding FlatForm
operands_flat (then_nothing j) f text i h = subst Flat (sym h.1) f
operands_flat (then_zero j) f text i h = subst Flat (sym (zero_is j text i h)) f
operands_flat (then_index g) f text i h = subst Flat (sym h.second.1) (f h.value)
operands_flat then_labels f text i h =
    let o = h.second in
    subst Flat (sym o.second.1) (flat (BrTable h.value o.value) (data_of.br_table h.value o.value) (lemmas.instruction_of-BrTable h.value o.value) refl (vector_length grammar.u32 most_items h.prefix h.value h.first))
operands_flat then_type f text i h =
    subst Flat (sym (zero_is (CallIndirect h.value) h.suffix i h.second)) (flat (CallIndirect h.value) (data_of.call_indirect h.value) (lemmas.instruction_of-CallIndirect h.value) refl tt)
operands_flat (then_access g) f text i h = let o = h.second in subst Flat (sym o.second.1) (f h.value o.value)
operands_flat then_s32 f text i h = subst Flat (sym h.second.1) (flat (I32Const h.value) (data_of.i32_const h.value) (lemmas.instruction_of-I32Const h.value) refl tt)
operands_flat then_s64 f text i h = subst Flat (sym h.second.1) (flat (I64Const h.value) (data_of.i64_const h.value) (lemmas.instruction_of-I64Const h.value) refl tt)
operands_flat then_number f text i h = range_flat h.value h.suffix i h.second

-- a form, if there is one, is flat
record FlatIf (o : Option Form) : Type 0 where
  each : (form : Form) → o ≡ Some form → FlatForm form

some_flat : (form : Form) → FlatForm form → FlatIf (Some form)
some_flat form f = record { each = λ g e. subst FlatForm (let same : form ≡ g = cc in same) f }

none_flat : FlatIf None
none_flat = record { each = λ g e. absurd cc }

either_flat : {x y : Option Form} (b : Bool) → FlatIf x → FlatIf y → FlatIf (cond b x y)
either_flat true p q = p
either_flat false p q = q

when_flat : (b : Bool) (form : Form) → FlatForm form → FlatIf (when b form)
when_flat true form f = some_flat form f
when_flat false form f = none_flat

form_flat : (op : ℕ) → FlatIf (form_of op)
unfolding FlatForm
form_flat op =
    either_flat (eqb op 0x00) (some_flat (then_nothing Unreachable) (flat Unreachable data_of.unreachable lemmas.instruction_of-Unreachable refl tt)) (
    either_flat (eqb op 0x01) (some_flat (then_nothing Nop) (flat Nop data_of.nop lemmas.instruction_of-Nop refl tt)) (
    either_flat (eqb op 0x0c) (some_flat (then_index Br) (λ n. flat (Br n) (data_of.br n) (lemmas.instruction_of-Br n) refl tt)) (
    either_flat (eqb op 0x0d) (some_flat (then_index BrIf) (λ n. flat (BrIf n) (data_of.br_if n) (lemmas.instruction_of-BrIf n) refl tt)) (
    either_flat (eqb op 0x0e) (some_flat (then_labels) (tt)) (
    either_flat (eqb op 0x0f) (some_flat (then_nothing Return) (flat Return data_of.return_ lemmas.instruction_of-Return refl tt)) (
    either_flat (eqb op 0x10) (some_flat (then_index Call) (λ n. flat (Call n) (data_of.call n) (lemmas.instruction_of-Call n) refl tt)) (
    either_flat (eqb op 0x11) (some_flat (then_type) (tt)) (
    either_flat (eqb op 0x1a) (some_flat (then_nothing Drop) (flat Drop data_of.drop lemmas.instruction_of-Drop refl tt)) (
    either_flat (eqb op 0x1b) (some_flat (then_nothing Select) (flat Select data_of.select lemmas.instruction_of-Select refl tt)) (
    either_flat (eqb op 0x20) (some_flat (then_index LocalGet) (λ n. flat (LocalGet n) (data_of.local_get n) (lemmas.instruction_of-LocalGet n) refl tt)) (
    either_flat (eqb op 0x21) (some_flat (then_index LocalSet) (λ n. flat (LocalSet n) (data_of.local_set n) (lemmas.instruction_of-LocalSet n) refl tt)) (
    either_flat (eqb op 0x22) (some_flat (then_index LocalTee) (λ n. flat (LocalTee n) (data_of.local_tee n) (lemmas.instruction_of-LocalTee n) refl tt)) (
    either_flat (eqb op 0x23) (some_flat (then_index GlobalGet) (λ n. flat (GlobalGet n) (data_of.global_get n) (lemmas.instruction_of-GlobalGet n) refl tt)) (
    either_flat (eqb op 0x24) (some_flat (then_index GlobalSet) (λ n. flat (GlobalSet n) (data_of.global_set n) (lemmas.instruction_of-GlobalSet n) refl tt)) (
    either_flat (eqb op 0x3f) (some_flat (then_zero MemorySize) (flat MemorySize data_of.memory_size lemmas.instruction_of-MemorySize refl tt)) (
    either_flat (eqb op 0x40) (some_flat (then_zero MemoryGrow) (flat MemoryGrow data_of.memory_grow lemmas.instruction_of-MemoryGrow refl tt)) (
    either_flat (eqb op 0x41) (some_flat (then_s32) (tt)) (
    either_flat (eqb op 0x42) (some_flat (then_s64) (tt)) (
    either_flat (eqb op 0xfc) (some_flat (then_number) (tt)) (
    either_flat (is_some (load_of op)) (some_flat (then_access (Load op)) (λ a b. flat (Load op a b) (data_of.load op a b) (lemmas.instruction_of-Load op a b) refl tt)) (
    either_flat (is_some (store_of op)) (some_flat (then_access (Store op)) (λ a b. flat (Store op a b) (data_of.store op a b) (lemmas.instruction_of-Store op a b) refl tt))
    (when_flat (is_some (numeric_of op)) (then_nothing (Numeric op)) (flat (Numeric op) (data_of.numeric op) (lemmas.instruction_of-Numeric op) refl tt)))))))))))))))))))))))

-- instructions nest no deeper, and their tables are within the limit
Within : ℕ → Instructions → Type 0
Within deep is = (nesting is ≤ deep) × TablesWithin most_items is

within_then : (deep : ℕ) (i : Instr) (c : Instruction) (is : Instructions) → instruction_of i ≡ c → nesting_of c ≤ deep → TableWithin most_items c → Within deep is → Within deep (data_of.then (instruction_of i) is)
unfolding Within
within_then deep i c is e few table h =
    let one : nesting_of (instruction_of i) ≤ deep = subst (λ (d : Instruction). nesting_of d ≤ deep) (sym e) few in
    (omega (arith, one, h.0), (subst (λ (d : Instruction). TableWithin most_items d) (sym e) table, h.1))

spelled_within : {deep : ℕ} {text : List ℕ} {is : List Instr} → Spells deep text is → Within deep (instructions_of is)
unfolding Within Flat
spelled_within nothing = (omega arith, tt)
spelled_within (plain {deep = deep} {op = op} {form = form} text others {i = i} {is = is} e h s) =
    let f = operands_flat form ((form_flat op).each form e) text i h in
    within_then deep i (instruction_of i) (instructions_of is) refl (omega (arith, f.0)) f.1 (spelled_within s)
spelled_within (block {deep = deep} sort inner others t body is typed b s) =
    let w = spelled_within b in
    within_then (suc deep) (Block t body) (data_of.block t (instructions_of body)) (instructions_of is) (lemmas.instruction_of-Block t body) (omega (arith, w.0)) w.1 (spelled_within s)
spelled_within (loop {deep = deep} sort inner others t body is typed b s) =
    let w = spelled_within b in
    within_then (suc deep) (Loop t body) (data_of.loop t (instructions_of body)) (instructions_of is) (lemmas.instruction_of-Loop t body) (omega (arith, w.0)) w.1 (spelled_within s)
spelled_within (if_only {deep = deep} sort inner others t body is typed b s) =
    let w = spelled_within b in
    within_then (suc deep) (If t body []) (data_of.if_ t (instructions_of body) (instructions_of [])) (instructions_of is) (lemmas.instruction_of-If t body []) (omega (arith, w.0)) (w.1, tt) (spelled_within s)
spelled_within (if_else {deep = deep} sort inner second others t body branch is typed b o s) =
    let w = spelled_within b in
    let v = spelled_within o in
    within_then (suc deep) (If t body branch) (data_of.if_ t (instructions_of body) (instructions_of branch)) (instructions_of is) (lemmas.instruction_of-If t body branch) (omega (arith, w.0, v.0)) (w.1, v.1) (spelled_within s)

last_is : (is : List Instr) (text : List ℕ) (a : List Instr) → byte_then end_byte (gives is) text a → a ≡ is
last_is is [] a h = absurd h
last_is is (b ∷ text) a h = h.1.1

expression_within : (text : List ℕ) (is : List Instr) → grammar.expression text is → CodeWithin is
unfolding Within
expression_within text is h = subst CodeWithin (sym (last_is h.value h.suffix is h.second)) (spelled_within h.first)

-- ---- parts

type_within : (text : List ℕ) (t : FuncType) → grammar.func_type text t → TypeWithin t
type_within [] t h = absurd h
type_within (b ∷ text) t h =
    let s = h.1 in
    let r = s.second in
    subst TypeWithin (sym r.second.1) (vector_length grammar.val_type most_params s.prefix s.value s.first, vector_length grammar.val_type most_results r.prefix r.value r.first)

global_within : (text : List ℕ) (g : GlobalDef) → grammar.global text g → GlobalWithin g
global_within text g h = let s = h.second in subst GlobalWithin (sym s.second.1) (expression_within s.prefix s.value s.first)

element_within : (text : List ℕ) (e : Element) → grammar.element text e → ElementWithin e
element_within text e h =
    let o = h.second in
    let f = o.second in
    subst ElementWithin (sym f.second.1) (expression_within o.prefix o.value o.first, vector_length grammar.u32 most_items f.prefix f.value f.first)

segment_within : (text : List ℕ) (d : Segment) → grammar.segment text d → SegmentWithin d
segment_within text d h = let o = h.second in subst SegmentWithin (sym o.second.second.1) (expression_within o.prefix o.value o.first)

locals_length : (groups : List (ℕ × ValType)) → length (each_local groups) ≡ sum_by (λ (g : ℕ × ValType). g.0) groups
locals_length [] = refl
locals_length (g ∷ groups) =
    let one = flat_map-cons (λ (g : ℕ × ValType). replicate g.0 g.1) g groups in
    omega (arith, ap length one, length-append (replicate g.0 g.1) (each_local groups), length-replicate g.0 g.1, locals_length groups, sum_by-cons (λ (g : ℕ × ValType). g.0) g groups)

locals_within : (text : List ℕ) (ts : List ValType) → grammar.locals text ts → length ts ≤ most_locals
locals_within text ts h = omega (arith, ap length h.second.1.1, locals_length h.value, h.second.0)

body_within : (text : List ℕ) (c : Code) → grammar.in_contents grammar.function_body text c → BodyWithin c
body_within text c h =
    let b = h.second.1 in
    let e = b.second in
    subst BodyWithin (sym e.second.1) (locals_within b.prefix b.value b.first, expression_within e.prefix e.value e.first)

-- ---- sections

at_most_one : (o : Option ℕ) (xs : List ℕ) → length (cons_option o xs) ≤ suc (length xs)
at_most_one None xs = omega arith
at_most_one (Some x) xs = omega arith

few_imported : (imports : List Import) → length (imported_functions imports) ≤ length imports
few_imported [] = omega arith
few_imported (i ∷ imports) = omega (arith, at_most_one (function_of i.what) (imported_functions imports), few_imported imports)

-- the module so far is within the limits; before the third section it has no functions of its own
record Fine (last : ℕ) (m : Module) : Type 0 where
  types : (length m.types ≤ most_items) × AllByRecursion TypeWithin m.types
  functions : (length m.imports ≤ most_items) × (imported_count m + length m.functions ≤ most_items)
  tables : length m.tables ≤ most_items
  memories : length m.memories ≤ most_items
  globals : (length m.globals ≤ most_items) × AllByRecursion GlobalWithin m.globals
  exports : length m.exports ≤ most_items
  elements : (length m.elements ≤ most_items) × AllByRecursion ElementWithin m.elements
  codes : (length m.codes ≤ most_items) × AllByRecursion BodyWithin m.codes
  segments : (length m.segments ≤ most_items) × AllByRecursion SegmentWithin m.segments
  early : last < 3 → length m.functions ≡ 0

few_codes : (m : Module) → imported_count m + length m.functions ≤ most_items → (text : List ℕ) (cs : List Code) → grammar.codes (length m.functions) text cs → length cs ≤ most_items
few_codes m few text cs h = omega (arith, few, many_length (grammar.in_contents grammar.function_body) h.value h.suffix cs h.second.1, h.second.0)

codes_within : (m : Module) (text : List ℕ) (cs : List Code) → grammar.codes (length m.functions) text cs → AllByRecursion BodyWithin cs
codes_within m text cs h = many_all (grammar.in_contents grammar.function_body) BodyWithin body_within h.value h.suffix cs h.second.1

few_segments : (told : Option ℕ) (text : List ℕ) (ds : List Segment) → grammar.segments told text ds → length ds ≤ most_items
few_segments told text ds h = omega (arith, many_length grammar.segment h.value h.suffix ds h.second.1.1, h.second.1.0)

segments_within : (told : Option ℕ) (text : List ℕ) (ds : List Segment) → grammar.segments told text ds → AllByRecursion SegmentWithin ds
segments_within told text ds h = many_all grammar.segment SegmentWithin segment_within h.value h.suffix ds h.second.1.1

-- what a section gives is fine where its module is
by_tree : (rank : ℕ) (q : Progress) (p : Progress) → q ≡ p → Fine rank p.tree → Fine rank q.tree
by_tree rank q p e f = subst (λ (r : Progress). Fine rank r.tree) (sym e) f

section_keeps : (s : Section) (last : ℕ) (p q : Progress) (text : List ℕ) → last < rank_of s → Fine last p.tree → grammar.section p s text q → Fine (rank_of s) q.tree
section_keeps Types last p q text lt f h =
    by_tree 1 q _ h.second.1 (record { types = (vector_length grammar.func_type most_items h.prefix h.value h.first, vector_all grammar.func_type TypeWithin type_within most_items h.prefix h.value h.first); functions = f.functions; tables = f.tables; memories = f.memories; globals = f.globals; exports = f.exports; elements = f.elements; codes = f.codes; segments = f.segments; early = λ small. f.early (omega (arith, lt)) })
section_keeps Imports last p q text lt f h =
    by_tree 2 q _ h.second.1 (record { types = f.types; functions = (vector_length grammar.import most_items h.prefix h.value h.first, omega (arith, few_imported h.value, vector_length grammar.import most_items h.prefix h.value h.first, f.early (omega (arith, lt)))); tables = f.tables; memories = f.memories; globals = f.globals; exports = f.exports; elements = f.elements; codes = f.codes; segments = f.segments; early = λ small. f.early (omega (arith, lt)) })
section_keeps Functions last p q text lt f h =
    by_tree 3 q _ h.second.1 (record { types = f.types; functions = (f.functions.0, omega (arith, few_imported p.tree.imports, f.functions.0, vector_length grammar.u32 (most_items - imported_count p.tree) h.prefix h.value h.first)); tables = f.tables; memories = f.memories; globals = f.globals; exports = f.exports; elements = f.elements; codes = f.codes; segments = f.segments; early = λ small. absurd (omega (arith, small)) })
section_keeps Tables last p q text lt f h =
    by_tree 4 q _ h.second.1 (record { types = f.types; functions = f.functions; tables = vector_length grammar.table_type most_items h.prefix h.value h.first; memories = f.memories; globals = f.globals; exports = f.exports; elements = f.elements; codes = f.codes; segments = f.segments; early = λ small. absurd (omega (arith, small)) })
section_keeps Memories last p q text lt f h =
    by_tree 5 q _ h.second.1 (record { types = f.types; functions = f.functions; tables = f.tables; memories = vector_length grammar.limits most_items h.prefix h.value h.first; globals = f.globals; exports = f.exports; elements = f.elements; codes = f.codes; segments = f.segments; early = λ small. absurd (omega (arith, small)) })
section_keeps Globals last p q text lt f h =
    by_tree 6 q _ h.second.1 (record { types = f.types; functions = f.functions; tables = f.tables; memories = f.memories; globals = (vector_length grammar.global most_items h.prefix h.value h.first, vector_all grammar.global GlobalWithin global_within most_items h.prefix h.value h.first); exports = f.exports; elements = f.elements; codes = f.codes; segments = f.segments; early = λ small. absurd (omega (arith, small)) })
section_keeps Exports last p q text lt f h =
    by_tree 7 q _ h.second.1 (record { types = f.types; functions = f.functions; tables = f.tables; memories = f.memories; globals = f.globals; exports = vector_length grammar.export most_items h.prefix h.value h.first; elements = f.elements; codes = f.codes; segments = f.segments; early = λ small. absurd (omega (arith, small)) })
section_keeps Start last p q text lt f h =
    by_tree 8 q _ h.second.1 (record { types = f.types; functions = f.functions; tables = f.tables; memories = f.memories; globals = f.globals; exports = f.exports; elements = f.elements; codes = f.codes; segments = f.segments; early = λ small. absurd (omega (arith, small)) })
section_keeps Elements last p q text lt f h =
    by_tree 9 q _ h.second.1 (record { types = f.types; functions = f.functions; tables = f.tables; memories = f.memories; globals = f.globals; exports = f.exports; elements = (vector_length grammar.element most_items h.prefix h.value h.first, vector_all grammar.element ElementWithin element_within most_items h.prefix h.value h.first); codes = f.codes; segments = f.segments; early = λ small. absurd (omega (arith, small)) })
section_keeps DataCount last p q text lt f h =
    by_tree 10 q _ h.second.1 (record { types = f.types; functions = f.functions; tables = f.tables; memories = f.memories; globals = f.globals; exports = f.exports; elements = f.elements; codes = f.codes; segments = f.segments; early = λ small. absurd (omega (arith, small)) })
section_keeps Codes last p q text lt f h =
    by_tree 11 q _ h.second.1 (record { types = f.types; functions = f.functions; tables = f.tables; memories = f.memories; globals = f.globals; exports = f.exports; elements = f.elements; codes = (few_codes p.tree f.functions.1 h.prefix h.value h.first, codes_within p.tree h.prefix h.value h.first); segments = f.segments; early = λ small. absurd (omega (arith, small)) })
section_keeps Segments last p q text lt f h =
    by_tree 12 q _ h.second.1 (record { types = f.types; functions = f.functions; tables = f.tables; memories = f.memories; globals = f.globals; exports = f.exports; elements = f.elements; codes = f.codes; segments = (few_segments p.data_count h.prefix h.value h.first, segments_within p.data_count h.prefix h.value h.first); early = λ small. absurd (omega (arith, small)) })

-- the whole module is within the limits, and complete
record Whole (m : Module) : Type 0 where
  end : ℕ
  fine : Fine end m
  coded : HasCodeForEach m

sections_keep : {last : ℕ} {p : Progress} {text : List ℕ} {m : Module} → IsSections last p text m → Fine last p.tree → Whole m
sections_keep (none {last = last} complete) f = record { end = last; fine = f; coded = complete.0 }
sections_keep (left_out text bytes any h s) f = sections_keep s f
sections_keep (next {last = last} {s = s} {p = p} {q = q} text bytes is later h others) f = sections_keep others (section_keeps s last p q h.suffix later f h.second.1)

empty_fine : Fine 0 empty_module
empty_fine = record { types = (omega arith, tt); functions = (omega arith, omega arith); tables = omega arith; memories = omega arith; globals = (omega arith, tt); exports = omega arith; elements = (omega arith, tt); codes = (omega arith, tt); segments = (omega arith, tt); early = λ small. refl }

pub meets_limits : (text : List ℕ) (m : Module) → IsModule text m → MeetsLimits m
meets_limits text m h =
    let f = (sections_keep h.sections empty_fine).fine in
    record {
      types = f.types.0;
      imports = f.functions.0;
      functions = f.functions.1;
      tables = f.tables;
      memories = f.memories;
      globals = f.globals.0;
      exports = f.exports;
      elements = f.elements.0;
      codes = f.codes.0;
      segments = f.segments.0;
      each_type = All-from_recursion TypeWithin m.types f.types.1;
      each_global = All-from_recursion GlobalWithin m.globals f.globals.1;
      each_element = All-from_recursion ElementWithin m.elements f.elements.1;
      each_body = All-from_recursion BodyWithin m.codes f.codes.1;
      each_segment = All-from_recursion SegmentWithin m.segments f.segments.1;
    }

pub has_codes : (text : List ℕ) (m : Module) → IsModule text m → HasCodeForEach m
has_codes text m h = (sections_keep h.sections empty_fine).coded
