-- Sections: what is read is so spelled, and what is so spelled is read.
use Rattle.std.proofs.Common.{◌≡◌, ℕ, zero, suc, ◌+◌, ◌-◌, ◌<◌, ◌≤◌, Bool, true, false, cond, eqb, leb, List, [], ◌∷◌, ◌++◌, length, Option, Some, None, Result, Ok, Err, ◌⊎◌, inl, inr, refl, sym, ap, subst, ◌∙◌, arith, length-append, eq-eqb}
use Rattle.std.specs.Prelude.{◌&&◌}
use Rattle.std.proofs.lemmas.Bool.{eqb-true, leb-true, leb-false}
use Rattle.std.proofs.lemmas.List.{append-nil}
use Rattle.vr_wasm_ast.specs.declared.tree.Module.{Module}
use Rattle.vr_wasm_ast.specs.declared.sections.Progress.{Progress}
use Rattle.vr_wasm_ast.specs.declared.sections.Section.{Section}
use Rattle.vr_wasm_ast.specs.declared.sections.Section.TheVariants.{Types, Imports, Functions, Tables, Memories, Globals, Exports, Start, Elements, DataCount, Codes, Segments}
use Rattle.vr_wasm_ast.specs.Rest.{Rest, rest}
use Rattle.vr_wasm_ast.specs.Bytes.{custom_id}
use Rattle.vr_wasm_ast.specs.Limits.{most_items}
use Rattle.vr_wasm_ast.specs.Sections.{section_of, rank_of}
use Rattle.vr_wasm_ast.specs.Grammar.{Sequence, gives, where_}
use Rattle.vr_wasm_ast.specs.Modules as grammar
use Rattle.vr_wasm_ast.specs.Modules.{IsSections, none, left_out, next, IsAsTold, IsComplete, imported_count, with_tree}
use Rattle.vr_wasm_decode.specs.declared.fault.DecodeFault.{DecodeFault}
use Rattle.vr_wasm_decode.specs.declared.fault.DecodeKind.TheVariants.{BadByte, SectionOrder, Counts, Truncated, TooMany}
use Rattle.vr_wasm_decode.specs.Faults.{fault_at}
use Rattle.vr_wasm_decode.specs.Reader.{Reader, on_ok}
use Rattle.vr_wasm_decode.specs.Types.{name_at}
use Rattle.vr_wasm_decode.specs.Modules.{codes_at, is_count_told, segments_at, section_at, custom_name_at, custom_at, numbered_at, any_section_at, finished_at, sections_at}
use Rattle.vr_wasm_decode.proofs.ReaderLemmas.{Reads, shorter, bind_ok, reads_give, reads_stop, reads_then, reads_here, reads_as, reads_case, reads_last, reads_items}
use Rattle.vr_wasm_decode.proofs.NumberLemmas.{ReadsAll, reads_u32, reads_where, reads_vector, reads_inside, reads_sized}
use Rattle.vr_wasm_decode.proofs.TypeLemmas.{reads_func_type, reads_limits, reads_table_type, reads_name}
use Rattle.vr_wasm_decode.proofs.PartLemmas.{reads_import, reads_global, reads_export, reads_element, reads_segment, reads_code}

-- ---- contents

reads_codes : (functions : ℕ) → Reads (codes_at functions) (grammar.codes functions)
unfolding codes_at
reads_codes functions = reads_here (λ place. reads_then reads_u32 (λ n. reads_last n functions (reads_items n reads_code) (reads_stop Counts place)))

-- only as many as told
reads_told : {A : Type 0} {r s : Reader A} {R : List ℕ → A → Type 0} (told : Option ℕ) (n : ℕ) → Reads r R → Reads s (λ text a. ⊥)
    → Reads (cond (is_count_told told n) r s) (where_ (IsAsTold told n) R)
reads_told {R = R} None n one stops = reads_as (where_ (IsAsTold None n) R) (λ text a h. (tt, h)) (λ text a h. h.1) one
reads_told (Some told) n one stops = reads_last n told one stops

reads_segments : (told : Option ℕ) → Reads (segments_at told) (grammar.segments told)
unfolding segments_at
reads_segments told =
    reads_here (λ place. reads_then reads_u32 (λ n. reads_told told n (reads_where n most_items (reads_items n reads_segment) (reads_stop TooMany place)) (reads_stop Counts place)))

pub reads_section : (s : Section) (p : Progress) → Reads (section_at s p) (grammar.section p s)
unfolding section_at
reads_section Types p = reads_then (reads_vector most_items reads_func_type) (λ types. reads_give (with_tree p (record p.tree { types = types })))
reads_section Imports p = reads_then (reads_vector most_items reads_import) (λ imports. reads_give (with_tree p (record p.tree { imports = imports })))
reads_section Functions p = reads_then (reads_vector (65536 - imported_count p.tree) reads_u32) (λ functions. reads_give (with_tree p (record p.tree { functions = functions })))
reads_section Tables p = reads_then (reads_vector most_items reads_table_type) (λ tables. reads_give (with_tree p (record p.tree { tables = tables })))
reads_section Memories p = reads_then (reads_vector most_items reads_limits) (λ memories. reads_give (with_tree p (record p.tree { memories = memories })))
reads_section Globals p = reads_then (reads_vector most_items reads_global) (λ globals. reads_give (with_tree p (record p.tree { globals = globals })))
reads_section Exports p = reads_then (reads_vector most_items reads_export) (λ exports. reads_give (with_tree p (record p.tree { exports = exports })))
reads_section Start p = reads_then reads_u32 (λ start. reads_give (with_tree p (record p.tree { start = Some start })))
reads_section Elements p = reads_then (reads_vector most_items reads_element) (λ elements. reads_give (with_tree p (record p.tree { elements = elements })))
reads_section DataCount p = reads_then reads_u32 (λ n. reads_give (record p { data_count = Some n }))
reads_section Codes p = reads_then (reads_codes (length p.tree.functions)) (λ codes. reads_give (with_tree p (record p.tree { codes = codes })))
reads_section Segments p = reads_then (reads_segments p.data_count) (λ segments. reads_give (with_tree p (record p.tree { segments = segments })))

-- ---- custom sections

reads_custom_name : ReadsAll custom_name_at grammar.custom
reads_custom_name = record {
  found = λ before a e.
      let p = bind_ok (name_at before) (λ text after. Ok text) a e in
      let f = reads_name.found before p.0 p.1 p.2 in
      let same : p.0 ≡ a = (let z : ◌≡◌ {A = Result (List ℕ) DecodeFault} (Ok p.0) (Ok a) = p.3 in cc) in
      record { prefix = f.text; suffix = p.1.bytes; value = p.0; parts = f.taken.parts; first = f.spelled; second = sym same };
  again = λ place text a h.
      ap (λ (t : List ℕ). on_ok (name_at (rest place t)) (λ text after. Ok text)) h.parts
      ∙ ap (λ (r : Result (List ℕ × Rest) DecodeFault). on_ok r (λ text after. Ok text)) (reads_name.again place h.prefix h.suffix h.value h.first)
      ∙ ap (λ (t : List ℕ). Ok t) (sym h.second);
}

reads_custom : Reads custom_at (grammar.in_contents grammar.custom)
unfolding custom_at
reads_custom = reads_inside Truncated reads_custom_name

-- ---- any section

-- a section that makes a part, after those up to this rank
abbrev Numbered : Option Section → ℕ → Progress → List ℕ → ℕ × Progress → Type 0
Numbered None last p text x = ⊥
Numbered (Some s) last p text x = (last < rank_of s) × Sequence (grammar.in_contents (grammar.section p s)) (λ q. gives (rank_of s, q)) text x

-- a section after its id: one that is left out, or one that makes a part
abbrev pub AnySection : ℕ → ℕ → Progress → List ℕ → ℕ × Progress → Type 0
AnySection id last p text x =
    ((id ≡ custom_id) × Sequence (grammar.in_contents grammar.custom) (λ name. gives (last, p)) text x) ⊎ Numbered (section_of id) last p text x

-- only after the last one
reads_later : {A : Type 0} {r s : Reader A} {R : List ℕ → A → Type 0} (rank last : ℕ) → Reads r R → Reads s (λ text a. ⊥) → Reads (cond (leb rank last) s r) (where_ (last < rank) R)
reads_later {A} {r} {s} {R} rank last one stops = decide (leb rank last) refl where
  decide : (t : Bool) → leb rank last ≡ t → Reads (cond t s r) (where_ (last < rank) R)
  decide true e = reads_as (where_ (last < rank) R) (λ text a h. absurd h) (λ text a h. let le = leb-true rank last e in omega (arith, le, h.0)) stops
  decide false e = reads_as (where_ (last < rank) R) (λ text a h. (leb-false rank last e, h)) (λ text a h. h.1) one

reads_numbered : (o : Option Section) (place last : ℕ) (p : Progress) → Reads (numbered_at o place last p) (Numbered o last p)
unfolding numbered_at
reads_numbered None place last p = reads_stop BadByte place
reads_numbered (Some s) place last p =
    reads_later (rank_of s) last (reads_then (reads_sized Truncated (reads_section s p)) (λ q. reads_give (rank_of s, q))) (reads_stop SectionOrder place)

pub reads_any_section : (id place last : ℕ) (p : Progress) → Reads (any_section_at id place last p) (AnySection id last p)
unfolding any_section_at
reads_any_section id place last p =
    reads_case id custom_id (reads_then reads_custom (λ name. reads_give (last, p))) (reads_numbered (section_of id) place last p)
    (λ text x e h. subst (λ (k : ℕ). Numbered (section_of k) last p text x) e h)

-- ---- all sections

told_is : (told : Option ℕ) (n : ℕ) → is_count_told told n ≡ true → IsAsTold told n
told_is None n e = tt
told_is (Some told) n e = eqb-true n told e

is_told : (told : Option ℕ) (n : ℕ) → IsAsTold told n → is_count_told told n ≡ true
is_told None n h = refl
is_told (Some told) n h = eq-eqb n told h

finished_ok : (p : Progress) (m : Module) (place : ℕ) → finished_at p place ≡ Ok m → (p.tree ≡ m) × IsComplete p
finished_ok p m place e = decide (eqb (length p.tree.functions) (length p.tree.codes)) (is_count_told p.data_count (length p.tree.segments)) refl refl e where
  decide : (coded counted : Bool) → eqb (length p.tree.functions) (length p.tree.codes) ≡ coded → is_count_told p.data_count (length p.tree.segments) ≡ counted
      → ◌≡◌ {A = Result Module DecodeFault} (cond (coded && counted) (Ok p.tree) (Err (fault_at Counts place))) (Ok m) → (p.tree ≡ m) × IsComplete p
  decide true true e0 e1 h = (cc, (sym (eqb-true _ _ e0), told_is p.data_count (length p.tree.segments) e1))
  decide true false e0 e1 h = absurd cc
  decide false counted e0 e1 h = absurd cc

finished_again : (p : Progress) (place : ℕ) → IsComplete p → finished_at p place ≡ Ok p.tree
finished_again p place h = rw (eq-eqb _ _ (sym h.0), is_told p.data_count (length p.tree.segments) h.1) refl

end_found : (last : ℕ) (p : Progress) (m : Module) (place : ℕ) → finished_at p place ≡ Ok m → IsSections last p [] m
end_found last p m place e =
    let f = finished_ok p m place e in
    subst (λ (n : Module). IsSections last p [] n) f.0 (IsSections.none f.1)

-- nothing follows what is given
all_of : {A B : Type 0} {R : List ℕ → A → Type 0} {make : A → B} {text : List ℕ} {b : B} (s : Sequence R (λ a. gives (make a)) text b) → R text s.value
all_of {R = R} s = subst (λ (t : List ℕ). R t s.value) (sym (s.parts ∙ ap (λ (t : List ℕ). s.prefix ++ t) s.second.0 ∙ append-nil s.prefix)) s.first

-- one more section
more_numbered : (id last : ℕ) (p : Progress) (m : Module) (text : List ℕ) (x : ℕ × Progress) (bytes : List ℕ) (o : Option Section) → section_of id ≡ o → Numbered o last p text x
    → IsSections x.0 x.1 bytes m → IsSections last p (id ∷ (text ++ bytes)) m
more_numbered id last p m text x bytes None e h others = absurd h
more_numbered id last p m text x bytes (Some s) e h others =
    IsSections.next text bytes e h.0 (all_of h.1) (subst (λ (y : ℕ × Progress). IsSections y.0 y.1 bytes m) h.1.second.1 others)

more_found : (id last : ℕ) (p : Progress) (m : Module) (text : List ℕ) (x : ℕ × Progress) (bytes : List ℕ) → AnySection id last p text x → IsSections x.0 x.1 bytes m
    → IsSections last p (id ∷ (text ++ bytes)) m
more_found id last p m text x bytes (inl h) others =
    let same : IsSections last p bytes m = subst (λ (y : ℕ × Progress). IsSections y.0 y.1 bytes m) h.1.second.1 others in
    subst (λ (k : ℕ). IsSections last p (k ∷ (text ++ bytes)) m) (sym h.0) (IsSections.left_out text bytes h.1.value (all_of h.1) same)
more_found id last p m text x bytes (inr h) others = more_numbered id last p m text x bytes (section_of id) refl h others

pub sections_found : (fuel last : ℕ) (p : Progress) (place : ℕ) (bytes : List ℕ) (m : Module) → length bytes ≤ fuel → sections_at fuel last p (rest place bytes) ≡ Ok m → IsSections last p bytes m
unfolding sections_at
sections_found zero last p place [] m le e = end_found last p m place e
sections_found zero last p place (b ∷ bytes) m le e = absurd (omega (arith, le))
sections_found (suc fuel) last p place [] m le e = end_found last p m place e
sections_found (suc fuel) last p place (id ∷ bytes) m le e =
    let r = bind_ok (any_section_at id place last p (rest (place + 1) bytes)) (λ x after. sections_at fuel x.0 x.1 after) m e in
    let f = (reads_any_section id place last p).found (rest (place + 1) bytes) r.0 r.1 r.2 in
    let less : length r.1.bytes ≤ fuel = omega (arith, le, shorter f) in
    let others = sections_found fuel r.0.0 r.0.1 r.1.place r.1.bytes m less r.3 in
    subst (λ (bs : List ℕ). IsSections last p (id ∷ bs) m) (sym f.taken.parts) (more_found id last p m f.text r.0 r.1.bytes f.spelled others)

-- what is given after all
then_gives : {A B : Type 0} {R : List ℕ → A → Type 0} (make : A → B) (text : List ℕ) (a : A) → R text a → Sequence R (λ a. gives (make a)) text (make a)
then_gives make text a h = record { prefix = text; suffix = []; value = a; parts = sym (append-nil text); first = h; second = (refl, refl) }

pub sections_again : (fuel : ℕ) {last : ℕ} {p : Progress} {text : List ℕ} {m : Module} → IsSections last p text m → length text ≤ fuel → (place : ℕ) → sections_at fuel last p (rest place text) ≡ Ok m
unfolding sections_at
sections_again zero (none {last = last} {p = p} h) le place = finished_again p place h
sections_again (suc fuel) (none {last = last} {p = p} h) le place = finished_again p place h
sections_again zero (left_out text bytes any h s) le place = absurd (omega (arith, le))
sections_again zero (next text bytes is later h s) le place = absurd (omega (arith, le))
sections_again (suc fuel) (left_out {last = last} {p = p} text bytes any h s) le place =
    ap (λ (r : Result ((ℕ × Progress) × Rest) DecodeFault). on_ok r (λ x after. sections_at fuel x.0 x.1 after))
    ((reads_any_section custom_id place last p).again (place + 1) text bytes (last, p) (inl (refl, then_gives (λ (name : List ℕ). (last, p)) text any h)))
    ∙ sections_again fuel s (omega (arith, le, length-append text bytes)) (place + 1 + length text)
sections_again (suc fuel) (next {last = last} {id = id} {s = s} {p = p} {q = q} text bytes is later h others) le place =
    ap (λ (r : Result ((ℕ × Progress) × Rest) DecodeFault). on_ok r (λ x after. sections_at fuel x.0 x.1 after))
    ((reads_any_section id place last p).again (place + 1) text bytes (rank_of s, q)
    (inr (subst (λ (o : Option Section). Numbered o last p text (rank_of s, q)) (sym is) (later, then_gives (λ (q : Progress). (rank_of s, q)) text q h))))
    ∙ sections_again fuel others (omega (arith, le, length-append text bytes)) (place + 1 + length text)
