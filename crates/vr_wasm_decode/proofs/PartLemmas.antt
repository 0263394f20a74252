-- The parts of a module: what is read is so spelled, and what is so spelled is read.
use Rattle.std.proofs.Common.{◌≡◌, ℕ, zero, suc, ◌+◌, ◌<◌, ◌≤◌, Bool, false, List, [], ◌∷◌, ◌++◌, length, replicate, Result, inl, inr, refl, sym, ap, subst, ◌∙◌, append_assoc, arith, length-append}
use Rattle.std.specs.List.{sum_by}
use Rattle.std.proofs.lemmas.List.{append-nil}
use Rattle.std.proofs.lemmas.List.Concat.{flat_map-cons}
use Rattle.std.proofs.lemmas.List.Sums.{sum_by-cons}
use Rattle.vr_wasm_ast.specs.declared.instr.Instr.{Instr}
use Rattle.vr_wasm_ast.specs.declared.tree.ValType.{ValType}
use Rattle.vr_wasm_ast.specs.declared.tree.ImportKind.TheVariants as kinds
use Rattle.vr_wasm_ast.specs.declared.tree.ExportKind.TheVariants as exported
use Rattle.vr_wasm_ast.specs.Bytes.{end_byte}
use Rattle.vr_wasm_ast.specs.Rest.{Rest, rest, Consumes}
use Rattle.vr_wasm_ast.specs.Grammar.{◌>>=◌, Sequence, gives, where_, byte_then, many}
use Rattle.vr_wasm_ast.specs.Modules as grammar
use Rattle.vr_wasm_ast.specs.Modules.{each_local}
use Rattle.vr_wasm_decode.specs.declared.fault.DecodeFault.{DecodeFault}
use Rattle.vr_wasm_decode.specs.declared.fault.DecodeKind.TheVariants.{BadByte, TooMany, SectionSize}
use Rattle.vr_wasm_decode.specs.Reader.{on_ok, give, sized_at}
use Rattle.vr_wasm_decode.specs.Instructions.{sequence_at, expression_at}
use Rattle.vr_wasm_decode.specs.Modules.{import_kind_at, import_at, global_at, export_kind_at, export_at, element_at, groups_at, locals_at, function_body_at, segment_at}
use Rattle.vr_wasm_decode.proofs.ReaderLemmas.{Reads, ok_is, bind_ok, reads_give, reads_stop, reads_then, reads_here, reads_as, reads_byte, reads_case, reads_last}
use Rattle.vr_wasm_decode.proofs.NumberLemmas.{reads_u32, reads_count, reads_where, reads_vector, reads_sized}
use Rattle.vr_wasm_decode.proofs.TypeLemmas.{none_of_four, reads_name, reads_data_bytes, reads_val_type, reads_limits, reads_table_type, reads_global_type}
use Rattle.vr_wasm_decode.proofs.InstructionLemmas.{by_end, sequence_found}
use Rattle.vr_wasm_decode.proofs.SpellingLemmas.{spelled_again}

-- ---- expressions

abbrev is_end : List Instr → List ℕ → List Instr → Type 0
is_end is = byte_then end_byte (gives is)

-- what ends an expression
end_is : (is : List Instr) (text : List ℕ) (a : List Instr) → is_end is text a → (text ≡ end_byte ∷ []) × (a ≡ is)
end_is is [] a h = absurd h
end_is is (b ∷ text) a h = (ap (λ (c : ℕ). c ∷ text) h.0 ∙ ap (λ (t : List ℕ). end_byte ∷ t) h.1.0, h.1.1)

pub reads_expression : Reads expression_at grammar.expression
unfolding expression_at
reads_expression = record {
  found = λ before a after e.
      let p = bind_ok (sequence_at (length before.bytes) 1024 false before) (λ is. give is.0) (a, after) e in
      let q = ok_is p.0.0 a p.1 after p.3 in
      let f = sequence_found (length before.bytes) 1024 false before p.0 p.1 p.2 in
      let b = by_end 1024 f.text p.0 f.spelled in
      record {
        text = f.text;
        taken = subst (λ (r : Rest). Consumes before f.text r) q.1 f.taken;
        spelled = record { prefix = b.0; suffix = end_byte ∷ []; value = p.0.0; parts = b.1; first = b.2; second = (refl, (refl, sym q.0)) };
      };
  again = λ place text tail a h.
      let e = end_is h.value h.suffix a h.second in
      let cut : text ++ tail ≡ h.prefix ++ (end_byte ∷ tail) = ap (λ (t : List ℕ). t ++ tail) (h.parts ∙ ap (λ (t : List ℕ). h.prefix ++ t) e.0) ∙ append_assoc h.prefix (end_byte ∷ []) tail in
      let enough : length h.prefix < length (text ++ tail) = omega (arith, ap length cut, length-append h.prefix (end_byte ∷ tail)) in
      let moved : place + length h.prefix + 1 ≡ place + length text = omega (arith, ap length h.parts, length-append h.prefix h.suffix, ap length e.0) in
      ap (λ (bytes : List ℕ). on_ok (sequence_at (length (text ++ tail)) 1024 false (rest place bytes)) (λ is. give is.0)) cut
      ∙ ap (λ (r : Result ((List Instr × Bool) × Rest) DecodeFault). on_ok r (λ is. give is.0)) (spelled_again (length (text ++ tail)) h.first enough false false (λ z. z) place tail)
      ∙ rw (moved, e.1) refl;
}

-- ---- imports, globals and exports

pub reads_import_kind : Reads import_kind_at grammar.import_kind
unfolding import_kind_at
reads_import_kind = reads_here (λ place. reads_byte grammar.import_kind (λ a h. none_of_four h) (λ b.
    reads_case b 0x00 (reads_then reads_u32 (λ sort. reads_give (kinds.Func sort)))
    (reads_case b 0x01 (reads_then reads_table_type (λ table. reads_give (kinds.Table table)))
    (reads_case b 0x02 (reads_then reads_limits (λ memory. reads_give (kinds.Memory memory)))
    (reads_last b 0x03 (reads_then reads_global_type (λ global. reads_give (kinds.Global global))) (reads_stop BadByte place))
    (λ text a e h. omega (arith, e, h.0)))
    (λ text a e h. elim h [ inl p ↦ omega (arith, e, p.0) | inr p ↦ omega (arith, e, p.0) ]))
    (λ text a e h. elim h [ inl p ↦ omega (arith, e, p.0) | inr q ↦ elim q [ inl p ↦ omega (arith, e, p.0) | inr p ↦ omega (arith, e, p.0) ] ])))

pub reads_import : Reads import_at grammar.import
unfolding import_at
reads_import = reads_then reads_name (λ from. reads_then reads_name (λ own. reads_then reads_import_kind (λ what. reads_give (record { «module» = from; name = own; what = what }))))

pub reads_global : Reads global_at grammar.global
unfolding global_at
reads_global = reads_then reads_global_type (λ sort. reads_then reads_expression (λ init. reads_give (record { sort = sort; init = init })))

pub reads_export_kind : Reads export_kind_at grammar.export_kind
unfolding export_kind_at
reads_export_kind = reads_here (λ place. reads_byte grammar.export_kind (λ a h. none_of_four h) (λ b.
    reads_case b 0x00 (reads_give exported.Func)
    (reads_case b 0x01 (reads_give exported.Table)
    (reads_case b 0x02 (reads_give exported.Memory)
    (reads_last b 0x03 (reads_give exported.Global) (reads_stop BadByte place))
    (λ text a e h. omega (arith, e, h.0)))
    (λ text a e h. elim h [ inl p ↦ omega (arith, e, p.0) | inr p ↦ omega (arith, e, p.0) ]))
    (λ text a e h. elim h [ inl p ↦ omega (arith, e, p.0) | inr q ↦ elim q [ inl p ↦ omega (arith, e, p.0) | inr p ↦ omega (arith, e, p.0) ] ])))

pub reads_export : Reads export_at grammar.export
unfolding export_at
reads_export = reads_then reads_name (λ own. reads_then reads_export_kind (λ what. reads_then reads_u32 (λ index. reads_give (record { name = own; what = what; index = index }))))

-- ---- segments

pub reads_element : Reads element_at grammar.element
unfolding element_at
reads_element = reads_then reads_u32 (λ table. reads_then reads_expression (λ offset. reads_then (reads_vector 65536 reads_u32) (λ functions. reads_give (record { table = table; offset = offset; functions = functions }))))

pub reads_segment : Reads segment_at grammar.segment
unfolding segment_at
reads_segment = reads_then reads_u32 (λ memory. reads_then reads_expression (λ offset. reads_then reads_data_bytes (λ bytes. reads_give (record { memory = memory; offset = offset; bytes = bytes }))))

-- ---- locals

-- groups one by one, byte_then locals of this number
abbrev OneByOne : ℕ → ℕ → List ℕ → List ValType → Type 0
OneByOne zero so_far = gives []
OneByOne (suc n) so_far = do
  more ← grammar.u32
  where_ (so_far + more ≤ 8192) (do
    t ← grammar.val_type
    others ← OneByOne n (so_far + more)
    gives (replicate more t ++ others))

one_by_one : (n so_far : ℕ) → Reads (groups_at n so_far) (OneByOne n so_far)
unfolding groups_at
one_by_one zero so_far = reads_give []
one_by_one (suc n) so_far = reads_here (λ place. reads_then reads_u32 (λ more. reads_where (so_far + more) 8192
    (reads_then reads_val_type (λ t. reads_then (one_by_one n (so_far + more)) (λ others. reads_give (replicate more t ++ others))))
    (reads_stop TooMany place)))

-- the groups as a whole
record Groups (n so_far : ℕ) (text : List ℕ) (ts : List ValType) : Type 0 where
  gs : List (ℕ × ValType)
  spelled : many n grammar.group text gs
  few : so_far + sum_by (λ g. g.0) gs ≤ 8192
  all : ts ≡ each_local gs

as_groups : (n so_far : ℕ) → so_far ≤ 8192 → (text : List ℕ) (ts : List ValType) → OneByOne n so_far text ts → Groups n so_far text ts
as_groups zero so_far few text ts h = record { gs = []; spelled = (h.0, refl); few = omega (arith, few); all = h.1 }
as_groups (suc n) so_far few text ts h =
    let c = h.second in
    let v = c.1 in
    let o = v.second in
    let r = as_groups n (so_far + h.value) c.0 o.prefix o.value o.first in
    record {
      gs = (h.value, v.value) ∷ r.gs;
      spelled = record {
        prefix = h.prefix ++ v.prefix;
        suffix = o.prefix;
        value = (h.value, v.value);
        parts = h.parts ∙ ap (λ (t : List ℕ). h.prefix ++ t) (v.parts ∙ ap (λ (t : List ℕ). v.prefix ++ t) (o.parts ∙ ap (λ (t : List ℕ). o.prefix ++ t) o.second.0 ∙ append-nil o.prefix)) ∙ sym (append_assoc h.prefix v.prefix o.prefix);
        first = record { prefix = h.prefix; suffix = v.prefix; value = h.value; parts = refl; first = h.first; second = record { prefix = v.prefix; suffix = []; value = v.value; parts = sym (append-nil v.prefix); first = v.first; second = (refl, refl) } };
        second = record { prefix = o.prefix; suffix = []; value = r.gs; parts = sym (append-nil o.prefix); first = r.spelled; second = (refl, refl) };
      };
      few = omega (arith, r.few, sum_by-cons (λ (g : ℕ × ValType). g.0) (h.value, v.value) r.gs);
      all = o.second.1 ∙ ap (λ (us : List ValType). replicate h.value v.value ++ us) r.all ∙ sym (flat_map-cons (λ (g : ℕ × ValType). replicate g.0 g.1) (h.value, v.value) r.gs);
    }

of_groups : (n so_far : ℕ) (text : List ℕ) (gs : List (ℕ × ValType)) → many n grammar.group text gs → so_far + sum_by (λ g. g.0) gs ≤ 8192 → OneByOne n so_far text (each_local gs)
of_groups zero so_far text gs h few = (h.0, ap each_local h.1)
of_groups (suc n) so_far text gs h few =
    let o = h.second in
    let g = h.first in
    let t = g.second in
    let same : gs ≡ h.value ∷ o.value = o.second.1 in
    let pair : h.value ≡ (g.value, t.value) = t.second.1 in
    let sum : g.value + sum_by (λ (g : ℕ × ValType). g.0) o.value ≡ sum_by (λ (g : ℕ × ValType). g.0) gs = sym (ap (λ (gs : List (ℕ × ValType)). sum_by (λ (g : ℕ × ValType). g.0) gs) same ∙ sum_by-cons (λ (g : ℕ × ValType). g.0) h.value o.value ∙ ap (λ (p : ℕ × ValType). p.0 + sum_by (λ (g : ℕ × ValType). g.0) o.value) pair) in
    let r = of_groups n (so_far + g.value) o.prefix o.value o.first (omega (arith, few, sum)) in
    let locals_at : each_local gs ≡ replicate g.value t.value ++ each_local o.value =
    ap each_local same ∙ flat_map-cons (λ (g : ℕ × ValType). replicate g.0 g.1) h.value o.value ∙ ap (λ (p : ℕ × ValType). replicate p.0 p.1 ++ each_local o.value) pair in
    let typed : h.prefix ≡ g.prefix ++ t.prefix = g.parts ∙ ap (λ (b : List ℕ). g.prefix ++ b) (t.parts ∙ ap (λ (b : List ℕ). t.prefix ++ b) t.second.0 ∙ append-nil t.prefix) in
    let rest_is : h.suffix ≡ o.prefix = o.parts ∙ ap (λ (b : List ℕ). o.prefix ++ b) o.second.0 ∙ append-nil o.prefix in
    record {
      prefix = g.prefix;
      suffix = t.prefix ++ o.prefix;
      value = g.value;
      parts = h.parts ∙ ap (λ (f : List ℕ). f ++ h.suffix) typed ∙ append_assoc g.prefix t.prefix h.suffix ∙ ap (λ (b : List ℕ). g.prefix ++ (t.prefix ++ b)) rest_is;
      first = g.first;
      second = (
        omega (arith, few, sum),
        record {
          prefix = t.prefix;
          suffix = o.prefix;
          value = t.value;
          parts = refl;
          first = t.first;
          second = record { prefix = o.prefix; suffix = []; value = each_local o.value; parts = sym (append-nil o.prefix); first = r; second = (refl, locals_at) };
        },
      );
    }

pub reads_locals : Reads locals_at grammar.locals
unfolding locals_at
reads_locals = reads_as grammar.locals there back (reads_then (reads_count 65536) (λ n. one_by_one n 0)) where
  there : (text : List ℕ) (ts : List ValType) → Sequence (grammar.count 65536) (λ n. OneByOne n 0) text ts → grammar.locals text ts
  there text ts s =
      let g = as_groups s.value 0 (omega arith) s.suffix ts s.second in
      record {
        prefix = text;
        suffix = [];
        value = g.gs;
        parts = sym (append-nil text);
        first = record { prefix = s.prefix; suffix = s.suffix; value = s.value; parts = s.parts; first = s.first; second = g.spelled };
        second = (omega (arith, g.few), (refl, g.all));
      }

  back : (text : List ℕ) (ts : List ValType) → grammar.locals text ts → Sequence (grammar.count 65536) (λ n. OneByOne n 0) text ts
  back text ts s =
      let v = s.first in
      let few : sum_by (λ (g : ℕ × ValType). g.0) s.value ≤ 8192 = s.second.0 in
      let o = of_groups v.value 0 v.suffix s.value v.second (omega (arith, few)) in
      record {
        prefix = v.prefix;
        suffix = v.suffix;
        value = v.value;
        parts = s.parts ∙ ap (λ (b : List ℕ). s.prefix ++ b) s.second.1.0 ∙ append-nil s.prefix ∙ v.parts;
        first = v.first;
        second = subst (λ (us : List ValType). OneByOne v.value 0 v.suffix us) (sym s.second.1.1) o;
      }

pub reads_function_body : Reads function_body_at grammar.function_body
unfolding function_body_at
reads_function_body = reads_then reads_locals (λ types. reads_then reads_expression (λ body. reads_give (record { locals = types; body = body })))

pub reads_code : Reads (sized_at SectionSize function_body_at) (grammar.in_contents grammar.function_body)
reads_code = reads_sized SectionSize reads_function_body
