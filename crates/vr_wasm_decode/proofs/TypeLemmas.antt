-- Names and types: what is read is so spelled, and what is so spelled is read.
use Rattle.std.proofs.Common.{◌≡◌, ℕ, Bool, true, false, cond, List, [], ◌∷◌, ◌++◌, Option, Some, None, ◌⊎◌, inl, inr, refl, ap, ◌∙◌, arith}
use Rattle.std.specs.Str.{is_utf8}
use Rattle.std.proofs.lemmas.Str.{IsUtf8-from_is_utf8, is_utf8-from_IsUtf8}
use Rattle.vr_wasm_ast.specs.declared.tree.ValType.{ValType}
use Rattle.vr_wasm_ast.specs.declared.tree.ValType.TheVariants.{I32, I64}
use Rattle.vr_wasm_ast.specs.Grammar.{Sequence, gives, either, byte_then}
use Rattle.vr_wasm_ast.specs.Modules as grammar
use Rattle.vr_wasm_decode.specs.declared.fault.DecodeKind.TheVariants.{BadByte, Utf8}
use Rattle.vr_wasm_decode.specs.Reader.{give, stop}
use Rattle.vr_wasm_decode.specs.Types.{data_bytes_at, utf8_at, name_at, not_a_type, val_type_of_at, val_type_at, func_type_at, limits_at, table_type_at, flag_at, global_type_at, block_type_at}
use Rattle.vr_wasm_decode.proofs.ReaderLemmas.{Reads, reads_give, reads_stop, reads_then, reads_here, reads_as, reads_byte, reads_case, reads_last}
use Rattle.vr_wasm_decode.proofs.NumberLemmas.{reads_u32, reads_vector, reads_expect, reads_bytes}

pub reads_data_bytes : Reads data_bytes_at grammar.data_bytes
unfolding data_bytes_at
reads_data_bytes = reads_then reads_u32 (λ n. reads_bytes n)

pub reads_utf8 : (place : ℕ) (text : List ℕ) → Reads (utf8_at place text) (grammar.utf8 text)
reads_utf8 place text = decide (is_utf8 text) refl where
  decide : (t : Bool) → is_utf8 text ≡ t → Reads (cond t (give text) (stop Utf8 place)) (grammar.utf8 text)
  decide true e = reads_as (grammar.utf8 text) (λ t a h. (IsUtf8-from_is_utf8 text e, h)) (λ t a h. h.1) (reads_give text)
  decide false e = reads_as (grammar.utf8 text) (λ t a h. absurd h) (λ t a h. let is = is_utf8-from_IsUtf8 text h.0 in cc) (reads_stop Utf8 place)

pub reads_name : Reads name_at grammar.name
unfolding name_at
reads_name = reads_then reads_u32 (λ n. reads_here (λ place. reads_then (reads_bytes n) (λ text. reads_utf8 place text)))

-- ---- types

pub reads_val_type_of : (b place : ℕ) → Reads (val_type_of_at b place) (λ text t. grammar.val_type (b ∷ text) t)
reads_val_type_of b place =
    reads_case b 0x7f (reads_give I32)
    (reads_last b 0x7e (reads_give I64) (reads_stop (not_a_type b) place))
    (λ text t e h. omega (arith, e, h.0))

-- no bytes begin with none of two bytes, of three or of four
pub none_of_two : ⊥ ⊎ ⊥ → ⊥
none_of_two (inl h) = h
none_of_two (inr h) = h

pub none_of_three : ⊥ ⊎ (⊥ ⊎ ⊥) → ⊥
none_of_three (inl h) = h
none_of_three (inr h) = none_of_two h

pub none_of_four : ⊥ ⊎ (⊥ ⊎ (⊥ ⊎ ⊥)) → ⊥
none_of_four (inl h) = h
none_of_four (inr h) = none_of_three h

pub reads_val_type : Reads val_type_at grammar.val_type
unfolding val_type_at
reads_val_type = reads_here (λ place. reads_byte grammar.val_type (λ t h. none_of_two h) (λ b. reads_val_type_of b place))

pub reads_func_type : Reads func_type_at grammar.func_type
unfolding func_type_at
reads_func_type =
    reads_expect 0x60 (reads_then (reads_vector 1024 reads_val_type) (λ params. reads_then (reads_vector 1 reads_val_type) (λ results. reads_give (record { params = params; results = results }))))

pub reads_limits : Reads limits_at grammar.limits
unfolding limits_at
reads_limits = reads_here (λ place. reads_byte grammar.limits (λ a h. none_of_two h) (λ b.
    reads_case b 0x00 (reads_then reads_u32 (λ min. reads_give (grammar.bounds min None)))
    (reads_last b 0x01 (reads_then reads_u32 (λ min. reads_then reads_u32 (λ max. reads_give (grammar.bounds min (Some max))))) (reads_stop BadByte place))
    (λ text l e h. omega (arith, e, h.0))))

pub reads_table_type : Reads table_type_at grammar.table_type
unfolding table_type_at
reads_table_type = reads_expect 0x70 reads_limits

pub reads_flag : Reads flag_at grammar.flag
unfolding flag_at
reads_flag = reads_here (λ place. reads_byte grammar.flag (λ a h. none_of_two h) (λ b.
    reads_case b 0x00 (reads_give false) (reads_last b 0x01 (reads_give true) (reads_stop BadByte place)) (λ text l e h. omega (arith, e, h.0))))

pub reads_global_type : Reads global_type_at grammar.global_type
unfolding global_type_at
reads_global_type = reads_then reads_val_type (λ value. reads_then reads_flag (λ variable. reads_give (record { value = value; variable = variable })))

-- ---- the types of blocks

-- the type byte_then the first byte, as the type of a block
some_type : (b : ℕ) (text : List ℕ) (t : Option ValType)
    → Sequence (λ text t. grammar.val_type (b ∷ text) t) (λ t. gives (Some t)) text t
    → either (byte_then 0x7f (gives (Some I32))) (byte_then 0x7e (gives (Some I64))) (b ∷ text) t
some_type b text t s = elim s.first [
  | inl h ↦ inl (h.0, (s.parts ∙ ap (λ (f : List ℕ). f ++ s.suffix) h.1.0 ∙ s.second.0, s.second.1 ∙ ap (λ (v : ValType). Some v) h.1.1))
  | inr h ↦ inr (h.0, (s.parts ∙ ap (λ (f : List ℕ). f ++ s.suffix) h.1.0 ∙ s.second.0, s.second.1 ∙ ap (λ (v : ValType). Some v) h.1.1))
]

some_type_back : (b : ℕ) (text : List ℕ) (t : Option ValType)
    → either (byte_then 0x7f (gives (Some I32))) (byte_then 0x7e (gives (Some I64))) (b ∷ text) t
    → Sequence (λ text t. grammar.val_type (b ∷ text) t) (λ t. gives (Some t)) text t
some_type_back b text t (inl h) = record { prefix = []; suffix = []; value = I32; parts = h.1.0; first = inl (h.0, (refl, refl)); second = (refl, h.1.1) }
some_type_back b text t (inr h) = record { prefix = []; suffix = []; value = I64; parts = h.1.0; first = inr (h.0, (refl, refl)); second = (refl, h.1.1) }

not_empty : (b : ℕ) (text : List ℕ) (t : Option ValType) → b ≡ 0x40 → either (byte_then 0x7f (gives (Some I32))) (byte_then 0x7e (gives (Some I64))) (b ∷ text) t → ⊥
not_empty b text t e (inl h) = omega (arith, e, h.0)
not_empty b text t e (inr h) = omega (arith, e, h.0)

pub reads_block_type : Reads block_type_at grammar.block_type
unfolding block_type_at
reads_block_type = reads_here (λ place. reads_byte grammar.block_type (λ t h. none_of_three h) (λ b.
    reads_case b 0x40 (reads_give None)
    (reads_as (λ text t. either (byte_then 0x7f (gives (Some I32))) (byte_then 0x7e (gives (Some I64))) (b ∷ text) t) (some_type b) (some_type_back b)
    (reads_then (reads_val_type_of b place) (λ t. reads_give (Some t))))
    (not_empty b)))
