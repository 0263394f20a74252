-- Modules: what is read is so spelled, and what is so spelled is read.
use Rattle.std.proofs.Common.{◌≡◌, ℕ, ◌≤◌, Bool, true, false, cond, List, ◌++◌, length, drop, Result, Ok, Err, refl, sym, ap, ◌∙◌, arith, length-append}
use Rattle.std.specs.Prelude.{nat_eq}
use Rattle.std.specs.List.{starts_with}
use Rattle.std.proofs.lemmas.Bool.Decides.{Decides-eqb}
use Rattle.std.proofs.lemmas.Slice.Eq.{starts_is}
use Rattle.vr_wasm_ast.specs.declared.tree.Module.{Module}
use Rattle.vr_wasm_ast.specs.Rest.{rest}
use Rattle.vr_wasm_ast.specs.Bytes.{header}
use Rattle.vr_wasm_ast.specs.Modules.{IsModule, start}
use Rattle.vr_wasm_decode.specs.declared.fault.DecodeFault.{DecodeFault}
use Rattle.vr_wasm_decode.specs.declared.fault.DecodeKind.TheVariants.{Magic}
use Rattle.vr_wasm_decode.specs.Faults.{fault_at}
use Rattle.vr_wasm_decode.specs.Modules.{sections_at, module_of}
use Rattle.vr_wasm_decode.proofs.SectionLemmas.{sections_found, sections_again}

begins : (bytes : List ℕ) → (starts_with nat_eq bytes header ≡ true → bytes ≡ header ++ drop 8 bytes) × ((body : List ℕ) → bytes ≡ header ++ body → starts_with nat_eq bytes header ≡ true)
begins bytes = starts_is Decides-eqb bytes header (starts_with nat_eq bytes header) refl

-- what is read is so spelled
pub module_found : (bytes : List ℕ) (m : Module) → module_of bytes ≡ Ok m → IsModule bytes m
unfolding module_of
module_found bytes m e = decide (starts_with nat_eq bytes header) refl e where
  decide : (t : Bool) → starts_with nat_eq bytes header ≡ t
      → ◌≡◌ {A = Result Module DecodeFault} (cond t (sections_at (length bytes) 0 start (rest 8 (drop 8 bytes))) (Err (fault_at Magic 0))) (Ok m) → IsModule bytes m
  decide true starts h =
      let parts = (begins bytes).0 starts in
      let enough : length (drop 8 bytes) ≤ length bytes = omega (arith, ap length parts, length-append header (drop 8 bytes)) in
      let sections = sections_found (length bytes) 0 start 8 (drop 8 bytes) m enough h in
      record { body = drop 8 bytes; parts = parts; sections = sections }
  decide false starts h = absurd cc

-- what is so spelled is read
pub module_again : (bytes : List ℕ) (m : Module) → IsModule bytes m → module_of bytes ≡ Ok m
unfolding module_of
module_again bytes m h =
    let starts = (begins bytes).1 h.body h.parts in
    let body : drop 8 bytes ≡ h.body = ap (λ (b : List ℕ). drop 8 b) h.parts in
    let enough : length h.body ≤ length bytes = omega (arith, ap length h.parts, length-append header h.body) in
    let read : sections_at (length bytes) 0 start (rest 8 (drop 8 bytes)) ≡ Ok m = ap (λ (b : List ℕ). sections_at (length bytes) 0 start (rest 8 b)) body ∙ sections_again (length bytes) h.sections enough 8 in
    ap (λ (t : Bool). cond t (sections_at (length bytes) 0 start (rest 8 (drop 8 bytes))) (Err (fault_at Magic 0))) starts ∙ read

-- bytes are at most one module
pub one_module : (bytes : List ℕ) (m n : Module) → IsModule bytes m → IsModule bytes n → m ≡ n
one_module bytes m n h k = let both : ◌≡◌ {A = Result Module DecodeFault} (Ok m) (Ok n) = sym (module_again bytes m h) ∙ module_again bytes n k in cc
