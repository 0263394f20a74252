use Rattle.std.proofs.Common.{◌≡◌, ◌+◌, ◌*◌, ◌++◌, Bool, [], ◌∷◌, List, ℕ, sym, ap, ◌∙◌, true, false, Err, arith}
use Rattle.std.specs.Prelude.{◌&&◌}
use Rattle.vr_wasi_abi.specs.declared.fault.AbiFault.TheVariants.{Fault}
use Rattle.vr_wasm_num.specs.Memory.{is_within}
use Rattle.vr_wasi_abi.specs.Iovecs.{vector, vectors, has_buffer, reading, read_one}
use Rattle.vr_wasi_abi.proofs.VectorLemmas.{vectors_none, vectors_more, there_none, there_more, one_fault, one_ok, reading_fault, handed_on}
use Rattle.vr_wasi_abi.proofs.iovecs.read_iovecs.Goals as goal

pub loop-i-init : goal.loop-i-init
loop-i-init c = record {
  items = c.in_ok-items.ensures.items ∙ sym (vectors_none c.args.memory.now.bytes c.args.at);
  there = there_none c.args.memory.now.bytes c.args.at;
}

pub returns-in_err-vector-clause-reads : goal.returns-in_err-vector-clause-reads
returns-in_err-vector-clause-reads c =
    let bytes : List ℕ = c.args.memory.now.bytes in
    let place : c.from.result + c.from-in-loop-i.result ≡ c.args.at + 8 * c.loop-i.i = omega arith in
    let b : Bool = is_within bytes (c.args.at + 8 * c.loop-i.i) 8 && has_buffer bytes (vector bytes (c.args.at + 8 * c.loop-i.i)) in
    let one : (b ≡ false) × (c.in_err-vector.field-0.0 ≡ Fault) = one_fault b _ _ (c.in_err-vector.ensures ∙ ap (read_one bytes) place) in
    let all : reading bytes c.args.at c.args.count ≡ Err Fault = reading_fault bytes c.args.at c.args.count c.loop-i.i (omega arith) (omega arith) one.0 in
    handed_on c.from_residual-in_err-vector.result (reading bytes c.args.at c.args.count) c.in_err-vector.field-0.0 c.from_residual-in_err-vector.ensures.0 c.from_residual-in_err-vector.ensures.1 one.1 all

pub loop-i-preserved : goal.loop-i-preserved
loop-i-preserved c =
    let bytes : List ℕ = c.args.memory.now.bytes in
    let place : c.from.result + c.from-in-loop-i.result ≡ c.args.at + 8 * c.loop-i.i = omega arith in
    let b : Bool = is_within bytes (c.args.at + 8 * c.loop-i.i) 8 && has_buffer bytes (vector bytes (c.args.at + 8 * c.loop-i.i)) in
    let one : (b ≡ true) × (c.in_ok-vector.vector ≡ vector bytes (c.args.at + 8 * c.loop-i.i)) = one_ok b _ _ (c.in_ok-vector.ensures ∙ ap (read_one bytes) place) in
    record {
      items = c.in_ok-push.ensures.items ∙ ap (λ z. z ++ c.in_ok-vector.vector ∷ []) c.loop-i.invariant.items
          ∙ ap (λ z. vectors bytes c.args.at c.loop-i.i ++ z ∷ []) one.1 ∙ sym (vectors_more bytes c.args.at c.loop-i.i);
      there = there_more bytes c.args.at c.loop-i.i ∙ ap (λ z. z && b) c.loop-i.invariant.there ∙ one.0;
    }
