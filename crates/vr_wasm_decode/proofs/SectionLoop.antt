-- Reading sections one after the other, as a loop does.
use Rattle.std.proofs.Common.{◌≡◌, ℕ, zero, suc, ◌+◌, ◌≤◌, ◌<◌, List, [], ◌∷◌, length, Result, Ok, Err, refl, sym, ap, ◌∙◌, arith}
use Rattle.vr_wasm_ast.specs.declared.tree.Module.{Module}
use Rattle.vr_wasm_ast.specs.Rest.{Rest, rest, Consumes}
use Rattle.vr_wasm_ast.specs.declared.sections.Progress.{Progress}
use Rattle.vr_wasm_ast.specs.Modules.{start}
use Rattle.vr_wasm_decode.specs.declared.fault.DecodeFault.{DecodeFault}
use Rattle.vr_wasm_ast.specs.Checks.{Tells}
use Rattle.vr_wasm_decode.specs.declared.fault.ReadError.{ReadError}
use Rattle.vr_wasm_decode.specs.Faults.{told}
use Rattle.vr_wasm_decode.specs.Reader.{on_ok, GivesAll}
use Rattle.vr_wasm_decode.specs.Modules.{finished_at, any_section_at, next_section_at, sections_at}
use Rattle.vr_wasm_decode.proofs.ReaderLemmas.{shorter}
use Rattle.vr_wasm_decode.proofs.ItemLoop.{fails_on, fails_by}
use Rattle.vr_wasm_decode.proofs.SectionLemmas.{reads_any_section}

-- what is still read from here, after this last section and with this module, is what is read from the beginning
abbrev pub GoesOn : Rest → ℕ → Progress → Rest → Type 0
GoesOn first last p now =
    (fuel : ℕ) → length first.bytes ≤ fuel → (left : ℕ) × (length now.bytes ≤ left) × (sections_at left last p now ≡ sections_at fuel 0 start first)

pub begins : (first : Rest) → GoesOn first 0 start first
begins first fuel enough = (fuel, enough, refl)

pub all_by : (result : Result Module ReadError) (one other : Result Module DecodeFault) → one ≡ other → GivesAll result one → GivesAll result other
all_by (Ok m) one other e h = sym e ∙ h
all_by (Err f) one other e h = fails_by f one other e h

-- at the end, and before a section
at_end : (left last : ℕ) (p : Progress) (now : Rest) → now.bytes ≡ [] → sections_at left last p now ≡ finished_at p now.place
unfolding sections_at
at_end zero last p now e = refl
at_end (suc left) last p now e = ap (λ (bytes : List ℕ). next_section_at (sections_at left) last p now.place bytes) e

pub ends : (first : Rest) (last : ℕ) (p : Progress) (now : Rest) (result : Result Module ReadError) → GoesOn first last p now → now.bytes ≡ [] → GivesAll result (finished_at p now.place)
    → (fuel : ℕ) → length first.bytes ≤ fuel → GivesAll result (sections_at fuel 0 start first)
ends first last p now result so_far e h fuel enough =
    let s = so_far fuel enough in
    all_by result (finished_at p now.place) (sections_at fuel 0 start first) (sym (at_end s.0 last p now e) ∙ s.2) h

module _ (first : Rest) (last : ℕ) (p : Progress) (now : Rest) (id : ℕ) (after : Rest) (so_far : GoesOn first last p now) (taken : Consumes now (id ∷ []) after) where
  after_is : after ≡ rest (now.place + 1) after.bytes
  after_is = ap (λ (p : ℕ). rest p after.bytes) taken.moved

  one_more : (fuel : ℕ) → length first.bytes ≤ fuel
      → (left : ℕ) × (length after.bytes ≤ left) × (on_ok (any_section_at id now.place last p after) (λ x end. sections_at left x.0 x.1 end) ≡ sections_at fuel 0 start first)
  unfolding sections_at
  one_more fuel enough = by (so_far fuel enough).0 (so_far fuel enough).1 (so_far fuel enough).2 where
    by : (left : ℕ) → length now.bytes ≤ left → sections_at left last p now ≡ sections_at fuel 0 start first
        → (left : ℕ) × (length after.bytes ≤ left) × (on_ok (any_section_at id now.place last p after) (λ x end. sections_at left x.0 x.1 end) ≡ sections_at fuel 0 start first)
    by zero le e = absurd (omega (arith, le, ap length taken.parts))
    by (suc left) le e = (
      left,
      omega (arith, le, ap length taken.parts),
      ap (λ (r : Rest). on_ok (any_section_at id now.place last p r) (λ x end. sections_at left x.0 x.1 end)) after_is
          ∙ sym (ap (λ (bytes : List ℕ). next_section_at (sections_at left) last p now.place bytes) taken.parts) ∙ e,
    )

  pub section_fails : (e : ReadError) → Tells (told e) (any_section_at id now.place last p after) → (fuel : ℕ) → length first.bytes ≤ fuel → Tells (told e) (sections_at fuel 0 start first)
  section_fails e h fuel enough =
      let s = one_more fuel enough in
      fails_by e _ _ s.2 (fails_on e (any_section_at id now.place last p after) (λ x end. sections_at s.0 x.0 x.1 end) h)

  module _ (x : ℕ × Progress) (end : Rest) (read : any_section_at id now.place last p after ≡ Ok (x, end)) where
    pub no_more : length end.bytes ≤ length after.bytes
    no_more = shorter ((reads_any_section id now.place last p).found after x end read)

    pub fewer : length end.bytes < length now.bytes
    fewer = omega (arith, no_more, ap length taken.parts)

    pub goes_on : GoesOn first x.0 x.1 end
    goes_on fuel enough =
        let s = one_more fuel enough in
        (s.0, omega (arith, no_more, s.1), sym (ap (λ (r : Result ((ℕ × Progress) × Rest) DecodeFault). on_ok r (λ y end. sections_at s.0 y.0 y.1 end)) read) ∙ s.2)
