-- What is true of each world stays so where its descriptors change.
use Rattle.std.proofs.Common.{◌≡◌, ℕ, ◌+◌, ◌-◌, ◌≤◌, List, [], ◌∷◌, ◌++◌, length, replicate, All, ap, sym, ◌∙◌, arith}
use Rattle.std.proofs.lemmas.Grind.{replicate_next}
use Rattle.std.proofs.lemmas.List.{length-set}
use Rattle.std.proofs.lemmas.List.Elements.{All-cons, All-replicate, All-same, All-set}
use Rattle.vr_files.specs.Changes.{Layers}
use Rattle.vr_wasi_calls.specs.Worlds.{World, IsWorld, DescriptorFits, assembled, first_descriptors, with_descriptor}
use Rattle.vr_wasi_calls.specs.declared.descriptors.Descriptor.{Descriptor}
use Rattle.vr_wasi_calls.specs.declared.descriptors.Descriptor.TheVariants.{Closed, Input, Output, Errors, Directory}

-- nothing of the first descriptors has to be allowed
pub first_fit : (grants : List (List ℕ × ℕ)) → All (DescriptorFits grants) first_descriptors
first_fit grants =
    let fits = DescriptorFits grants in
    let closed = replicate 60 Closed in
    let rest : All fits (Errors ∷ Directory ∷ closed) =
    All-cons fits Errors (Directory ∷ closed) tt (All-cons fits Directory closed tt
    (All-replicate fits 60 Closed tt)) in
    All-cons fits Input (Output ∷ Errors ∷ Directory ∷ closed) tt (All-cons fits Output
    (Errors ∷ Directory ∷ closed) tt rest)

-- so the first descriptors make a world
pub first_is_world : (path : List ℕ) (grants : List (List ℕ × ℕ)) (files : Layers)
    (input output : List ℕ) (descriptors : List Descriptor) → descriptors ≡ first_descriptors
    → IsWorld (assembled path grants files input 0 output descriptors)
first_is_world path grants files input output descriptors same = record {
  all = ap length same;
  allowed = All-same (DescriptorFits grants) descriptors first_descriptors same (first_fit grants);
}

-- another descriptor that is allowed
pub set_is_world : (w : World) (fd : ℕ) (descriptor : Descriptor) → IsWorld w
    → DescriptorFits w.grants descriptor → IsWorld (with_descriptor w fd descriptor)
set_is_world w fd descriptor is fits = record {
  all = length-set w.descriptors fd descriptor ∙ is.all;
  allowed = All-set (DescriptorFits w.grants) w.descriptors fd descriptor fits is.allowed;
}

-- the descriptors that are made so far, when so many are there
abbrev pub begun : ℕ → List Descriptor
begun n = Input ∷ Output ∷ Errors ∷ Directory ∷ replicate (n - 4) Closed

pub begun_more : (n : ℕ) → 4 ≤ n → begun n ++ Closed ∷ [] ≡ begun (n + 1)
begun_more n le =
    let e : n + 1 - 4 ≡ n - 4 + 1 = omega arith in
    let more : replicate (n + 1 - 4) Closed ≡ replicate (n - 4) Closed ++ Closed ∷ [] = ap
    (λ k. replicate k Closed) e ∙ replicate_next (n - 4) Closed in
    ap (λ rest. Input ∷ Output ∷ Errors ∷ Directory ∷ rest) (sym more)
