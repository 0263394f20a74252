-- What a program or a pipeline modifies it observes.
use Rattle.std.proofs.Common.{◌≡◌, ℕ, Bool, true, false, ◌||◌, ◌&&◌, List, [], ◌∷◌, refl}
use Rattle.std.specs.List.{list_any}
use Rattle.vr_policy_read.specs.PolicyData.{PolicyData}
use Rattle.vr_policy_read.specs.declared.entries.Program.{Program}
use Rattle.vr_pipe.specs.Trees.{PipeTree, programs_of, tests_of}
use Rattle.vr_base.specs.Rights.{has_bit, path_open, path_filestat_get, path_unlink_file}
use Rattle.vr_rights.specs.Flows.{has_any, changing_rights, word_observes, word_modifies, program_observes, program_modifies, programs_run, is_among, pipeline_observes, pipeline_modifies}
use Rattle.vr_rights.specs.Words.{word_in}

either_way : (opens looks unlinks changes : Bool) → (unlinks || (opens && changes)) ≡ true → (opens || (looks || (unlinks || false))) ≡ true
either_way true looks unlinks changes h = refl
either_way false true unlinks changes h = refl
either_way false false true changes h = refl
either_way false false false changes h = cc

pub observes_what_it_modifies : (word : ℕ) → word_modifies word ≡ true → word_observes word ≡ true
observes_what_it_modifies word h = either_way (has_bit word path_open) (has_bit word path_filestat_get) (has_bit word path_unlink_file) (has_any word changing_rights) h

or_right : (a b : Bool) → b ≡ true → (a || b) ≡ true
or_right true b h = refl
or_right false b h = h

or_cases : (a b c d : Bool) → (a ≡ true → c ≡ true) → (b ≡ true → d ≡ true) → (a || b) ≡ true → (c || d) ≡ true
or_cases true b true d f g h = refl
or_cases true b false d f g h = let c : false ≡ true = f refl in cc
or_cases false b c d f g h = or_right c d (g h)

any_weaker : {X : Type 0} (p q : X → Bool) → ((x : X) → p x ≡ true → q x ≡ true) → (xs : List X) → list_any p xs ≡ true → list_any q xs ≡ true
any_weaker p q w [] h = h
any_weaker p q w (x ∷ xs) h = or_cases (p x) (list_any p xs) (q x) (list_any q xs) (w x) (any_weaker p q w xs) h

pub pipeline_observes_what_it_modifies : (policy : PolicyData) (pipeline : PipeTree) (region : List ℕ) → pipeline_modifies policy pipeline region ≡ true → pipeline_observes policy pipeline region ≡ true
pipeline_observes_what_it_modifies policy pipeline region h =
    or_right (is_among (programs_of pipeline) region) _ (or_right (is_among (tests_of pipeline) region) _
    (any_weaker (λ (p : Program). program_modifies p region) (λ (p : Program). program_observes p region) (λ p m. observes_what_it_modifies (word_in region p.grants) m) (programs_run policy pipeline) h))
