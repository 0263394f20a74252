-- What is written on a line, whose words are the parts of a text between spaces.
use Rattle.std.proofs.Common.{◌≡◌, ℕ, List, ◌∷◌, Ok, Err, cond, codes, refl, ap}
use Rattle.std.specs.Prelude.{bytes_eq}
use Rattle.std.proofs.lemmas.List.Splits.{join_with_byte-slice_split}
use Rattle.vr_base.specs.Cuts.{parts_at}
use Rattle.vr_base.specs.Signs.{space}
use Rattle.vr_base.specs.declared.calls.Call.TheVariants.{Write, Append}
use Rattle.vr_report.specs.Lines.{empty_of, text_of, hex_of, fill_of, call_of, keeping_call}
use Rattle.vr_report.specs.declared.reading.LineFault.TheVariants.{Form}
use Rattle.vr_text.proofs.LineLemmas.{parts_first}

-- nothing may come after "empty"
pub empty_without_words : (rest : List ℕ) → empty_of (parts_at space rest) ≡ Err Form
empty_without_words rest = let first = parts_first space rest in rw first.2 refl

-- the words after "text" are joined to what is there
pub text_of_words : (rest : List ℕ) → text_of (parts_at space rest) ≡ Ok rest
text_of_words rest =
    let whole = join_with_byte-slice_split space rest in
    let first = parts_first space rest in
    rw first.2 (ap Ok (rw first.2 at whole))

-- one word of digits may come after "hex"
pub hex_of_more : (digits rest : List ℕ) → hex_of (digits ∷ parts_at space rest) ≡ Err Form
hex_of_more digits rest = let first = parts_first space rest in rw first.2 refl

-- two words may come after "fill"
pub fill_of_more : (digits count rest : List ℕ) → fill_of (digits ∷ count ∷ parts_at space rest) ≡ Err Form
fill_of_more digits count rest = let first = parts_first space rest in rw first.2 refl

-- the call that keeps a content of these words
pub call_of_content : (verb name kind : List ℕ) (words parts : List (List ℕ)) → parts ≡ kind ∷ words
    → call_of (verb ∷ name ∷ parts)
    ≡ cond (bytes_eq verb (codes "write")) (keeping_call (λ n b. Write n b) name kind words)
    (cond (bytes_eq verb (codes "append")) (keeping_call (λ n b. Append n b) name kind words) (Err Form))
call_of_content verb name kind words parts e = rw e refl
