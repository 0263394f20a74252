-- What is written of a text that goes through a buffer, piece by piece.
use Rattle.std.proofs.Common.{◌≡◌, List, ℕ, [], ◌++◌, Option, None, Some, Result, Ok, Err, sym, ap, ◌∙◌, subst, append_assoc}
use Rattle.std.proofs.lemmas.List.{append-nil}
use Rattle.std.specs.Prelude.{IsErr}
use Rattle.std.specs.Io.KnownBytes.{Appends}
use Rattle.vr_base.specs.Outside.{AppendsPrefix}
use Rattle.vr_base.proofs.Written.{AppendsPrefix-none, Appends-then, AppendsPrefix-more, AppendsPrefix-then, AppendsPrefix-all}
use Rattle.vr_cli.specs.Gathering.{Gathers, HandsIn, HandsInLines, PutsPrefixOfOne, Writes, WritesOne}

module _ (a b c : Option (List ℕ)) (held rest left xs ys : List ℕ) where
  -- a text was handed in, and then another
  pub Gathers-then : Gathers a b held rest xs → Gathers b c rest left ys → Gathers a c held left (xs ++ ys)
  Gathers-then h k = record {
    gained = h.gained ++ k.gained;
    written = Appends-then a b c h.gained k.gained h.written k.written;
    whole = append_assoc h.gained k.gained left ∙ (ap (λ w. h.gained ++ w) k.whole ∙ (sym (append_assoc h.gained rest ys) ∙ (ap (λ w. w ++ ys) h.whole ∙ append_assoc held xs ys)));
  }

  -- a text was handed in, and a prefix of what is held and of the next was written
  pub AppendsPrefix-gathered : Gathers a b held rest xs → AppendsPrefix b c (rest ++ ys) → AppendsPrefix a c (held ++ (xs ++ ys))
  AppendsPrefix-gathered h k =
      subst (λ (t : List ℕ). AppendsPrefix a c t) (sym (append_assoc h.gained rest ys) ∙ (ap (λ w. w ++ ys) h.whole ∙ append_assoc held xs ys))
      (AppendsPrefix-then a b c h.gained (rest ++ ys) h.written k)

module _ (a b : Option (List ℕ)) (held rest xs ys : List ℕ) where
  -- of a text that goes on a prefix was written
  pub AppendsPrefix-on : AppendsPrefix a b (held ++ xs) → AppendsPrefix a b (held ++ (xs ++ ys))
  AppendsPrefix-on h = subst (λ (t : List ℕ). AppendsPrefix a b t) (append_assoc held xs ys) (AppendsPrefix-more a b (held ++ xs) ys h)

  -- a text was handed in that goes on
  pub AppendsPrefix-so_far : Gathers a b held rest xs → AppendsPrefix a b (held ++ (xs ++ ys))
  AppendsPrefix-so_far h =
      subst (λ (t : List ℕ). AppendsPrefix a b t) (sym (append_assoc h.gained rest ys) ∙ (ap (λ w. w ++ ys) h.whole ∙ append_assoc held xs ys))
      (AppendsPrefix-all a b h.gained (rest ++ ys) h.written)

-- an error came, and a prefix was written
pub HandsIn-failed : {E : Type 0} (result : Result (List ℕ) E) (a b : Option (List ℕ)) (held text : List ℕ)
    → IsErr result → AppendsPrefix a b (held ++ text) → HandsIn result a b held text
HandsIn-failed (Ok rest) a b held text failed h = cc
HandsIn-failed (Err e) a b held text failed h = h

-- nothing was handed in
pub Gathers-none : (a : Option (List ℕ)) (held : List ℕ) → Gathers a a held held []
Gathers-none None held = record { gained = []; written = tt; whole = sym (append-nil held) }
Gathers-none (Some bytes) held = record { gained = []; written = sym (append-nil bytes); whole = sym (append-nil held) }

-- a piece was added to what is held, and then all was passed on
pub Gathers-added : (a b : Option (List ℕ)) (held rest piece : List ℕ) → Gathers a b (held ++ piece) rest [] → Gathers a b held rest piece
Gathers-added a b held rest piece h = record { gained = h.gained; written = h.written; whole = h.whole ∙ append-nil (held ++ piece) }

pub AppendsPrefix-added : (a b : Option (List ℕ)) (held piece : List ℕ) → AppendsPrefix a b ((held ++ piece) ++ []) → AppendsPrefix a b (held ++ piece)
AppendsPrefix-added a b held piece h = subst (λ (t : List ℕ). AppendsPrefix a b t) (append-nil (held ++ piece)) h

-- Of a whole text all was handed in but for what is left of it.
pub record Reaches (a b : Option (List ℕ)) (held rest left whole : List ℕ) : Type 0 where
  pub so_far : List ℕ
  pub handed : Gathers a b held rest so_far
  pub split : so_far ++ left ≡ whole

pub reaches_none : (a : Option (List ℕ)) (held left whole : List ℕ) → left ≡ whole → Reaches a a held held left whole
reaches_none a held left whole e = record { so_far = []; handed = Gathers-none a held; split = e }

pub reaches_all : (a b : Option (List ℕ)) (held rest whole : List ℕ) → Reaches a b held rest [] whole → Gathers a b held rest whole
reaches_all a b held rest whole h = subst (λ (t : List ℕ). Gathers a b held rest t) (sym (append-nil h.so_far) ∙ h.split) h.handed

-- no more is handed in
pub reaches_so_far : (a b : Option (List ℕ)) (held rest left whole : List ℕ) → Reaches a b held rest left whole → AppendsPrefix a b (held ++ whole)
reaches_so_far a b held rest left whole h =
    subst (λ (t : List ℕ). AppendsPrefix a b (held ++ t)) h.split (AppendsPrefix-so_far a b held rest h.so_far left h.handed)

module _ (a b c : Option (List ℕ)) (held rest piece left whole : List ℕ) where
  -- the next piece is handed in
  pub reaches_on : (kept : List ℕ) → Reaches a b held rest (piece ++ left) whole → Gathers b c rest kept piece → Reaches a c held kept left whole
  reaches_on kept h k = record {
    so_far = h.so_far ++ piece;
    handed = Gathers-then a b c held rest kept h.so_far piece h.handed k;
    split = append_assoc h.so_far piece left ∙ h.split;
  }

  -- a prefix of the next piece is written
  pub reaches_cut : Reaches a b held rest (piece ++ left) whole → AppendsPrefix b c (rest ++ piece) → AppendsPrefix a c (held ++ whole)
  reaches_cut h k =
      subst (λ (t : List ℕ). AppendsPrefix a c (held ++ t)) (append_assoc h.so_far piece left ∙ h.split)
      (AppendsPrefix-on a c held rest (h.so_far ++ piece) left (AppendsPrefix-gathered a b c held rest rest h.so_far piece h.handed k))

-- what was handed in is written
pub Writes-gathered : {A E : Type 0} (result : Result A E) (a b c : Option (List ℕ)) (held rest text : List ℕ) → Gathers a b held rest text → Writes result b c rest → Writes result a c (held ++ text)
Writes-gathered (Ok x) a b c held rest text h k = subst (λ (t : List ℕ). Appends a c t) h.whole (Appends-then a b c h.gained rest h.written k)
Writes-gathered (Err e) a b c held rest text h k = subst (λ (t : List ℕ). AppendsPrefix a c t) h.whole (AppendsPrefix-then a b c h.gained rest h.written k)

-- ---- texts of which is known what they are

module _ {E : Type 0} (result : Result (List ℕ) E) where
  -- an error came, and of the first lines a prefix was written
  pub HandsInLines-failed : (a b : Option (List ℕ)) (held : List ℕ) (AreAll AreFirst : List ℕ → Type 0) → IsErr result
      → (lines : List ℕ) × AreFirst lines × AppendsPrefix a b (held ++ lines) → HandsInLines result a b held AreAll AreFirst
  HandsInLines-failed a b held AreAll AreFirst failed h = by_result result failed
    where
      by_result : (r : Result (List ℕ) E) → IsErr r → HandsInLines r a b held AreAll AreFirst
      by_result (Ok rest) none = cc
      by_result (Err e) none = h

  -- an error came before anything was written
  pub HandsInLines-none : (o : Option (List ℕ)) (held : List ℕ) (AreAll AreFirst : List ℕ → Type 0) → IsErr result → AreFirst [] → HandsInLines result o o held AreAll AreFirst
  HandsInLines-none o held AreAll AreFirst failed first = HandsInLines-failed o o held AreAll AreFirst failed ([], first, AppendsPrefix-none o (held ++ []))

module _ {A E : Type 0} (result : Result A E) where
  -- an error came, and of a text so far a prefix was written
  pub WritesOne-failed : (a b : Option (List ℕ)) (IsWhole : A → List ℕ → Type 0) (IsSoFar : List ℕ → Type 0) → IsErr result → PutsPrefixOfOne a b IsSoFar
      → WritesOne result a b IsWhole IsSoFar
  WritesOne-failed a b IsWhole IsSoFar failed h = by_result result failed
    where
      by_result : (r : Result A E) → IsErr r → WritesOne r a b IsWhole IsSoFar
      by_result (Ok x) none = cc
      by_result (Err e) none = h
