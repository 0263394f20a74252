-- The words of a reach, place by place, and the lines of flows, one by one.
use Rattle.std.proofs.Common.{◌≡◌, ℕ, suc, ◌+◌, ◌<◌, ◌≤◌, Bool, true, false, cond, List, [], ◌∷◌, ◌++◌, drop, length, Some, refl, sym, ap, ◌∙◌, subst, append_assoc, arith, add-one, drop-cons}
use Rattle.std.specs.Prelude.{slice_get}
use Rattle.std.specs.List.{flat_map, zip}
use Rattle.std.proofs.lemmas.Grind.{flat_map-append}
use Rattle.std.proofs.lemmas.Option.{slice_get_within, get_or_from_slice_get}
use Rattle.std.proofs.lemmas.List.{append-nil, drop_all, get_or_push, get_or_append_left, length_push}
use Rattle.vr_policy_read.specs.PolicyData.{PolicyData}
use Rattle.vr_policy_read.specs.declared.entries.Identity.{Identity}
use Rattle.vr_policy_check.specs.Rules.{CheckedData}
use Rattle.vr_flow.specs.Flows.{flows_of}
use Rattle.vr_flow.proofs.LoopLemmas.{step}
use Rattle.vr_flow.specs.Reach.{ReachData, IsReachOf}
use Rattle.vr_report.specs.Flows.{words_from, flow_line, reach_at, HasFlowLines}
use Rattle.vr_text.specs.Words.{word}

-- ---- words

module _ {A : Type 0} (name : A → List ℕ) (test : ℕ → Bool) (xs : List A) (k : ℕ) where
  -- the words from a place on begin with that of the entry there
  words_here : (x : A) → slice_get xs k ≡ Some x
      → words_from name test k (drop k xs) ≡ cond (test k) (word (name x)) [] ++ words_from name test (k + 1) (drop (k + 1) xs)
  words_here x e =
      ap (words_from name test k) (drop-cons xs k x (slice_get_within xs k x e))
      ∙ ap (λ y. cond (test k) (word (name y)) [] ++ words_from name test (k + 1) (drop (suc k) xs)) (get_or_from_slice_get xs k x x e)
      ∙ ap (λ n. cond (test k) (word (name x)) [] ++ words_from name test (k + 1) (drop n xs)) (sym (add-one k))

  module _ (x : A) (e : slice_get xs k ≡ Some x) (text : List ℕ) where
    -- a word more
    pub word_more : test k ≡ true → (text ++ word (name x)) ++ words_from name test (k + 1) (drop (k + 1) xs) ≡ text ++ words_from name test k (drop k xs)
    word_more t =
        append_assoc text _ _
        ∙ ap (λ left. text ++ left) (ap (λ b. cond b (word (name x)) [] ++ words_from name test (k + 1) (drop (k + 1) xs)) (sym t) ∙ sym (words_here x e))

    -- an entry that is passed over
    pub word_passed : test k ≡ false → text ++ words_from name test (k + 1) (drop (k + 1) xs) ≡ text ++ words_from name test k (drop k xs)
    word_passed f =
        ap (λ left. text ++ left) (ap (λ b. cond b (word (name x)) [] ++ words_from name test (k + 1) (drop (k + 1) xs)) (sym f) ∙ sym (words_here x e))

  -- past the last entry there are no words
  pub words_past : (text whole : List ℕ) → length xs ≤ k → text ++ words_from name test k (drop k xs) ≡ whole → text ≡ whole
  words_past text whole past h =
      sym (append-nil text) ∙ ap (λ left. text ++ left) (sym (ap (words_from name test k) (drop_all k xs past))) ∙ h

-- ---- lines

pub identity_list : (checked : CheckedData) (policy : PolicyData) (listed : List Identity) → policy ≡ checked.policy → listed ≡ policy.identities → listed ≡ checked.policy.identities
identity_list checked policy listed same is = is ∙ ap (λ (p : PolicyData). p.identities) same

-- a piece more
piece_more : (text line piece old new : List ℕ) → old ≡ text ++ line → new ≡ old ++ piece → new ≡ text ++ (line ++ piece)
piece_more text line piece old new h e = e ∙ ap (λ t. t ++ piece) h ∙ append_assoc text line piece

-- four pieces, written one after the other
pub four_pieces : (text t1 t2 t3 a b d e : List ℕ) → t1 ≡ text ++ a → t2 ≡ t1 ++ b → t3 ≡ t2 ++ d → t3 ++ e ≡ text ++ (((a ++ b) ++ d) ++ e)
four_pieces text t1 t2 t3 a b d e first second third =
    let two : t2 ≡ text ++ (a ++ b) = piece_more text a b t1 t2 first second in
    let three : t3 ≡ text ++ ((a ++ b) ++ d) = piece_more text (a ++ b) d t2 t3 two third in
    piece_more text ((a ++ b) ++ d) e t3 (t3 ++ e) three refl

module _ {X Y : Type 0} where
  zip_none : (xs : List X) → zip {K = X} {X = Y} xs [] ≡ []
  zip_none [] = refl
  zip_none (x ∷ xs) = refl

  -- one pair more
  zip_push : (xs : List X) (ys : List Y) (x : X) (y : Y) → slice_get xs (length ys) ≡ Some x → zip xs (ys ++ y ∷ []) ≡ zip xs ys ++ (x, y) ∷ []
  zip_push [] ys x y e = absurd (cc (e))
  zip_push (z ∷ xs) [] x y e = let same : z ≡ x = cc (e) in ap (λ t. (z, y) ∷ t) (zip_none xs) ∙ ap (λ w. (w, y) ∷ []) same
  zip_push (z ∷ xs) (w ∷ ys) x y e = ap (λ t. (z, w) ∷ t) (zip_push xs ys x y e)

module _ (checked : CheckedData) (names : List (List ℕ)) where
  -- no line is written yet
  pub no_lines : HasFlowLines checked names 0 []
  no_lines = record {
    reaches = [];
    all = refl;
    each = λ place l. absurd (omega (arith, l));
    written = ap (flat_map (λ line. flow_line checked.policy.identities names line.0 line.1)) (sym (zip_none checked.policy.identities));
  }

  -- one line more
  pub line_more : (count : ℕ) (text more : List ℕ) (identity : Identity) (reach : ReachData) → HasFlowLines checked names count text
      → slice_get checked.policy.identities count ≡ Some identity → IsReachOf (flows_of checked names) count reach
      → more ≡ text ++ flow_line checked.policy.identities names identity reach → HasFlowLines checked names (count + 1) more
  line_more count text more identity reach h e is m = record {
    reaches = h.reaches ++ reach ∷ [];
    all = length_push h.reaches reach ∙ ap (λ n. n + 1) h.all;
    each = step (λ place. IsReachOf (flows_of checked names) place (reach_at (h.reaches ++ reach ∷ []) place)) count
        (λ place l. (let before : place < length h.reaches = omega (arith, h.all) in subst (IsReachOf (flows_of checked names) place) (sym (get_or_append_left h.reaches (reach ∷ []) _ place before)) (h.each place l)))
        (let here : reach_at (h.reaches ++ reach ∷ []) count ≡ reach = get_or_push h.reaches reach _ count h.all in subst (IsReachOf (flows_of checked names) count) (sym here) is);
    written = m ∙ ap (λ t. t ++ flow_line checked.policy.identities names identity reach) h.written
        ∙ ap (λ t. flat_map line (zip checked.policy.identities h.reaches) ++ t) (sym (append-nil (line (identity, reach))))
        ∙ sym (flat_map-append line (zip checked.policy.identities h.reaches) ((identity, reach) ∷ []))
        ∙ ap (flat_map line) (sym (zip_push checked.policy.identities h.reaches identity reach (ap (slice_get checked.policy.identities) h.all ∙ e)));
  }
    where
      line : Identity × ReachData → List ℕ
      line pair = flow_line checked.policy.identities names pair.0 pair.1
