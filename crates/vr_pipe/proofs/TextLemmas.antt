-- The printed text of each tree, by its parts.
use Rattle.std.proofs.Common.{◌≡◌, ℕ, List, [], ◌∷◌, ◌++◌, Option, None, Some, codes, ap, sym, ◌∙◌, refl, append_assoc}
use Rattle.std.specs.List.{join_with_byte}
use Rattle.vr_pipe.specs.declared.trees.Tree.{Tree}
use Rattle.vr_pipe.specs.declared.trees.Tree.TheVariants.{Program, If, Feed, Then}
use Rattle.vr_pipe.specs.Trees.{PipeTree, program, if_then, if_else, feed, sequence, pipe_tree}
use Rattle.vr_pipe.specs.Pipes.{words_of, text_of, else_text}
use Rattle.vr_pipe.proofs.TreeLemmas.{pipeline_program, pipeline_test, pipeline_choice, pipeline_feed, pipeline_then}

abbrev HasSome : List (List ℕ) → Type 0
HasSome [] = ⊥
HasSome (w ∷ ws) = Unit {0}

some_append : (xs ys : List (List ℕ)) → HasSome xs → HasSome (xs ++ ys)
some_append [] ys h = absurd h
some_append (x ∷ xs) ys h = tt

some_words : (e : PipeTree) → HasSome (words_of e)
some_words (program path) = tt
some_words (if_then path e) = tt
some_words (if_else path e f) = tt
some_words (feed p s) = some_append (words_of p) (codes "|" ∷ words_of s) (some_words p)
some_words (sequence s e) = some_append (words_of s) (codes ";" ∷ words_of e) (some_words s)

abbrev spaced : List (List ℕ) → List ℕ
spaced ws = join_with_byte 32 ws

join_more : (w : List ℕ) (ws : List (List ℕ)) → HasSome ws → spaced (w ∷ ws) ≡ w ++ 32 ∷ spaced ws
join_more w [] h = absurd h
join_more w (x ∷ xs) h = refl

join_parts : (xs ys : List (List ℕ)) → HasSome xs → HasSome ys → spaced (xs ++ ys) ≡ spaced xs ++ 32 ∷ spaced ys
join_parts [] ys h k = absurd h
join_parts (x ∷ []) ys h k = join_more x ys k
join_parts (x ∷ z ∷ zs) ys h k =
    ap (λ r. x ++ 32 ∷ r) (join_parts (z ∷ zs) ys tt k) ∙ sym (append_assoc x (32 ∷ spaced (z ∷ zs)) (32 ∷ spaced ys))

-- two parts with a sign between them
join_pair : (a b : PipeTree) (sign : List ℕ) → spaced (words_of a ++ sign ∷ words_of b) ≡ text_of a ++ (32 ∷ (sign ++ 32 ∷ text_of b))
join_pair a b sign =
    join_parts (words_of a) (sign ∷ words_of b) (some_words a) tt ∙ ap (λ r. text_of a ++ 32 ∷ r) (join_more sign (words_of b) (some_words b))

-- a part in braces, and more words after it
join_braces : (e : PipeTree) (ws : List (List ℕ)) → HasSome ws → spaced (codes "{" ∷ (words_of e ++ ws)) ≡ codes "{ " ++ (text_of e ++ 32 ∷ spaced ws)
join_braces e ws h =
    join_more (codes "{") (words_of e ++ ws) (some_append (words_of e) ws (some_words e)) ∙ ap (λ r. codes "{" ++ 32 ∷ r) (join_parts (words_of e) ws (some_words e) h)

-- what is written before a part in braces
abbrev open_brace : List ℕ → List ℕ
open_brace path = codes "if " ++ path ++ codes " { "

regroup_if : (path rest : List ℕ) → codes "if " ++ (path ++ (codes " { " ++ rest)) ≡ open_brace path ++ rest
regroup_if path rest = ap (λ r. codes "if " ++ r) (sym (append_assoc path (codes " { ") rest))

test_text : (path : List ℕ) (e : PipeTree) → text_of (if_then path e) ≡ open_brace path ++ (text_of e ++ codes " }")
test_text path e = ap (λ r. codes "if " ++ (path ++ 32 ∷ r)) (join_braces e (codes "}" ∷ []) tt) ∙ regroup_if path (text_of e ++ codes " }")

choice_text : (path : List ℕ) (e f : PipeTree) → text_of (if_else path e f) ≡ open_brace path ++ (text_of e ++ (codes " } else { " ++ (text_of f ++ codes " }")))
choice_text path e f =
    ap (λ r. codes "if " ++ (path ++ 32 ∷ r)) (join_braces e (codes "}" ∷ codes "else" ∷ codes "{" ∷ (words_of f ++ codes "}" ∷ [])) tt)
    ∙ ap (λ r. codes "if " ++ (path ++ (codes " { " ++ (text_of e ++ (codes " } else " ++ r))))) (join_braces f (codes "}" ∷ []) tt)
    ∙ regroup_if path (text_of e ++ (codes " } else { " ++ (text_of f ++ codes " }")))

-- each tree, written after what there was
module _ (old : List ℕ) where
  pub writes_program : (path : List ℕ) → old ++ path ≡ old ++ text_of (pipe_tree (Program path))
  writes_program path = ap (λ e. old ++ text_of e) (sym (pipeline_program path))

  pub writes_if : (path : List ℕ) (e : Tree) (other : Option Tree) → ((old ++ open_brace path) ++ text_of (pipe_tree e)) ++ else_text other ≡ old ++ text_of (pipe_tree (If path e other))
  writes_if path e None =
      append_assoc (old ++ open_brace path) (text_of (pipe_tree e)) (codes " }") ∙ append_assoc old (open_brace path) (text_of (pipe_tree e) ++ codes " }")
      ∙ ap (λ t. old ++ t) (sym (test_text path (pipe_tree e))) ∙ ap (λ t. old ++ text_of t) (sym (pipeline_test path e))
  writes_if path e (Some f) =
      append_assoc (old ++ open_brace path) (text_of (pipe_tree e)) (else_text (Some f)) ∙ append_assoc old (open_brace path) (text_of (pipe_tree e) ++ else_text (Some f))
      ∙ ap (λ t. old ++ t) (sym (choice_text path (pipe_tree e) (pipe_tree f))) ∙ ap (λ t. old ++ text_of t) (sym (pipeline_choice path e f))

  writes_pair : (sign : List ℕ) (e f : Tree) (p : PipeTree) → text_of p ≡ text_of (pipe_tree e) ++ (sign ++ text_of (pipe_tree f))
      → ((old ++ text_of (pipe_tree e)) ++ sign) ++ text_of (pipe_tree f) ≡ old ++ text_of p
  writes_pair sign e f p h =
      append_assoc (old ++ text_of (pipe_tree e)) sign (text_of (pipe_tree f)) ∙ append_assoc old (text_of (pipe_tree e)) (sign ++ text_of (pipe_tree f)) ∙ ap (λ t. old ++ t) (sym h)

  pub writes_feed : (e f : Tree) → ((old ++ text_of (pipe_tree e)) ++ codes " | ") ++ text_of (pipe_tree f) ≡ old ++ text_of (pipe_tree (Feed e f))
  writes_feed e f = writes_pair (codes " | ") e f (pipe_tree (Feed e f)) (ap text_of (pipeline_feed e f) ∙ join_pair (pipe_tree e) (pipe_tree f) (codes "|"))

  pub writes_then : (e f : Tree) → ((old ++ text_of (pipe_tree e)) ++ codes " ; ") ++ text_of (pipe_tree f) ≡ old ++ text_of (pipe_tree (Then e f))
  writes_then e f = writes_pair (codes " ; ") e f (pipe_tree (Then e f)) (ap text_of (pipeline_then e f) ∙ join_pair (pipe_tree e) (pipe_tree f) (codes ";"))

  -- the steps of writing an if
  pub written_if : (a b path : List ℕ) (e taken tree : Tree) (other : Option Tree) → a ≡ old ++ open_brace path → taken ≡ e → b ≡ a ++ text_of (pipe_tree taken) → tree ≡ If path e other
      → b ++ else_text other ≡ old ++ text_of (pipe_tree tree)
  written_if a b path e taken tree other a_is taken_is b_is tree_is =
      ap (λ x. x ++ else_text other) (b_is ∙ ap (λ x. x ++ text_of (pipe_tree taken)) a_is ∙ ap (λ t. (old ++ open_brace path) ++ text_of (pipe_tree t)) taken_is)
      ∙ writes_if path e other ∙ ap (λ t. old ++ text_of (pipe_tree t)) (sym tree_is)
