-- What a pipeline's printed text spells.
use Rattle.std.proofs.Common.{◌≡◌, ℕ, ◌+◌, true, false, cond, suc, List, [], ◌∷◌, ◌++◌, length, take, drop, Ok, All, codes, ap, sym, ◌∙◌, subst, refl, arith, append_assoc}
use Rattle.std.specs.List.{join_with_byte, prefix_len}
use Rattle.std.proofs.lemmas.List.{append-nil}
use Rattle.std.proofs.Math.Seq.{take-append_seam, drop-append_seam}
use Rattle.std.proofs.lemmas.List.Elements.{All-head, All-tail, All-cons, All-append}
use Rattle.vr_base.specs.Names.{normal_form, path_of}
use Rattle.vr_base.proofs.Normal.{normal_form-normal_form}
use Rattle.vr_pipe.specs.Trees.{PipeTree, program, if_then, if_else, feed, sequence}
use Rattle.vr_pipe.specs.Pieces.{Piece, name, if_word, else_word, bar, semicolon, opening, closing, is_blank, is_sign, is_word_byte, word_piece, sign_piece, pieces_from, pieces, without_offsets, IsPathWord}
use Rattle.vr_pipe.specs.Grammar.{IsPlace, IsFeed, IsSequence, a_path, an_if, an_else, a_place, a_bar, a_feed, a_trailing, a_semicolon, Spells}
use Rattle.vr_pipe.specs.Pipes.{words_of, text_of, IsPipeline}
use Rattle.vr_pipe.proofs.WordLemmas.{path_again, path_bytes, normal_form_begins}
use Rattle.vr_pipe.proofs.PieceLemmas.{past_blank, past_sign, past_word}

-- a word or a sign as it is printed
pub data Prints : List ℕ → Piece → Type 0 where
  prints_word : {b : ℕ} {bs : List ℕ} → is_blank b ≡ false → is_sign b ≡ false → All (λ c. is_word_byte c ≡ true) (b ∷ bs) → Prints (b ∷ bs) (word_piece (b ∷ bs))
  prints_sign : {b : ℕ} → is_blank b ≡ false → is_sign b ≡ true → Prints (b ∷ []) (sign_piece b)

pub data AllPrint : List (List ℕ) → List Piece → Type 0 where
  prints_none : AllPrint [] []
  prints_more : {w : List ℕ} {p : Piece} {ws : List (List ℕ)} {ps : List Piece} → Prints w p → AllPrint ws ps → AllPrint (w ∷ ws) (p ∷ ps)

all_print_append : {ws xs : List (List ℕ)} {ps qs : List Piece} → AllPrint ws ps → AllPrint xs qs → AllPrint (ws ++ xs) (ps ++ qs)
all_print_append prints_none k = k
all_print_append (prints_more h hs) k = prints_more h (all_print_append hs k)

-- no byte of a word comes
abbrev Stops : List ℕ → Type 0
Stops [] = Unit {0}
Stops (c ∷ cs) = is_word_byte c ≡ false

word_ends : (w rest : List ℕ) → All (λ c. is_word_byte c ≡ true) w → Stops rest → prefix_len is_word_byte (w ++ rest) ≡ length w
word_ends [] [] h stops = refl
word_ends [] (c ∷ cs) h stops = ap (λ t. cond t (1 + prefix_len is_word_byte cs) 0) stops
word_ends (c ∷ cs) rest h stops =
    let P = λ (c : ℕ). is_word_byte c ≡ true in
    let more = word_ends cs rest (All-tail P c cs h) stops in
    ap (λ t. cond t (1 + prefix_len is_word_byte (cs ++ rest)) 0) (All-head P c cs h) ∙ (let e : 1 + prefix_len is_word_byte (cs ++ rest) ≡ suc (length cs) = omega (arith, more) in e)

-- the pieces after the first, which is p
pub record Begins (at : ℕ) (bytes : List ℕ) (p : Piece) (rest : List ℕ) : Type 0 where
  pub to : ℕ
  pub is : without_offsets (pieces_from at false bytes) ≡ p ∷ without_offsets (pieces_from to false rest)

one_printed : {w : List ℕ} {p : Piece} (at : ℕ) (rest : List ℕ) → Prints w p → Stops rest → Begins at (w ++ rest) p rest
one_printed at rest (prints_word {b} {bs} blank sign bytes) stops =
    let ends = word_ends (b ∷ bs) rest bytes stops in
    record {
      to = at + length (b ∷ bs);
      is = ap without_offsets (past_word at b (bs ++ rest) blank sign)
          ∙ ap (λ n. word_piece (take n (b ∷ (bs ++ rest))) ∷ without_offsets (pieces_from (at + n) false (drop n (b ∷ (bs ++ rest))))) ends
          ∙ ap (λ w. word_piece w ∷ without_offsets (pieces_from (at + length (b ∷ bs)) false (drop (length (b ∷ bs)) (b ∷ (bs ++ rest))))) (take-append_seam (b ∷ bs) rest)
          ∙ ap (λ r. word_piece (b ∷ bs) ∷ without_offsets (pieces_from (at + length (b ∷ bs)) false r)) (drop-append_seam (b ∷ bs) rest);
    }
one_printed at rest (prints_sign {b} blank sign) stops = record { to = at + 1; is = ap without_offsets (past_sign at false b rest blank sign) }

-- the words and signs of text that was printed with one space between them
pub lex_printed : {ws : List (List ℕ)} {ps : List Piece} (at : ℕ) → AllPrint ws ps → without_offsets (pieces_from at false (join_with_byte 32 ws)) ≡ ps
lex_printed at prints_none = refl
lex_printed at (prints_more {w} {p} h prints_none) =
    let b = one_printed at [] h tt in
    ap (λ x. without_offsets (pieces_from at false x)) (sym (append-nil w)) ∙ b.is
lex_printed at (prints_more {w} {p} h (prints_more {w = y} {p = q} {ws = ws} {ps = ps} k ks)) =
    let rest = join_with_byte 32 (y ∷ ws) in
    let b = one_printed at (32 ∷ rest) h refl in
    b.is ∙ ap (λ x. p ∷ without_offsets x) (past_blank b.to false 32 rest refl) ∙ ap (λ x. p ∷ x) (lex_printed (b.to + 1) (prints_more k ks))

-- a path is printed as itself
prints_path : (word : List ℕ) → path_of word ≡ Ok (normal_form word) → Prints (normal_form word) (name (normal_form word))
prints_path word h =
    let r = normal_form_begins word in
    let P : List ℕ → Type 0 = λ x. Prints x (name x) in
    let bytes : All (λ c. is_word_byte c ≡ true) (47 ∷ r.rest) = (let Q : List ℕ → Type 0 = λ x. All (λ c. is_word_byte c ≡ true) x in subst Q r.begins (path_bytes word h)) in
    subst P (sym r.begins) (prints_word {b = 47} {bs = r.rest} refl refl bytes)

-- Pieces that spell a part of a pipeline, whatever comes after, and are its printed words and signs.
pub record Printable (Part : List Piece → List Piece → Type 0) (words : List (List ℕ)) (to : List Piece) : Type 0 where
  pub pieces : List Piece
  pub prints : AllPrint words pieces
  pub spells : (rest : List Piece) → Part (pieces ++ rest) rest
  pub paths : All IsPathWord pieces
  pub after : All IsPathWord to

one_path : (p : Piece) (ps : List Piece) → IsPathWord p → All IsPathWord ps → All IsPathWord (p ∷ ps)
one_path p ps h hs = All-cons IsPathWord p ps h hs

tail_paths : (p : Piece) (ps : List Piece) → All IsPathWord (p ∷ ps) → All IsPathWord ps
tail_paths p ps h = All-tail IsPathWord p ps h

no_paths : All IsPathWord []
no_paths = λ n d k. absurd (omega arith)

path_of_word : (word : List ℕ) → path_of word ≡ Ok (normal_form word) → IsPathWord (name (normal_form word))
path_of_word word h = path_again word h

moved : (e : List ℕ → PipeTree) (Part : PipeTree → List Piece → List Piece → Type 0) (word : List ℕ) (from to : List Piece) → Part (e (normal_form (normal_form word))) from to → Part (e (normal_form word)) from to
moved e Part word from to h = let P : List ℕ → Type 0 = λ w. Part (e w) from to in subst P (normal_form-normal_form word) h

prints_if : Prints (codes "if") if_word
prints_if = prints_word {b = 105} {bs = 102 ∷ []} refl refl (All-cons (λ c. is_word_byte c ≡ true) 105 (102 ∷ []) refl (All-cons (λ c. is_word_byte c ≡ true) 102 [] refl (λ n d k. absurd (omega arith))))

prints_else : Prints (codes "else") else_word
prints_else =
    let P = λ (c : ℕ). is_word_byte c ≡ true in
    prints_word {b = 101} {bs = 108 ∷ 115 ∷ 101 ∷ []} refl refl
    (All-cons P 101 (108 ∷ 115 ∷ 101 ∷ []) refl (All-cons P 108 (115 ∷ 101 ∷ []) refl (All-cons P 115 (101 ∷ []) refl (All-cons P 101 [] refl (λ n d k. absurd (omega arith))))))

prints_open : Prints (codes "{") opening
prints_open = prints_sign {b = 123} refl refl

prints_close : Prints (codes "}") closing
prints_close = prints_sign {b = 125} refl refl

prints_bar : Prints (codes "|") bar
prints_bar = prints_sign {b = 124} refl refl

prints_semicolon : Prints (codes ";") semicolon
prints_semicolon = prints_sign {b = 59} refl refl

-- a brace after pieces, and then the rest
regroup : (ps qs rest : List Piece) → (ps ++ qs) ++ rest ≡ ps ++ (qs ++ rest)
regroup ps qs rest = append_assoc ps qs rest

prefix_paths : (w : List ℕ) (ps : List Piece) → IsPathWord (name w) → All IsPathWord ps → All IsPathWord (if_word ∷ name w ∷ opening ∷ ps)
prefix_paths w ps h hs = one_path if_word (name w ∷ opening ∷ ps) tt (one_path (name w) (opening ∷ ps) h (one_path opening ps tt hs))

closed_paths : (ps qs : List Piece) → All IsPathWord ps → All IsPathWord qs → All IsPathWord (ps ++ closing ∷ qs)
closed_paths ps qs h k = All-append IsPathWord ps (closing ∷ qs) h (one_path closing qs tt k)

if_printable : (word : List ℕ) (e : PipeTree) (to : List Piece) → path_of word ≡ Ok (normal_form word) → Printable (IsSequence e) (words_of e) (closing ∷ to)
    → Printable (IsPlace (if_then (normal_form word) e)) (words_of (if_then (normal_form word) e)) to
if_printable word e to h k =
    let w = normal_form word in
    record {
      pieces = if_word ∷ name w ∷ opening ∷ (k.pieces ++ closing ∷ []);
      prints = prints_more prints_if (prints_more (prints_path word h) (prints_more prints_open (all_print_append k.prints (prints_more prints_close prints_none))));
      spells = λ rest. moved (λ x. if_then x e) IsPlace word (if_word ∷ name w ∷ opening ∷ ((k.pieces ++ closing ∷ []) ++ rest)) rest
          (let P : List Piece → Type 0 = λ x. IsPlace (if_then (normal_form w) e) (if_word ∷ name w ∷ opening ∷ x) rest in
          subst P (sym (regroup k.pieces (closing ∷ []) rest)) (an_if w (k.spells (closing ∷ rest))));
      paths = prefix_paths w (k.pieces ++ closing ∷ []) (path_of_word word h) (closed_paths k.pieces [] k.paths no_paths);
      after = tail_paths closing to k.after;
    }

else_printable : (word : List ℕ) (e f : PipeTree) (other to : List Piece) → path_of word ≡ Ok (normal_form word) → Printable (IsSequence e) (words_of e) (closing ∷ else_word ∷ opening ∷ other)
    → Printable (IsSequence f) (words_of f) (closing ∷ to) → Printable (IsPlace (if_else (normal_form word) e f)) (words_of (if_else (normal_form word) e f)) to
else_printable word e f other to h k l =
    let w = normal_form word in
    let tail = l.pieces ++ closing ∷ [] in
    record {
      pieces = if_word ∷ name w ∷ opening ∷ (k.pieces ++ closing ∷ else_word ∷ opening ∷ tail);
      prints = prints_more prints_if (prints_more (prints_path word h) (prints_more prints_open (all_print_append k.prints
          (prints_more prints_close (prints_more prints_else (prints_more prints_open (all_print_append l.prints (prints_more prints_close prints_none))))))));
      spells = λ rest. moved (λ x. if_else x e f) IsPlace word (if_word ∷ name w ∷ opening ∷ ((k.pieces ++ closing ∷ else_word ∷ opening ∷ tail) ++ rest)) rest
          (let P : List Piece → Type 0 = λ x. IsPlace (if_else (normal_form w) e f) (if_word ∷ name w ∷ opening ∷ x) rest in
          let Q : List Piece → Type 0 = λ x. IsPlace (if_else (normal_form w) e f) (if_word ∷ name w ∷ opening ∷ (k.pieces ++ closing ∷ else_word ∷ opening ∷ x)) rest in
          subst P (sym (regroup k.pieces (closing ∷ else_word ∷ opening ∷ tail) rest))
          (subst Q (sym (regroup l.pieces (closing ∷ []) rest)) (an_else w (k.spells (closing ∷ else_word ∷ opening ∷ (l.pieces ++ closing ∷ rest))) (l.spells (closing ∷ rest)))));
      paths = prefix_paths w (k.pieces ++ closing ∷ else_word ∷ opening ∷ tail) (path_of_word word h) (closed_paths k.pieces (else_word ∷ opening ∷ tail) k.paths
          (one_path else_word (opening ∷ tail) tt (one_path opening tail tt (closed_paths l.pieces [] l.paths no_paths))));
      after = tail_paths closing to l.after;
    }

-- two parts with a sign between them
pair_printable : (A B C : List Piece → List Piece → Type 0) (p : Piece) (sign : List ℕ) (v w : List (List ℕ)) (next to : List Piece) → Prints sign p → IsPathWord p
    → ((from rest middle : List Piece) → A from (p ∷ middle) → B middle rest → C from rest)
    → Printable A v (p ∷ next) → Printable B w to → Printable C (v ++ sign ∷ w) to
pair_printable A B C p sign v w next to prints path join h k = record {
  pieces = h.pieces ++ p ∷ k.pieces;
  prints = all_print_append h.prints (prints_more prints k.prints);
  spells = λ rest. (let P : List Piece → Type 0 = λ x. C x rest in
      subst P (sym (regroup h.pieces (p ∷ k.pieces) rest)) (join (h.pieces ++ p ∷ (k.pieces ++ rest)) rest (k.pieces ++ rest) (h.spells (p ∷ (k.pieces ++ rest))) (k.spells rest)));
  paths = All-append IsPathWord h.pieces (p ∷ k.pieces) h.paths (one_path p k.pieces path k.paths);
  after = k.after;
}

mutual
  place_printable : {e : PipeTree} {from to : List Piece} → IsPlace e from to → All IsPathWord from → Printable (IsPlace e) (words_of e) to
  place_printable {to = to} (a_path word) paths =
      let h = All-head IsPathWord (name word) to paths in
      record {
        pieces = name (normal_form word) ∷ [];
        prints = prints_more (prints_path word h) prints_none;
        spells = λ rest. moved program IsPlace word (name (normal_form word) ∷ rest) rest (a_path (normal_form word));
        paths = one_path (name (normal_form word)) [] (path_of_word word h) no_paths;
        after = tail_paths (name word) to paths;
      }
  place_printable {to = to} (an_if {e} {inner} word h) paths =
      let first = tail_paths if_word (name word ∷ opening ∷ inner) paths in
      let second = tail_paths (name word) (opening ∷ inner) first in
      if_printable word e to (All-head IsPathWord (name word) (opening ∷ inner) first) (sequence_printable h (tail_paths opening inner second))
  place_printable {to = to} (an_else {e} {f} {inner} {other} word h k) paths =
      let first = tail_paths if_word (name word ∷ opening ∷ inner) paths in
      let second = tail_paths (name word) (opening ∷ inner) first in
      let taken = sequence_printable h (tail_paths opening inner second) in
      let third = tail_paths closing (else_word ∷ opening ∷ other) taken.after in
      let fourth = tail_paths else_word (opening ∷ other) third in
      else_printable word e f other to (All-head IsPathWord (name word) (opening ∷ inner) first) taken (sequence_printable k (tail_paths opening other fourth))

  feed_printable : {e : PipeTree} {from to : List Piece} → IsFeed e from to → All IsPathWord from → Printable (IsFeed e) (words_of e) to
  feed_printable (a_place h) paths = let k = place_printable h paths in
      record { pieces = k.pieces; prints = k.prints; spells = λ rest. a_place (k.spells rest); paths = k.paths; after = k.after }
  feed_printable {to = to} (a_bar {p} {s} {from} {next} h k) paths =
      let first = place_printable h paths in
      pair_printable (IsPlace p) (IsFeed s) (IsFeed (feed p s)) bar (codes "|") (words_of p) (words_of s) next to prints_bar tt (λ a b middle x y. a_bar x y) first (feed_printable k (tail_paths bar next first.after))

  sequence_printable : {e : PipeTree} {from to : List Piece} → IsSequence e from to → All IsPathWord from → Printable (IsSequence e) (words_of e) to
  sequence_printable (a_feed h) paths = let k = feed_printable h paths in
      record { pieces = k.pieces; prints = k.prints; spells = λ rest. a_feed (k.spells rest); paths = k.paths; after = k.after }
  sequence_printable {to = to} (a_trailing h) paths = let k = feed_printable h paths in
      record { pieces = k.pieces; prints = k.prints; spells = λ rest. a_feed (k.spells rest); paths = k.paths; after = tail_paths semicolon to k.after }
  sequence_printable {to = to} (a_semicolon {s} {e} {from} {next} h k) paths =
      let first = feed_printable h paths in
      pair_printable (IsFeed s) (IsSequence e) (IsSequence (sequence s e)) semicolon (codes ";") (words_of s) (words_of e) next to prints_semicolon tt (λ a b middle x y. a_semicolon x y) first
      (sequence_printable k (tail_paths semicolon next first.after))

-- what some text spells its own printed text spells
pub spelled_again : (text : List ℕ) (e : PipeTree) → Spells text e → IsPipeline e
spelled_again text e h =
    let k = sequence_printable h.grammar h.words in
    let same : pieces (text_of e) ≡ k.pieces = lex_printed 0 k.prints in
    let P : List Piece → Type 0 = λ ps. IsSequence e ps [] in
    let Q : List Piece → Type 0 = λ ps. All IsPathWord ps in
    record {
      grammar = subst P (sym same) (subst P (append-nil k.pieces) (k.spells []));
      words = subst Q (sym same) k.paths;
      nesting = h.nesting;
      programs = h.programs;
      tests = h.tests;
    }
