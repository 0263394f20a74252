-- What the operations of the stack make of a shape, seen as the lists that fit it.
use Rattle.std.proofs.Common.{◌≡◌, ℕ, ◌-◌, ◌≤◌, length, take, drop, arith, length-drop, List, [], ◌∷◌, ◌++◌, ◌↔◌, Option, None, Some, Result, Ok, Err, Bool, true, false, IsTrue, MatchOption, reverse, refl, sym, subst, ap, ◌∙◌, append_assoc, append-nil}
use Rattle.std.proofs.lemmas.List.{reverse-append, take-append-drop, take_all}
use Rattle.std.proofs.lemmas.Grind.{reverse_onto}
use Rattle.vr_wasm_ast.specs.declared.tree.ValType.{ValType}
use Rattle.vr_wasm_ast.specs.declared.tree.ValType.TheVariants.{I32}
use Rattle.vr_wasm_valid.specs.Context.{result_list}
use Rattle.vr_wasm_valid.specs.Shape.{Shape, shape, Rule, Checks, Differ, Fits, FitsAbove, IsBare, Matches, Meets, Moves, Pops, Pushes, Steps, Sticks}
use Rattle.vr_wasm_valid.specs.Steps.{Drops, Leaves, Selects, Takes}

pub fits_along : (s : Shape) {xs ys : List ValType} → xs ≡ ys → Fits s xs → Fits s ys
fits_along s e f = let P : List ValType → Type 0 = λ zs. Fits s zs in subst P e f

-- ---- what an answer says

pub moves_on : {a b : Shape} {R : Rule} → Steps a b R → Moves true a b R
moves_on s = record { steps = λ _. s; sticks = λ fails. let never : ⊥ = cc fails in absurd never }

pub moves_nowhere : {fine : Bool} {a b : Shape} {R : Rule} → fine ≡ false → Sticks a R
    → Moves fine a b R
moves_nowhere e s = record {
  steps = λ holds. let never : ⊥ = cc (holds, e) in absurd never;
  sticks = λ _. s;
}

pub checks_on : {E : Type 0} {a b : Shape} {R : Rule} → Steps a b R → Checks {E = E} (Ok true) a b R
checks_on s = record { moves = moves_on s }

pub checks_nowhere : {E : Type 0} {a b : Shape} {R : Rule} → Sticks a R
    → Checks {E = E} (Ok false) a b R
checks_nowhere s = record { moves = moves_nowhere refl s }

-- ---- one thing after another

moves_then : {R S T : Rule} {fine : Bool} {a b c : Shape} → Steps a b R → Moves fine b c S
    → ((x z : List ValType) → T x z → (y : List ValType) × R x y × S y z)
    → ((x y z : List ValType) → R x y → S y z → T x z) → Moves fine a c T
moves_then r s cut join = record {
  steps = λ holds. record {
    back = λ ts f.
        let later = (s.steps holds).back ts f in
        let first = r.back later.0 later.1 in
        (first.0, first.1, join first.0 later.0 ts first.2 later.2);
    on = λ earlier ts f w.
        let m = cut earlier ts w in
        (s.steps holds).on m.0 ts (r.on earlier m.0 f m.1) m.2;
  };
  sticks = λ fails. record {
    none = λ earlier ts f w.
        let m = cut earlier ts w in
        (s.sticks fails).none m.0 ts (r.on earlier m.0 f m.1) m.2;
  };
}

sticks_then : {R T : Rule} {a : Shape} → Sticks a R
    → ((x z : List ValType) → T x z → (y : List ValType) × R x y) → Sticks a T
sticks_then r cut = record {
  none = λ earlier ts f w. let m = cut earlier ts w in r.none earlier m.0 f m.1;
}

cut_takes : (i j o x z : List ValType) → Takes (i ++ j) o x z
    → (y : List ValType) × Takes i [] x y × Takes j o y z
cut_takes i j o x z r = (
  j ++ r.below,
  record { below = j ++ r.below; taken_off = r.taken_off ∙ append_assoc i j r.below; put_on = refl },
  record { below = r.below; taken_off = refl; put_on = r.put_on },
)

join_takes : (i j o x y z : List ValType) → Takes i [] x y → Takes j o y z → Takes (i ++ j) o x z
join_takes i j o x y z r s =
    let below : r.below ≡ j ++ s.below = sym r.put_on ∙ s.taken_off in
    let whole : x ≡ i ++ (j ++ s.below) = r.taken_off ∙ ap (λ (w : List ValType). i ++ w) below in
    record { below = s.below; taken_off = whole ∙ sym (append_assoc i j s.below); put_on = s.put_on }

pub takes_then : {i j o : List ValType} {fine : Bool} {a b c : Shape} → Steps a b (Takes i [])
    → Moves fine b c (Takes j o) → Moves fine a c (Takes (i ++ j) o)
takes_then {i} {j} {o} r s = moves_then r s (cut_takes i j o) (join_takes i j o)

pub sticks_at_first : {i o : List ValType} {a : Shape} (j : List ValType) → Sticks a (Takes i [])
    → Sticks a (Takes (i ++ j) o)
sticks_at_first {i} {o} j r = sticks_then r (λ x z w. let m = cut_takes i j o x z w in (m.0, m.1))

pub takes_then_checks : {E : Type 0} {i j o : List ValType} {r : Result Bool E} {a b c : Shape}
    → Steps a b (Takes i []) → Checks r b c (Takes j o) → Checks r a c (Takes (i ++ j) o)
takes_then_checks {r = Ok fine} s w = record { moves = takes_then s w.moves }
takes_then_checks {r = Err e} s w = record { moves = w.moves }

pub moves_along : {i j o : List ValType} {fine : Bool} {a b : Shape} → i ≡ j
    → Moves fine a b (Takes i o)
    → Moves fine a b (Takes j o)
moves_along {o = o} {fine = fine} {a = a} {b = b} e m =
    let P : List ValType → Type 0 = λ x. Moves fine a b (Takes x o) in subst P e m

-- ---- one operand

popped : {k : Option ValType} {t : ValType} {a b : Shape} {earlier ts : List ValType} → Pops k a b
    → Fits a earlier → (r : Takes (t ∷ []) [] earlier ts) → Matches k t × Fits b ts
popped {t = t} {a = a} {b = b} p f r =
    let m = p.split t r.below (fits_along a r.taken_off f) in (m.0, fits_along b (sym r.put_on) m.1)

one_taken : (t : ValType) (ts : List ValType) → Takes (t ∷ []) [] (t ∷ ts) ts
one_taken t ts = record { below = ts; taken_off = refl; put_on = refl }

-- an operand is taken where its type is what is wanted
pub take_moves : {k : Option ValType} {t : ValType} {fine : Bool} {a b : Shape} → Pops k a b
    → (IsTrue fine ↔ Matches k t) → Moves fine a b (Takes (t ∷ []) [])
take_moves {t = t} p w = record {
  steps = λ holds. record {
    back = λ ts f. (t ∷ ts, p.join t ts (w.0 holds) f, one_taken t ts);
    on = λ earlier ts f r. (popped p f r).1;
  };
  sticks = λ fails. record {
    none = λ earlier ts f r. let never : ⊥ = cc (w.1 (popped p f r).0, fails) in never;
  };
}

-- the operand before those that were taken
pub takes_more : {i : List ValType} {k : ValType} {fine next : Bool} {a b c : Shape} → fine ≡ true
    → Moves fine a b (Takes i []) → Moves next b c (Takes (k ∷ []) [])
    → Moves next a c (Takes (i ++ k ∷ []) [])
takes_more e r s = takes_then (r.steps e) s

pub takes_no_more : {i : List ValType} {fine : Bool} {a b : Shape} (k : ValType) → fine ≡ false
    → Moves fine a b (Takes i []) → Moves fine a b (Takes (i ++ k ∷ []) [])
takes_no_more k e r = moves_nowhere e (sticks_at_first (k ∷ []) (r.sticks e))

-- ---- results

gives_back : {t : ValType} {a b : Shape} → Pushes (Some t) a b → (ts : List ValType) → Fits b ts
    → (earlier : List ValType) × Fits a earlier × Takes [] (t ∷ []) earlier ts
gives_back p [] f = absurd (p.some f)
gives_back p (u ∷ us) f =
    let m = p.pops.split u us f in
    (us, m.1, record { below = us; taken_off = refl; put_on = ap (λ (v : ValType). v ∷ us) (sym m.0) })

gives_one : {t : ValType} {a b : Shape} → Pushes (Some t) a b → Steps a b (Takes [] (t ∷ []))
gives_one {t} {a} {b} p = record {
  back = gives_back p;
  on = λ earlier ts f r.
      fits_along b (sym r.put_on) (p.pops.join t r.below refl (fits_along a r.taken_off f));
}

pub gives : {given : Option ValType} {t : ValType} {a b : Shape} → given ≡ Some t → Pushes (Some t) a b
    → Steps a b (Takes [] (result_list given))
gives {a = a} {b = b} e p =
    let P : Option ValType → Type 0 = λ g. Steps a b (Takes [] (result_list g)) in
    subst P (sym e) (gives_one p)

pub apply_steps : {i o : List ValType} {a b c : Shape} → Steps a b (Takes i []) → Steps b c (Takes [] o)
    → Steps a c (Takes i o)
apply_steps {i} {o} {a} {b} {c} r s =
    let P : List ValType → Type 0 = λ x. Steps a c (Takes x o) in
    subst P (append-nil i) ((takes_then r (moves_on s)).steps refl)

pub apply_sticks : {i o : List ValType} {a : Shape} → Sticks a (Takes i []) → Sticks a (Takes i o)
apply_sticks r = record {
  none = λ earlier ts f w.
      r.none earlier w.below f (record { below = w.below; taken_off = w.taken_off; put_on = refl });
}

-- ---- what follows can't be reached

an_instance : (known : List (Option ValType)) (open_below : Bool)
    → (ts : List ValType) × FitsAbove known open_below ts
an_instance [] true = ([], tt)
an_instance [] false = ([], tt)
an_instance (None ∷ ks) open_below = let r = an_instance ks open_below in (I32 ∷ r.0, (tt, r.1))
an_instance (Some k ∷ ks) open_below = let r = an_instance ks open_below in (k ∷ r.0, (refl, r.1))

instance : (s : Shape) → (ts : List ValType) × Fits s ts
instance (shape known open_below) = an_instance known open_below

leaves_open : {i : List ValType} {fine : Bool} {a b : Shape} → Moves fine a b (Takes i [])
    → Moves fine a (shape [] true) (Leaves i)
leaves_open {b = b} r = record {
  steps = λ holds. record {
    back = λ ts f.
        let x = instance b in
        let e = (r.steps holds).back x.0 x.1 in
        (e.0, e.1, record { below = e.2.below; taken_off = e.2.taken_off });
    on = λ earlier ts f w. tt;
  };
  sticks = λ fails. record {
    none = λ earlier ts f w.
        (r.sticks fails).none earlier w.below f
        (record { below = w.below; taken_off = w.taken_off; put_on = refl });
  };
}

pub leaves_moves : {i j : List ValType} {fine : Bool} {a b c : Shape} → c ≡ shape [] true → i ≡ j
    → Moves fine a b (Takes i []) → Moves fine a c (Leaves j)
leaves_moves {j = j} {fine = fine} {a = a} opened same r =
    let P : List ValType → Type 0 = λ x. Moves fine a (shape [] true) (Leaves x) in
    let Q : Shape → Type 0 = λ x. Moves fine a x (Leaves j) in
    subst Q (sym opened) (subst P same (leaves_open r))

pub leaves_under : {t : ValType} {i : List ValType} {fine : Bool} {a b c : Shape}
    → Steps a b (Takes (t ∷ []) [])
    → Moves fine b c (Leaves i) → Moves fine a c (Leaves (t ∷ i))
leaves_under {t} {i} r s = moves_then r s
    (λ x z w. (
      i ++ w.below,
      record { below = i ++ w.below; taken_off = w.taken_off; put_on = refl },
      record { below = w.below; taken_off = refl },
    ))
    (λ x y z p q. record {
      below = q.below;
      taken_off = p.taken_off ∙ ap (λ (u : List ValType). t ∷ u) (sym p.put_on ∙ q.taken_off);
    })

pub leaves_sticks : {t : ValType} {i : List ValType} {a : Shape} → Sticks a (Takes (t ∷ []) [])
    → Sticks a (Leaves (t ∷ i))
leaves_sticks {t} {i} r = record {
  none = λ earlier ts f w.
      r.none earlier (i ++ w.below) f
      (record { below = i ++ w.below; taken_off = w.taken_off; put_on = refl });
}

-- ---- any operand, and one of two

dropped : {k : Option ValType} {a b : Shape} → (t : ValType) → Matches k t → Pops k a b
    → Steps a b Drops
dropped t m p = record {
  back = λ ts f. (t ∷ ts, p.join t ts m f, record { dropped = t; step = one_taken t ts });
  on = λ earlier ts f r. (popped p f r.step).1;
}

pub drops_steps : {k : Option ValType} {a b : Shape} → Pops k a b → Steps a b Drops
drops_steps {k = None} p = dropped I32 tt p
drops_steps {k = Some t} p = dropped t refl p

pub drops_sticks : {a : Shape} → IsBare a → Sticks a Drops
drops_sticks {a} p = record {
  none = λ earlier ts f r. p.none r.dropped r.step.below (fits_along a r.step.taken_off f);
}

-- under the i32 two operands of the selected type
two_more : {a b : Shape} {earlier ts : List ValType} → Steps a b (Takes (I32 ∷ []) []) → Fits a earlier
    → (w : Selects earlier ts) → Fits b (w.selected ∷ w.selected ∷ w.step.below)
two_more {earlier = earlier} r f w =
    let two = w.selected ∷ w.selected ∷ w.step.below in
    r.on earlier two f (record { below = two; taken_off = w.step.taken_off; put_on = refl })

pub selects_first : {a : Shape} → Sticks a (Takes (I32 ∷ []) []) → Sticks a Selects
selects_first r = record {
  none = λ earlier ts f w.
      let two = w.selected ∷ w.selected ∷ w.step.below in
      r.none earlier two f (record { below = two; taken_off = w.step.taken_off; put_on = refl });
}

pub selects_second : {a b : Shape} → Steps a b (Takes (I32 ∷ []) []) → IsBare b → Sticks a Selects
selects_second r p = record {
  none = λ earlier ts f w. p.none w.selected (w.selected ∷ w.step.below) (two_more r f w);
}

pub selects_third : {a b c : Shape} {k : Option ValType} → Steps a b (Takes (I32 ∷ []) [])
    → Pops k b c → IsBare c
    → Sticks a Selects
selects_third r p q = record {
  none = λ earlier ts f w.
      q.none w.selected w.step.below (p.split w.selected (w.selected ∷ w.step.below) (two_more r f w)).1;
}

-- the two operands
both_of : {a b c d : Shape} {k l : Option ValType} {earlier ts : List ValType}
    → Steps a b (Takes (I32 ∷ []) [])
    → Pops k b c → Pops l c d → Fits a earlier → (w : Selects earlier ts)
    → Matches k w.selected × Matches l w.selected × Fits d w.step.below
both_of r p q f w =
    let one = p.split w.selected (w.selected ∷ w.step.below) (two_more r f w) in
    let two = q.split w.selected w.step.below one.1 in
    (one.0, two.0, two.1)

pub selects_differ : {a b c d : Shape} {k l : Option ValType} → Steps a b (Takes (I32 ∷ []) [])
    → Pops k b c
    → Pops l c d → Differ k l → Sticks a Selects
selects_differ r p q x = record {
  none = λ earlier ts f w. let both = both_of r p q f w in x.none w.selected both.0 both.1;
}

selects_back : {a b c d e : Shape} {k l m : Option ValType} → Steps a b (Takes (I32 ∷ []) [])
    → Pops k b c
    → Pops l c d → Meets k l m → Pushes m d e → (ts : List ValType) → Fits e ts
    → (earlier : List ValType) × Fits a earlier × Selects earlier ts
selects_back r p q x y [] f = absurd (y.some f)
selects_back r p q x y (t ∷ ts) f =
    let last = y.pops.split t ts f in
    let both = x.split t last.0 in
    let g = r.back (t ∷ t ∷ ts) (p.join t (t ∷ ts) both.0 (q.join t ts both.1 last.1)) in
    let below : t ∷ t ∷ ts ≡ g.2.below = g.2.put_on in
    let whole : g.0 ≡ I32 ∷ t ∷ t ∷ ts = g.2.taken_off ∙ ap (λ (w : List ValType). I32 ∷ w) (sym below) in
    (g.0, g.1, record { selected = t; step = record { below = ts; taken_off = whole; put_on = refl } })

pub selects_steps : {a b c d e : Shape} {k l m : Option ValType} → Steps a b (Takes (I32 ∷ []) [])
    → Pops k b c
    → Pops l c d → Meets k l m → Pushes m d e → Steps a e Selects
selects_steps {e = e} r p q x y = record {
  back = selects_back r p q x y;
  on = λ earlier ts f w.
      let both = both_of r p q f w in
      fits_along e (sym w.step.put_on)
      (y.pops.join w.selected w.step.below (x.join w.selected both.0 both.1) both.2);
}

-- ---- the end of a sequence

all_taken : (wanted : List ValType) → Takes wanted [] wanted []
all_taken wanted = record { below = []; taken_off = sym (append-nil wanted); put_on = refl }

pub ends_as : {fine : Bool} {wanted : List ValType} {a b : Shape} → Steps a b (Takes wanted [])
    → (IsTrue fine ↔ Fits b []) → IsTrue fine ↔ Fits a wanted
ends_as {wanted = wanted} {a = a} r w = (
  (λ holds.
      let e = r.back [] (w.0 holds) in
      let none : e.2.below ≡ [] = sym e.2.put_on in
      let end = ap (λ (x : List ValType). wanted ++ x) none ∙ append-nil wanted in
      let same : e.0 ≡ wanted = e.2.taken_off ∙ end in
      fits_along a same e.1),
  (λ f. w.1 (r.on wanted [] f (all_taken wanted))),
)

pub ends_not : {fine : Bool} {wanted : List ValType} {a : Shape} → fine ≡ false
    → Sticks a (Takes wanted [])
    → IsTrue fine ↔ Fits a wanted
ends_not {wanted = wanted} e r = (
  (λ holds. let never : ⊥ = cc (holds, e) in absurd never),
  (λ f. absurd (r.none wanted [] f (all_taken wanted))),
)

not_bare : (ks : List (Option ValType)) (k : Option ValType) (open_below : Bool)
    → FitsAbove (ks ++ k ∷ []) open_below [] → ⊥
not_bare [] k open_below f = f
not_bare (x ∷ ks) k open_below f = f

bare_iff : (known : List (Option ValType)) (open_below fine : Bool) → (IsTrue fine ↔ (known ≡ []))
    → IsTrue fine ↔ FitsAbove (reverse known) open_below []
bare_iff [] true fine w = ((λ holds. tt), (λ f. w.1 refl))
bare_iff [] false fine w = ((λ holds. tt), (λ f. w.1 refl))
bare_iff (k ∷ ks) open_below fine w = (
  (λ holds. let never : ⊥ = cc (w.0 holds) in absurd never),
  (λ f.
      let P : List (Option ValType) → Type 0 = λ x. FitsAbove x open_below [] in
      absurd (not_bare (reverse ks) k open_below (subst P (reverse_onto ks k []) f))),
)

-- nothing is known exactly where no operands may stand there
pub bare_view : {s : Shape} {known : List (Option ValType)} {open_below fine : Bool}
    → s ≡ shape (reverse known) open_below
    → (IsTrue fine ↔ (known ≡ [])) → IsTrue fine ↔ Fits s []
bare_view {known = known} {open_below = open_below} {fine = fine} e w =
    let P : Shape → Type 0 = λ x. IsTrue fine ↔ Fits x [] in
    subst P (sym e) (bare_iff known open_below fine w)

not_empty : (ks : List (Option ValType)) (k : Option ValType) → ks ++ k ∷ [] ≡ [] → ⊥
not_empty [] k e = cc
not_empty (x ∷ ks) k e = cc

free_iff : (known : List (Option ValType)) (fine : Bool) → (IsTrue fine ↔ (known ≡ []))
    → IsTrue fine ↔ (shape (reverse known) true ≡ shape [] true)
free_iff [] fine w = ((λ holds. refl), (λ q. w.1 refl))
free_iff (k ∷ ks) fine w = (
  (λ holds. let never : ⊥ = cc (w.0 holds) in absurd never),
  (λ q.
      let none : reverse (k ∷ ks) ≡ [] = cc q in
      absurd (not_empty (reverse ks) k (sym (reverse_onto ks k []) ∙ none))),
)

-- where others may lie below, any operands may stand exactly where none is known
pub free_view : {s : Shape} {known : List (Option ValType)} {open_below fine : Bool}
    → s ≡ shape (reverse known) open_below
    → open_below ≡ true → (IsTrue fine ↔ (known ≡ [])) → IsTrue fine ↔ (s ≡ shape [] true)
free_view {known = known} {open_below = open_below} {fine = fine} e opened w =
    let P : Shape → Type 0 = λ x. IsTrue fine ↔ (x ≡ shape [] true) in
    let whole = ap (λ (b : Bool). shape (reverse known) b) (sym opened) ∙ sym e in
    subst P whole (free_iff known fine w)

-- ---- a list of operands cut in two

-- where any operands may stand, any may be taken
pub free_takes : {s : Shape} {i : List ValType} → s ≡ shape [] true → Steps s s (Takes i [])
free_takes {i = i} e =
    let P : Shape → Type 0 = λ x. Steps x x (Takes i []) in
    subst P (sym e) (record {
      back = λ ts f. (i ++ ts, tt, record { below = ts; taken_off = refl; put_on = refl });
      on = λ earlier ts f r. tt;
    })

-- the last `length xs - n` of them come off first
cut_reversed : (xs : List ValType) (n : ℕ) → n ≤ length xs
    → reverse (take (length xs - n) (drop n xs)) ++ reverse (take n xs) ≡ reverse xs
cut_reversed xs n within =
    let long : length (drop n xs) ≤ length xs - n = omega (arith, length-drop n xs) in
    let rest : take (length xs - n) (drop n xs) ≡ drop n xs = take_all (length xs - n) (drop n xs) long in
    let parts : take n xs ++ take (length xs - n) (drop n xs) ≡ xs =
    ap (λ (y : List ValType). take n xs ++ y) rest ∙ take-append-drop n xs in
    sym (reverse-append (take n xs) (take (length xs - n) (drop n xs))) ∙ ap reverse parts

pub takes_cut : (xs : List ValType) (n : ℕ) {fine : Bool} {a b c : Shape} → n ≤ length xs
    → Steps a b (Takes (reverse (take (length xs - n) (drop n xs))) [])
    → Moves fine b c (Takes (reverse (take n xs)) [])
    → Moves fine a c (Takes (reverse xs) [])
takes_cut xs n within r s = moves_along (cut_reversed xs n within) (takes_then r s)

pub sticks_cut : (xs : List ValType) (n : ℕ) {a b : Shape} → n ≤ length xs
    → Sticks a (Takes (reverse (take (length xs - n) (drop n xs))) [])
    → Moves false a b (Takes (reverse xs) [])
sticks_cut xs n within r =
    moves_along (cut_reversed xs n within) (moves_nowhere refl (sticks_at_first (reverse (take n xs)) r))

-- one result or none, as a slice of it reads
pub slice_of_result : (o : Option ValType) (xs : List ValType)
    → MatchOption o (xs ≡ []) (λ x. xs ≡ x ∷ [])
    → reverse xs ≡ result_list o
slice_of_result None xs e = ap reverse e
slice_of_result (Some k) xs e = ap reverse e
