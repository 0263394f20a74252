-- What holds of the value that a chain of checks ends with, and of the values of two chains over
-- two worlds.
use Rattle.std.proofs.Common.{◌≡◌, Bool, true, false, not, Ok, Err, refl, subst, sym}
use Rattle.vr_wasi_calls.specs.Checks.{Checked, refuse_if, ◌>>=◌, ◌>>◌}
use Rattle.vr_wasi_calls.specs.declared.errno.Errno.{Errno}

-- it holds of the value, where there is one
pub data Passes {A : Type 0} (P : A → Type 0) : Checked A → Type 0 where
  passes : {x : A} → P x → Passes P (Ok x)
  refused : {errno : Errno} → Passes P (Err errno)

-- it does where it holds of what comes after a check that passes
pub after_value : {A B : Type 0} (P : B → Type 0) (c : Checked A) (f : A → Checked B) → ((x : A)
    → c ≡ Ok x → Passes P (f x)) → Passes P (c >>= f)
after_value P (Ok x) f h = h x refl
after_value P (Err errno) f h = refused

pub after_test : {A B : Type 0} (P : B → Type 0) (c : Checked A) (rest : Checked B) → ((x : A)
    → c ≡ Ok x → Passes P rest) → Passes P (c >> rest)
after_test P (Ok x) rest h = h x refl
after_test P (Err errno) rest h = refused

-- both have values that are related, or are refused with one error number
pub data Same {A B : Type 0} (R : A → B → Type 0) : Checked A → Checked B → Type 0 where
  both : {x : A} {y : B} → R x y → Same R (Ok x) (Ok y)
  neither : {errno : Errno} → Same R (Err errno) (Err errno)

-- they are where what comes after one check is
pub same_value : {A B C : Type 0} (R : B → C → Type 0) (c : Checked A) (f : A → Checked B) (g : A
    → Checked C) → ((x : A) → c ≡ Ok x → Same R (f x) (g x)) → Same R (c >>= f) (c >>= g)
same_value R (Ok x) f g h = h x refl
same_value R (Err errno) f g h = neither

pub same_test : {A B C : Type 0} (R : B → C
    → Type 0) (c : Checked A) (f : Checked B) (g : Checked C) → ((x : A) → c ≡ Ok x → Same R f g)
    → Same R (c >> f) (c >> g)
same_test R (Ok x) f g h = h x refl
same_test R (Err errno) f g h = neither

-- two checks that are one
pub same_by : {A B C : Type 0} (R : B → C → Type 0) (c d : Checked A) (f : A → Checked B) (g : A
    → Checked C) → d ≡ c → ((x : A) → c ≡ Ok x → Same R (f x) (g x)) → Same R (c >>= f) (d >>= g)
same_by {A} {B} {C} R c d f g e h =
    let Goal : Checked A → Type 0 = λ check. Same R (c >>= f) (check >>= g) in
    subst Goal (sym e) (same_value R c f g h)

pub same_test_by : {A B C : Type 0} (R : B → C
    → Type 0) (c d : Checked A) (f : Checked B) (g : Checked C) → d ≡ c → ((x : A) → c ≡ Ok x
    → Same R f g) → Same R (c >> f) (d >> g)
same_test_by {A} {B} {C} R c d f g e h =
    let Goal : Checked A → Type 0 = λ check. Same R (c >> f) (check >> g) in
    subst Goal (sym e) (same_test R c f g h)

-- a test that let pass didn't find its fault
pub not_found : (test : Bool) (errno : Errno) → refuse_if test errno ≡ Ok tt → test ≡ false
not_found false errno h = refl
not_found true errno h = absurd cc

pub found : (test : Bool) (errno : Errno) → refuse_if (not test) errno ≡ Ok tt → test ≡ true
found true errno h = refl
found false errno h = absurd cc
