-- What an answer says of the faults that it was made of.
use Rattle.std.proofs.Common.{◌≡◌, Option, None, Some, option_map, Ok, refl}
use Rattle.std.specs.Option.{option_or}
use Rattle.vr_base.specs.Checks.{unless_fault}

-- a value was answered, so there is no fault
pub answered : {A E : Type 0} (fault : Option E) (value answer : A) → unless_fault fault value ≡ Ok answer → (fault ≡ None) × (value ≡ answer)
answered None value answer e = (refl, cc)
answered (Some fault) value answer e = cc

-- there is neither of two faults
pub neither : {E : Type 0} (first rest : Option E) → option_or first rest ≡ None → (first ≡ None) × (rest ≡ None)
neither None rest e = (refl, e)
neither (Some fault) rest e = cc

-- no fault was made of none
pub none_mapped : {X E : Type 0} (f : X → E) (o : Option X) → option_map f o ≡ None → o ≡ None
none_mapped f None e = refl
none_mapped f (Some x) e = cc
