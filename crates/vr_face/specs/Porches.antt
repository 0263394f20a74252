-- What a porch keeps of the listener that it was made over.
use Rattle.std.specs.Prelude.{◌≡◌, ◌<◌, ◌⊎◌, Bool, true, List, ◌++◌, All, Option, Some, IfSome}
use Rattle.vr_base.specs.Links.{EndedLink}
use Rattle.vr_face.specs.Sessions.{ServedInPart, ServedWhole}
use Rattle.vr_face.specs.declared.sessions.SessionEnd.{SessionEnd}

-- The connection is served whole; or in part, and it failed or a session wanted memory.
abbrev pub IsServedLink : Bool → EndedLink → Type 0
IsServedLink wanted link =
    ((end : SessionEnd) × ServedWhole link.input link.written end)
    ⊎ (ServedInPart link.input link.written × ((0 < link.faults) ⊎ (wanted ≡ true)))

-- The list has grown by connections that are served.
pub record GrowsServed (old : Option (List EndedLink)) (list : List EndedLink)
    (wanted : Bool) : Type 0 where
  pub first : List EndedLink
  pub more : List EndedLink
  pub told : old ≡ Some first
  pub grown : list ≡ first ++ more
  pub served : All (IsServedLink wanted) more

-- The connections that were given back since then are served, where they are still told.
abbrev pub KeepsServed : Option (List EndedLink) → Option (List EndedLink) → Bool → Type 0
KeepsServed old new wanted = ∥ IfSome new (λ list. GrowsServed old list wanted) ∥₁
