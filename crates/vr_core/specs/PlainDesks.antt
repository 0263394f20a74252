-- The history of a desk from which all calls are made.
use Rattle.std.specs.Prelude.{ℕ, ◌==◌, IsTrue, List}
use Rattle.std.specs.List.{list_all}
use Rattle.vr_base.specs.declared.calls.Entry.{Entry}

-- every entry came by this seat
abbrev pub AreBySeat : ℕ → List Entry → Type 0
AreBySeat seat history = IsTrue (list_all (λ entry. entry.seat == seat) history)
