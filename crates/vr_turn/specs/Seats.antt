-- What a seat knows, and how each step changes it.
use Rattle.std.specs.Prelude.{◌⊎◌, ℕ, ◌+◌, ◌-◌, ◌<◌, ◌≤◌, max, Bool, true, false, List, [], ◌∷◌, ◌++◌, length, nat_lt, if◌then◌else◌}
use Rattle.std.specs.List.{Contains, range_with_len}
use Rattle.vr_base.specs.declared.calls.Entry.{Entry}
use Rattle.vr_turn.specs.declared.views.Doing.{Doing}
use Rattle.vr_turn.specs.declared.views.Doing.TheVariants.{Resting, Holding, Joining, Spent}
use Rattle.vr_turn.specs.declared.views.Held.{Held}
use Rattle.vr_turn.specs.declared.views.Knowledge.{Knowledge}
use Rattle.vr_turn.specs.declared.views.View.{View}

-- the numbers of a seat: its own, and those that it took in
abbrev pub numbers : Knowledge → List ℕ
numbers knows = knows.number ∷ knows.taken

-- a number that the seat may still give
abbrev pub MayGive : Knowledge → ℕ → Type 0
MayGive knows number = (knows.next ≤ number) × (number < knows.end)

-- a number that belongs to the seat, in one way or the other
abbrev pub Has : Knowledge → ℕ → Type 0
Has knows number = Contains (numbers knows) number ⊎ MayGive knows number

-- what a spent seat knows
abbrev pub nothing : Knowledge
nothing = record { number = 0; taken = []; next = 0; end = 0; seen = []; faults = 0; found = 0 }

-- the first seat has number 0, may give all others, and has seen and found the count of faults
abbrev pub first_knowledge : ℕ → ℕ → Knowledge
first_knowledge most faults =
    record nothing { next = 1; end = most; faults = faults; found = faults }

-- a seat after it has given its next number
abbrev pub gave : Knowledge → Knowledge
gave knows = record knows { next = knows.next + 1 }

-- the seat that has this number: it knows what the giver knows, and may give none
abbrev pub given : Knowledge → Knowledge
given knows = record knows { number = knows.next; taken = []; next = 0; end = 0 }

-- the longer of two histories
abbrev pub longer : List Entry → List Entry → List Entry
longer this other = if nat_lt (length this) (length other) then other else this

-- the numbers that a seat hands over when another takes it in
abbrev pub all_numbers : Knowledge → List ℕ
all_numbers knows = numbers knows ++ range_with_len knows.next (knows.end - knows.next)

-- a seat that took in another: it has the longer history, the greater count of faults and all
-- numbers of the other
abbrev pub joined : Knowledge → Knowledge → Knowledge
joined this other = record this {
  taken = this.taken ++ all_numbers other;
  seen = longer this.seen other.seen;
  faults = max this.faults other.faults;
}

-- a seat that gave the turn back, with the history that it left and the counts of faults that it
-- left and had found
abbrev pub turned : Knowledge → List Entry → ℕ → ℕ → Knowledge
turned knows history faults found = record knows { seen = history; faults = faults; found = found }

-- a seat between its turns
abbrev pub resting : Knowledge → View
resting knows = record { knows = knows; doing = Resting }

-- a seat that holds the turn
abbrev pub holding : Knowledge → Held → View
holding knows held = record { knows = knows; doing = Holding held }

-- the view of the first seat
abbrev pub first_view : ℕ → ℕ → View
first_view most faults = resting (first_knowledge most faults)

-- a seat that gives its next number
abbrev pub without_next : View → View
without_next view = resting (gave view.knows)

-- the new seat with that number
abbrev pub with_next : View → View
with_next view = resting (given view.knows)

-- a seat that has just taken in another
abbrev pub joining : View → View → View
joining this other = record {
  knows = joined this.knows other.knows;
  doing = Joining record { this = this.knows; other = other.knows };
}

-- a seat that was taken in
abbrev pub spent_view : View
spent_view = record { knows = nothing; doing = Spent }

-- whether a seat was not taken in
abbrev pub is_live : Doing → Bool
is_live Spent = false
is_live doing = true

-- the numbers of a live seat, and none of a spent one
abbrev pub live_numbers : View → List ℕ
live_numbers view = if is_live view.doing then numbers view.knows else []
