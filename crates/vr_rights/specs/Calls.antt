-- What a call answers of the tables of regions.
use Rattle.std.specs.Prelude.{ℕ, ◌<◌, length, Option, option_map, Result}
use Rattle.vr_base.specs.Checks.{unless_fault}
use Rattle.vr_rights.specs.declared.regions.Holder.{Holder}
use Rattle.vr_rights.specs.declared.regions.Holder.TheVariants.{Identity, Program}
use Rattle.vr_rights.specs.declared.regions.Missing.{Missing}
use Rattle.vr_rights.specs.Tables.{RegionsData, entry_of}

-- there is a holder at the place
abbrev pub HasHolder : RegionsData → Holder → Type 0
HasHolder regions (Identity place) = place < length regions.identities
HasHolder regions (Program place) = place < length regions.programs

-- the word of a holder in a region
abbrev pub word_of : RegionsData → Holder → ℕ → ℕ
word_of regions (Identity place) region = entry_of regions.identities place region 0
word_of regions (Program place) region = entry_of regions.programs place region 0

-- the refusal of the first program that is missing
abbrev pub run_answer : Option ℕ → Result (Unit {0}) Missing
run_answer missing = unless_fault (option_map (λ program. record { program = program }) missing) tt
