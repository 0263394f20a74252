-- What a holder observes and modifies by its words in the regions alone.
use Rattle.std.specs.Prelude.{ℕ, Bool, List, None, length, is_some, slice_index_or}
use Rattle.vr_base.specs.Rights.{has_bit, fd_write}
use Rattle.vr_rights.specs.Calls.{word_of}
use Rattle.vr_rights.specs.Flows.{word_observes, word_modifies, caller_observes}
use Rattle.vr_rights.specs.Tables.{RegionsData}
use Rattle.vr_flow.specs.Flows.{AreFlows}
use Rattle.vr_flow.specs.Places.{below}
use Rattle.vr_flow.specs.declared.flow.Flow.{Flow}
use Rattle.vr_rights.specs.declared.regions.Holder.{Holder}
use Rattle.vr_rights.specs.declared.regions.Holder.TheVariants.{Identity, Program}

-- a holder observes a region where it has a word
abbrev pub holder_observes : RegionsData → Holder → ℕ → Bool
holder_observes regions (Identity place) region =
    caller_observes (word_of regions (Identity place) region)
    (is_some (slice_index_or regions.quotas region None))
holder_observes regions (Program place) region =
    word_observes (word_of regions (Program place) region)

-- a holder modifies a region where it has a word
abbrev pub holder_modifies : RegionsData → Holder → ℕ → Bool
holder_modifies regions (Identity place) region =
    has_bit (word_of regions (Identity place) region) fd_write
holder_modifies regions (Program place) region =
    word_modifies (word_of regions (Program place) region)

-- the regions that a holder observes by its words
abbrev pub observed_by_words : RegionsData → Holder → ℕ → Bool
observed_by_words regions holder = below (length regions.names) (holder_observes regions holder)

-- the regions that a holder modifies by its words
abbrev pub modified_by_words : RegionsData → Holder → ℕ → Bool
modified_by_words regions holder = below (length regions.names) (holder_modifies regions holder)

-- the flows of the programs at the first places
abbrev pub AreProgramFlows : RegionsData → ℕ → List Flow → Type 0
AreProgramFlows regions count flows =
    AreFlows count (length regions.names) (λ place. observed_by_words regions (Program place))
    (λ place. modified_by_words regions (Program place)) flows
