pub mod CursorLemmas
pub mod InstructionLemmas
pub mod NumberLemmas
pub mod PowerLemmas
pub mod SignedLemmas
