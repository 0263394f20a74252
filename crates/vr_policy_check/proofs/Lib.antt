pub mod CheckedLemmas
pub mod GrantLemmas
pub mod PlaceLemmas
pub mod RepeatLemmas
pub mod RuleLemmas
pub mod TellLemmas
pub mod TreeLemmas
