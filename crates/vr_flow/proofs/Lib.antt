pub mod ClosingLemmas
pub mod LoopLemmas
pub mod NameLemmas
pub mod PlaceLemmas
pub mod PolicyLemmas
pub mod ReachLemmas
pub mod SetLemmas
pub mod TableLemmas
