pub mod InStepLemmas
pub mod KeptLemmas
