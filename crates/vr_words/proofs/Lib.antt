pub mod AnswerLemmas
pub mod ItemLemmas
pub mod LengthLemmas
pub mod NameLemmas
pub mod NumberLemmas
pub mod PlaceLemmas
pub mod Results
pub mod ScanLemmas
