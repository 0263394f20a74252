pub mod CalleeLemmas
pub mod CheckLemmas
pub mod ConstantLemmas
pub mod FunctionLemmas
pub mod LinkLemmas
pub mod PlaceLemmas
pub mod StoreLemmas
