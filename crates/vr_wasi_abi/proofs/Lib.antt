pub mod ByteLemmas
pub mod VectorLemmas
