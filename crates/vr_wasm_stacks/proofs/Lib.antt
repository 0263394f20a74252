pub mod CountLemmas
pub mod FlatLemmas
pub mod JumpLemmas
pub mod LayerLemmas
