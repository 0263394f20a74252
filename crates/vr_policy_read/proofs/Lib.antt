pub mod LimitLemmas
