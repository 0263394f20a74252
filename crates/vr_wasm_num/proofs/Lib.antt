pub mod RotationLemmas
