pub mod ArgumentLemmas
