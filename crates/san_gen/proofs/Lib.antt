pub mod LengthLemmas
pub mod LineLemmas
