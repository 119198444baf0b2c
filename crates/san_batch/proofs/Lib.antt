pub mod HeardLemmas
pub mod OutcomeLemmas
pub mod TextLemmas
