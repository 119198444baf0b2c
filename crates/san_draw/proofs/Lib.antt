pub mod ChoiceLemmas
pub mod StreamLemmas
