pub mod LineLemmas
pub mod ChainLemmas
pub mod AheadLemmas
pub mod NextLemmas
