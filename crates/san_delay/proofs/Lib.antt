pub mod LongestLemmas
pub mod BoundsLemmas
pub mod SeriesLemmas
pub mod TableLemmas
mod KeptLemmas
