pub mod BatchLemmas
mod PlaceLemmas
mod SummaryLemmas
