pub mod ProgressLemmas
pub mod SmallLemmas
pub mod TurnLemmas
pub mod WatchLemmas
