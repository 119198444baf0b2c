pub mod Sound
pub mod Longest
pub mod Series
