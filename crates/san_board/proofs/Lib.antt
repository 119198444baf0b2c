pub mod Crews
pub mod Growing
pub mod SendLemmas
