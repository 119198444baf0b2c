pub mod Batches
pub mod Outcomes
pub mod Texts
pub mod inner
