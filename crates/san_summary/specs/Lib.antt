pub mod Batches
pub mod Examples
pub mod Summaries
pub mod inner
