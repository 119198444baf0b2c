pub mod Runs
pub mod Settled
pub mod Shown
pub mod inner
