pub mod Ascending
pub mod Committing
pub mod Going
pub mod Claiming
pub mod Soonest
