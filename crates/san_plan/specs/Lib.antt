pub mod Plans
pub mod Soonest
pub mod inner
