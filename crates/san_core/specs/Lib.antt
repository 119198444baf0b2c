pub mod Nets
pub mod Committed
pub mod Machines
pub mod Redone
pub mod Needed
pub mod Whole
pub mod inner
