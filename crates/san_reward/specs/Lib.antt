pub mod Running
pub mod Worth
pub mod Examples
pub mod Smallness
pub mod inner
