pub mod Needs
pub mod Changes
pub mod Reflected
pub mod inner
