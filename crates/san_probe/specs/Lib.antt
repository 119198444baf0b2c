pub mod Markings
pub mod Watching
pub mod inner
