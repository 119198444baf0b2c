pub mod Homes
pub mod Paths
pub mod Networks
pub mod Flattened
pub mod inner
