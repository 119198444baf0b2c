pub mod Places
pub mod Instances
pub mod Trees
pub mod inner
