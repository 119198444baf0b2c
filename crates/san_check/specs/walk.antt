pub mod Activity
pub mod Atomic
pub mod Composition
pub mod Expression
pub mod Reward
pub mod Model
pub mod Entries
