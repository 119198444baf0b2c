pub mod Speculating
pub mod CoreCalls
pub mod Claims
pub mod Counting
pub mod Publishing
pub mod Snapshots
pub mod Boards
pub mod inner
