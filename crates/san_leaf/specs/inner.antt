pub mod Cells
pub mod Ends
pub mod Gathers
pub mod Impulses
pub mod Recorded
pub mod Renewals
pub mod Turns
pub mod ViewStates
