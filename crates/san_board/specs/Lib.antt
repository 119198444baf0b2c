pub mod Passes
pub mod Booked
pub mod Fakes
