pub mod Decided
pub mod Booked
