pub mod Asking
pub mod Clocks
pub mod Renewals
