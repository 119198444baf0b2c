pub mod Composing
pub mod Evaluations
pub mod Activities
pub mod Blocks
pub mod Pieces
pub mod Booking
