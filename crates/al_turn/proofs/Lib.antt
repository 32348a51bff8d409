pub mod Grows
pub mod Keeps
pub mod Places
pub mod Moves
pub mod Seats
pub mod Splits
pub mod Closing
pub mod Counting
