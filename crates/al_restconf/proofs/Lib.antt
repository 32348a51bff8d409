pub mod Carrying
pub mod Paging
pub mod Showings
pub mod Values
