pub mod Clearances
pub mod Filters
pub mod Meets
