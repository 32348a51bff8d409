pub mod Once
pub mod Puts
pub mod Takings
pub mod TakingLaws
