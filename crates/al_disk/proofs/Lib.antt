pub mod Going
pub mod Moments
pub mod Parts
pub mod Replaying
