mod Lefts
pub mod OneHistory
mod Serving
pub mod Sums
mod Taking
mod Turning
mod Working
