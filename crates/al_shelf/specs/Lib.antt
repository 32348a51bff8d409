pub mod Exact
pub mod Limits
pub mod Places
pub mod Same
pub mod Takes
pub mod Taking
