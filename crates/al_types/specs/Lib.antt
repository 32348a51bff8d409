pub mod Exact
pub mod Faults
pub mod Inventories
pub mod Known
pub mod Places
pub mod Same
pub mod Sound
