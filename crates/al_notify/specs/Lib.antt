pub mod Logs
pub mod Modes
pub mod Rules
