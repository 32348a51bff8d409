pub mod Commands
pub mod Draws
pub mod Drills
pub mod Lines
pub mod Sessions
pub mod Statuses
pub mod Told
pub mod Words
