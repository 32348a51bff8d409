pub mod Changes
pub mod Edits
pub mod Places
pub mod Positions
pub mod Tables
pub mod Views
