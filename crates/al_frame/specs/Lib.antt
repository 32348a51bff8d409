pub mod Codes
pub mod Formats
pub mod Frames
