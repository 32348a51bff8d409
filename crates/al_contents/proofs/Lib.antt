pub mod Editing
pub mod Parting
pub mod Positions
pub mod Sides
