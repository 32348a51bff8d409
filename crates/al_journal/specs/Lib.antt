pub mod Births
pub mod Blocks
pub mod Calls
pub mod Format
pub mod Images
pub mod Laws
pub mod Views
pub mod Walks
