pub mod Addresses
pub mod Crews
pub mod ServeWords
pub mod Serving
