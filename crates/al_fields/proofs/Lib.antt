pub mod Escapes
pub mod ObjectTexts
pub mod Steps
