pub mod FormatLaws
pub mod FrameLaws
pub mod Loops
pub mod PatternTests
pub mod WithinLaws
