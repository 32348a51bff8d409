pub mod Asked
pub mod Moves
pub mod Prepared
pub mod Prepares
pub mod Summaries
pub mod Verdicts
