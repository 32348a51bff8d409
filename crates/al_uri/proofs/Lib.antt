pub mod Gathered
pub mod Texts
pub mod Within
mod Reports
