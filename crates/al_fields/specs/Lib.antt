pub mod Leaves
pub mod Lengths
pub mod Members
pub mod Texts
