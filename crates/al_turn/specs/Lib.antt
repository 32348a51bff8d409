pub mod Histories
pub mod Identities
pub mod Laws
pub mod Passes
pub mod Rule
pub mod Views
