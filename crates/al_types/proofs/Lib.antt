pub mod Building
pub mod Derivations
pub mod Found
pub mod Heirs
pub mod InventoryTests
pub mod RowLemmas
pub mod SoundTests
pub mod Told
