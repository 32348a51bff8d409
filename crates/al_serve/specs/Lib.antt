pub mod Conversations
pub mod Doors
pub mod Exchanges
pub mod Laws
pub mod Left
pub mod MemDoors
pub mod Workers
