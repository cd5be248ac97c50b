pub mod History
pub mod InTurn
pub mod Pairing
pub mod Running
pub mod Seen
