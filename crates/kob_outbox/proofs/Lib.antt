pub mod Business
pub mod Events
pub mod Holding
pub mod Lawful
pub mod Reading
pub mod Recording
pub mod Sweeping
pub mod Texts
mod ZeroBytes
pub mod statements
