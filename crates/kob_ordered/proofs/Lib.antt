pub mod Entries
pub mod Listed
pub mod Places
pub mod Search
pub mod Sound
mod Words
