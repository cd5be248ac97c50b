pub mod Answered
pub mod Checked
pub mod ConsumerRunning
pub mod Expecting
pub mod Kept
pub mod Listed
pub mod Places
pub mod Played
pub mod Polling
pub mod Running
pub mod Services
pub mod Stopping
pub mod Taking
pub mod Ticking
mod Words
pub mod Written
