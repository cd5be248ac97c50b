pub mod Journals
pub mod Sessions
pub mod Fleets
pub mod Runs
