pub mod Words
pub mod Journals
pub mod Crossing
pub mod Claims
pub mod Differences
pub mod Fleets
pub mod Seats
pub mod Misfits
