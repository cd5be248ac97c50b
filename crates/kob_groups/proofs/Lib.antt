pub mod CommitReads
pub mod Listings
pub mod Maps
mod Words
