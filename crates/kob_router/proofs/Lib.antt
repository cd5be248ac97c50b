mod Examples
pub mod Lawful
pub mod Runs
mod Vectors
mod Words
