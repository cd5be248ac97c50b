pub mod Histories
pub mod Showing
mod Words
