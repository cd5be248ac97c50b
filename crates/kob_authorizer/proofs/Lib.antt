pub mod Creating
pub mod Deleting
pub mod Entries
pub mod IndexSteps
pub mod Leading
pub mod LeastHits
pub mod Lists
pub mod SuperUsers
pub mod Verdicts
mod Words
