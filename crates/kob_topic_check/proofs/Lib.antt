pub mod Ids
pub mod Listed
