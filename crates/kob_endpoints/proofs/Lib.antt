pub mod Endings
pub mod Entries
mod Followings
pub mod InTurn
mod Keepings
pub mod Reachings
pub mod Runs
pub mod Servings
pub mod Takings
mod Words
