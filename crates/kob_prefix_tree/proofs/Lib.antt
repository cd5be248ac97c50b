pub mod BelowLemmas
pub mod Blocks
pub mod Ends
pub mod Firsts
pub mod HeldLaws
pub mod InPlaceLemmas
pub mod PartsLemmas
pub mod WalkLemmas
pub mod WayLemmas
mod Words
