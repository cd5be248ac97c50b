pub mod BatchOutcomes
pub mod Decisions
pub mod EachPartition
pub mod Just
pub mod Lifting
pub mod Offsets
pub mod Spending
pub mod Steps
pub mod SuperUsers
mod Words
