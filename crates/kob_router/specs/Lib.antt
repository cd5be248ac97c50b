pub mod Line
pub mod Route
pub mod Run
pub mod Tick
