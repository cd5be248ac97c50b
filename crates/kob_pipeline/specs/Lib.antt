pub mod Types
pub mod Served
pub mod Noting
pub mod Steps
pub mod Plans
pub mod Pipelines
