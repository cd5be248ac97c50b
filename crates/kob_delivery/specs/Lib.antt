pub mod Reserved
pub mod Types
pub mod View
pub mod Served
pub mod Delivered
pub mod Repeats
pub mod Several
pub mod InTurn
