pub mod Cells
pub mod Contents
pub mod Held
pub mod Nodes
pub mod Owned
pub mod Path
pub mod Serials
pub mod Tree
