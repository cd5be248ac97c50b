pub mod Contents
pub mod Database
pub mod Run
pub mod Tick
