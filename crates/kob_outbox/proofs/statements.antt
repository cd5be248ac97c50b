-- One statement on one table, whatever the tables are for.
pub mod Ignoring
pub mod Plain
pub mod Selecting
pub mod Steps
pub mod Values
pub mod Words
