pub mod Answers
pub mod Cells
pub mod Changes
pub mod Columns
pub mod Csv
pub mod Json
pub mod Logs
