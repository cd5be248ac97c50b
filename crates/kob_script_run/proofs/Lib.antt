pub mod Ends
pub mod InputLines
pub mod Outputs
pub mod Parts
pub mod PrintedRecords
pub mod PrintedReplies
pub mod ReadBytes
pub mod RunTexts
mod Words
