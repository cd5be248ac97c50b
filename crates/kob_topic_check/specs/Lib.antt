pub mod Findings
pub mod Lists
pub mod Reads
