pub mod CheckedLines
pub mod Each
pub mod LineFaults
pub mod LineWords
pub mod RawWords
mod Imports
