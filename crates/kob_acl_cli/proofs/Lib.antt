pub mod AsciiList
pub mod FirstFaults
pub mod LineFacts
