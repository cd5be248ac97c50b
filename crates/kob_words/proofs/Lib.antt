pub mod Appending
pub mod AsciiText
pub mod Choices
pub mod Escapes
pub mod Numbers
pub mod PlainRuns
pub mod ReadBack
