pub mod Intakes
pub mod Reading
pub mod Texts
pub mod Ticking
pub mod Words
