pub mod ClapFacts
pub mod CommandLines
pub mod Ends
pub mod Exported
pub mod First
pub mod Reading
pub mod Lent
pub mod Sharing
