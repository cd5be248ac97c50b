pub mod Candidates
pub mod Creation
pub mod Decide
pub mod Deletion
pub mod Index
pub mod Leading
pub mod Listed
pub mod SuperUsers
