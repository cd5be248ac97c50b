mod Words
pub mod Asking
pub mod Chains
pub mod Doing
pub mod Growing
pub mod Idempotence
pub mod Knowing
pub mod Making
pub mod Moving
pub mod Numbering
pub mod Passing
pub mod Placing
pub mod Recording
pub mod Remarking
pub mod Stages
pub mod Standing
pub mod Taken
