mod Words
pub mod OnNames
pub mod Following
pub mod Lasting
pub mod Opening
pub mod Unsharing
pub mod Lists
pub mod InTurn
mod Logged
mod ServedRuns
mod Breaches
mod OtherSteps
mod RouterKept
mod RouterRun
mod Repeats
mod RepeatsRun
mod SeveralRun
mod ConsumerKept
mod ConsumerRun
mod Arriving
mod Reaching
pub mod BrokerSteps
pub mod Rows
pub mod Laws
pub mod Reserving
mod ExampleWords
mod Samples
mod Example
mod OtherBroker
mod SharedTopics
mod Needed
mod NeededTopic
mod NeededShared
mod ReservedExample
mod NeededRules
