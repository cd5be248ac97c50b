pub mod Calls
pub mod Joined
pub mod ProgramFaults
pub mod Received
pub mod Relayed
pub mod Servers
