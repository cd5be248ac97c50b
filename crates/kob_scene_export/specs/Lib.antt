pub mod Bindings
pub mod Connector
pub mod Plain
pub mod Server
pub mod Topics
