pub mod Reason
pub mod Table
pub mod Requests
pub use Rattle.kob_names.specs.Binding
