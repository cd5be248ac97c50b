pub mod Groups
pub mod Listed
pub mod Kept
pub use Rattle.kob_names.specs.Same
pub use Rattle.kob_ordered.specs.Ordered
