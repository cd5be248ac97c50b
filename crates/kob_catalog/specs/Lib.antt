pub mod Topics
pub mod Kept
pub mod Lends
pub use Rattle.kob_names.specs.Same
pub use Rattle.kob_partition.specs.Meaning
pub use Rattle.kob_partition.specs.Retained
