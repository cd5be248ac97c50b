pub mod Ordered
pub mod OrderedLends
pub mod Slots
pub use Rattle.kob_names.specs.Same
