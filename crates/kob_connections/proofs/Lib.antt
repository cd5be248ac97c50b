pub mod Adding
pub mod ConsumerCourses
pub mod Relaying
pub mod ServiceCourses
mod Words
