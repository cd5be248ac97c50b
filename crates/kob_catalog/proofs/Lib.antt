pub mod Topics
mod Words
