pub mod Ids
pub mod ReadBackBindings
pub mod ReadBackCommands
pub mod ReadBackEvents
pub mod ReadBackFilters
pub mod ReadBackLine
pub mod ReadBackProduce
pub mod ReadBackRecords
pub mod ReadBackRequests
pub mod ReadBackScenes
pub mod ReadBackTexts
pub mod ReadBackWords
pub mod SceneLines
pub mod ScriptLines
mod Words
