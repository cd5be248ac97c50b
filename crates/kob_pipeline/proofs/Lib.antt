mod Words
pub mod Ended
pub mod Worked
pub mod PlanRows
pub mod PlanLaws
