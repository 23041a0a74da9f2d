pub mod Verdict
pub mod Job
pub mod Handed
pub mod Rows
pub mod Layouts
pub mod Demand1
pub mod Demand3
pub mod InnerSteps
