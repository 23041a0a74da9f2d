pub mod Walk
pub mod Spans
pub mod Branches
pub mod InnerSteps
