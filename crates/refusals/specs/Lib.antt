pub mod Table
pub mod Limits
pub mod Rows
pub mod InnerSteps
