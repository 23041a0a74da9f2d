pub mod Read
pub mod Same
pub mod Back
pub mod InnerSteps
