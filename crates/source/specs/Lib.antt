pub mod Source
pub mod InnerSteps
