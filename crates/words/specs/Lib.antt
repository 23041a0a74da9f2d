pub mod Words
pub mod InnerSteps
