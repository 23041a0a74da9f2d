pub mod Buffers
pub mod InnerSteps
