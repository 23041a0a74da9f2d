pub mod Choice
pub mod Binary64
pub mod Size
pub mod Root
pub mod InnerSteps
