pub mod Course
pub mod Joined
pub mod InnerSteps
