pub mod Tables
pub mod Angle
pub mod InnerSteps
