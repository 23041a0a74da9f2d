pub mod Calls
pub mod Handed
pub mod Claim
pub mod InnerSteps
