pub mod Why
pub mod Handed
pub mod Claim
pub mod InnerSteps
