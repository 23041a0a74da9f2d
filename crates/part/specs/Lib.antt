pub mod Part
pub mod Claim
