pub mod Compare
pub mod Claim
