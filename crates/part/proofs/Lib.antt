pub mod Front
pub mod Found
pub mod Row
pub mod Claim
pub mod Samples
